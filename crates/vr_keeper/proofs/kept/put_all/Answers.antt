use Rattle.std.proofs.Common.{[], ◌∷◌, sym, ap, ◌∙◌, arith, length-append}
use Rattle.vr_files.specs.Changes.{Change, applied, changed}
use Rattle.vr_files.proofs.ChangeLemmas.{applied-push}
use Rattle.vr_keeper.proofs.kept.put_all.Goals as goal

pub loop-path-preserved : goal.loop-path-preserved
loop-path-preserved c =
    let path = c.in-Some.path in
    let body = c.in-Some.body in
    let so_far = c.loop-path.yielded in
    record {
      put = λ files. c.put.ensures.applied files ∙ ap (λ m. changed m path body) (c.loop-path.invariant.put files) ∙ sym (applied-push (applied files c.args.edits.now.changes) so_far path body);
      room = omega (arith, c.put.ensures.spare, length-append {A = Change} so_far ((path, body) ∷ []));
    }
