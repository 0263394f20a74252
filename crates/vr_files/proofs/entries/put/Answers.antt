use Rattle.std.proofs.Common.{subst, set, ap, sym, ◌∙◌}
use Rattle.vr_files.specs.Entries.{IsAt, IsGap}
use Rattle.vr_files.proofs.EntryLemmas.{put_at, put_gap}
use Rattle.vr_files.proofs.entries.put.Goals as goal

pub returns-in-Ok-clause-ok : goal.returns-in-Ok-clause-ok
returns-in-Ok-clause-ok g c =
    let es = c.args.entries.now.items in
    let e = c.index_mut.result.now in
    let at : IsAt c.args.path es c.in-Ok.place = subst (λ x. IsAt c.args.path x c.in-Ok.place) c.deref.ensures.value c.in-Ok.ensures.found in
    ap (λ (x : _). set es c.in-Ok.place (x.0, c.args.value)) c.index_mut.ensures.value ∙ sym (put_at c.args.path c.args.value es c.in-Ok.place e at)

pub returns-in_ok-insert-in-Err-clause-ok : goal.returns-in_ok-insert-in-Err-clause-ok
returns-in_ok-insert-in-Err-clause-ok g c =
    let es = c.args.entries.now.items in
    let gap : IsGap c.args.path es c.in-Err.place = subst (λ x. IsGap c.args.path x c.in-Err.place) c.deref.ensures.value c.in-Err.ensures.absent in
    c.in_ok-insert-in-Err.ensures.items ∙ sym (put_gap c.args.path c.args.value es c.in-Err.place gap)
