use Rattle.std.proofs.Common.{◌≡◌, Some, Ok, subst, ap, sym, ◌∙◌}
use Rattle.std.specs.FinMap.{insert}
use Rattle.vr_base.specs.Checks.{result_map}
use Rattle.vr_files.specs.Entries.{AreSorted}
use Rattle.vr_files.specs.Changes.{Layers, applied, with_file}
use Rattle.vr_files.proofs.MapLemmas.{put_sorted}
use Rattle.vr_files.proofs.OverlayLemmas.{applied-put}
use Rattle.vr_files.proofs.overlay.Overlay.put.Goals as goal

pub invariant_of-self-2 : goal.invariant_of-self-2
invariant_of-self-2 c = let h = c.in_ok-put.ensures.ok in subst AreSorted (sym h) (put_sorted _ _ c.self.inside.changed.items c.self.invariant)

pub returns : goal.returns
returns c =
    let base = c.self.inside.base.map in
    let es = c.self.inside.changed.items in
    let path = c.args.path.now in
    let body = c.in_ok-body.body in
    let layers : applied base c.put.new.entries.items ≡ insert (applied base es) path body =
    ap (λ x. applied base x) c.in_ok-put.ensures.ok ∙ applied-put base es c.in_ok-copy.field-0 (Some body) c.self.invariant ∙ ap (λ k. insert (applied base es) k body) c.in_ok-copy.ensures in
    ap (λ r. result_map (with_file c.args.self.now path) r) c.in_ok-body.ensures
    ∙ ap Ok (sym (ap (λ (x : _). let l : Layers = record { base = base; files = x } in l) layers ∙ ap (λ (l : Layers). with_file l path body) c.self.view_is))
