use Rattle.std.proofs.Common.{◌≡◌, None, subst, ap, sym, ◌∙◌}
use Rattle.std.specs.FinMap.{remove}
use Rattle.vr_files.specs.Entries.{AreSorted}
use Rattle.vr_files.specs.Changes.{Layers, applied, without_file}
use Rattle.vr_files.proofs.MapLemmas.{put_sorted}
use Rattle.vr_files.proofs.OverlayLemmas.{applied-put}
use Rattle.vr_files.proofs.overlay.Overlay.remove.Goals as goal

pub invariant_of-self-2 : goal.invariant_of-self-2
invariant_of-self-2 c = let h = c.in_ok-put.ensures.ok in subst AreSorted (sym h) (put_sorted _ _ c.self.inside.changed.items c.self.invariant)

pub returns-clause-ok : goal.returns-clause-ok
returns-clause-ok c =
    let base = c.self.inside.base.map in
    let es = c.self.inside.changed.items in
    let path = c.args.path.now in
    let layers : applied base c.put.new.entries.items ≡ remove (applied base es) path =
    ap (λ x. applied base x) c.in_ok-put.ensures.ok ∙ applied-put base es c.in_ok-copy.field-0 None c.self.invariant ∙ ap (λ k. remove (applied base es) k) c.in_ok-copy.ensures in
    ap (λ (x : _). let l : Layers = record { base = base; files = x } in l) layers ∙ ap (λ (l : Layers). without_file l path) c.self.view_is
