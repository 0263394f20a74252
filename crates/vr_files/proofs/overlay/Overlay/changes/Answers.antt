use Rattle.std.proofs.Common.{subst, sym, ◌∙◌}
use Rattle.vr_files.specs.Changes.{Layers, applied, AreDistinct, AreDifferences}
use Rattle.vr_files.proofs.DifferenceLemmas.{differences_of, distinct_from_sorted}
use Rattle.vr_files.proofs.overlay.Overlay.changes.Goals as goal

pub of-requires : goal.of-requires
of-requires c =
    let all = differences_of c.self.inside.base.map c.self.inside.changed.items c.self.invariant in
    subst AreDistinct (sym c.in_ok-differing.ensures) (distinct_from_sorted _ all.in_order)

pub returns : goal.returns
returns c =
    subst (λ (l : Layers). AreDifferences l.base l.files c.of.result) c.self.view_is
    (subst (λ x. AreDifferences c.self.inside.base.map (applied c.self.inside.base.map c.self.inside.changed.items) x) (sym (c.of.ensures ∙ c.in_ok-differing.ensures)) (differences_of c.self.inside.base.map c.self.inside.changed.items c.self.invariant))
