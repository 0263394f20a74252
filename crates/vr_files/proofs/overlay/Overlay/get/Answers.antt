use Rattle.std.proofs.Common.{ap, sym, ◌∙◌}
use Rattle.std.specs.Prelude.{unwrap_or}
use Rattle.std.specs.FinMap.{find, get}
use Rattle.vr_files.specs.FileMaps.{path_cmp}
use Rattle.vr_files.specs.Changes.{Layers}
use Rattle.vr_files.proofs.OverlayLemmas.{get-applied}
use Rattle.vr_files.proofs.overlay.Overlay.get.Goals as goal

pub returns-in-Some : goal.returns-in-Some
returns-in-Some c =
    let base = c.self.inside.base.map in
    let path = c.args.path.now in
    c.as_ref.ensures.value ∙ ap (λ o. unwrap_or o (get base path)) (c.in-Some.ensures ∙ ap (λ es. find path_cmp path es) c.deref.ensures.value)
    ∙ sym (get-applied base c.self.inside.changed.items path c.self.invariant) ∙ ap (λ (l : Layers). get l.files path) c.self.view_is

pub returns-in-None : goal.returns-in-None
returns-in-None c =
    let base = c.self.inside.base.map in
    let path = c.args.path.now in
    c.get-in-None.ensures ∙ ap (λ o. unwrap_or o (get base path)) (c.in-None.ensures ∙ ap (λ es. find path_cmp path es) c.deref.ensures.value)
    ∙ sym (get-applied base c.self.inside.changed.items path c.self.invariant) ∙ ap (λ (l : Layers). get l.files path) c.self.view_is
