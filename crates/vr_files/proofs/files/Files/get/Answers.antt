use Rattle.std.proofs.Common.{ℕ, List, Some, subst, ap, sym, ◌∙◌}
use Rattle.std.specs.FinMap.{get}
use Rattle.vr_files.specs.Entries.{IsAt, IsGap}
use Rattle.vr_files.specs.FileMaps.{FileTable}
use Rattle.vr_files.proofs.EntryLemmas.{find_at, find_gap}
use Rattle.vr_files.proofs.MapLemmas.{get-made}
use Rattle.vr_files.proofs.files.Files.get.Goals as goal

pub returns-in-Ok : goal.returns-in-Ok
returns-in-Ok c =
    let es = c.self.inside.entries.items in
    let path = c.args.path.now in
    let place = c.in-Ok.place in
    let at : IsAt path es place = subst (λ x. IsAt path x place) c.deref.ensures.value c.in-Ok.ensures.found in
    ap Some c.body.ensures ∙ ap (λ (x : List ℕ × List ℕ). Some x.1) c.index.ensures ∙ sym (find_at path es place c.index.result.now at) ∙ sym (get-made es path c.self.invariant)
    ∙ ap (λ (t : FileTable). get t.map path) c.self.view_is

pub returns-in-Err : goal.returns-in-Err
returns-in-Err c =
    let es = c.self.inside.entries.items in
    let path = c.args.path.now in
    let place = c.in-Err.field-0 in
    let gap : IsGap path es place = subst (λ x. IsGap path x place) c.deref.ensures.value c.in-Err.ensures.absent in
    sym (find_gap path es place gap) ∙ sym (get-made es path c.self.invariant) ∙ ap (λ (t : FileTable). get t.map path) c.self.view_is
