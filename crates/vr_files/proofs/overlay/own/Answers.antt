use Rattle.std.proofs.Common.{ℕ, List, get_or, ◌≡◌, false, ◌∷◌, ◌++◌, take, drop, None, Some, subst, ap, sym, ◌∙◌}
use Rattle.std.specs.Prelude.{unwrap_or, is_some}
use Rattle.std.specs.FinMap.{get, find}
use Rattle.vr_files.specs.FileMaps.{path_cmp}
use Rattle.vr_files.specs.Entries.{IsAt, IsGap}
use Rattle.vr_files.specs.Changes.{Change}
use Rattle.vr_files.proofs.EntryLemmas.{find_gap, at_put, value_put, put_gap}
use Rattle.vr_files.proofs.OverlayLemmas.{owns_found, owns_added}
use Rattle.vr_files.proofs.overlay.own.Goals as goal

pub unreachable-requires : goal.unreachable-requires
unreachable-requires c =
    let es = c.args.changed.now.items in
    let path = c.args.path.now in
    let base = c.args.base.now.map in
    let gap : IsGap path es c.in-Err.place = subst (λ x. IsGap path x c.in-Err.place) c.deref.ensures.value c.in-Err.ensures.absent in
    let none : get base path ≡ None = sym c.in-None.ensures in
    let e : is_some (unwrap_or (find path_cmp path es) (get base path)) ≡ false = ap (λ o. is_some (unwrap_or o (get base path))) (find_gap path es c.in-Err.place gap) ∙ ap is_some none in
    cc (c.requires.there, e)

pub returns-in-Ok-clause-ok : goal.returns-in-Ok-clause-ok
returns-in-Ok-clause-ok c =
    let es = c.args.changed.now.items in
    let path = c.args.path.now in
    owns_found c.args.base.now.map es path c.in-Ok.place c.requires.sorted (subst (λ x. IsAt path x c.in-Ok.place) c.deref.ensures.value c.in-Ok.ensures.found)

pub returns-in_ok-insert-in-Err-clause-ok : goal.returns-in_ok-insert-in-Err-clause-ok
returns-in_ok-insert-in-Err-clause-ok c =
    let es = c.args.changed.now.items in
    let path = c.args.path.now in
    let base = c.args.base.now.map in
    let i = c.in-Err.place in
    let body = c.in_ok-body-in-Some.body in
    let gap : IsGap path es i = subst (λ x. IsGap path x i) c.deref.ensures.value c.in-Err.ensures.absent in
    let new : c.insert.new.self.items ≡ take i es ++ (path, Some body) ∷ drop i es =
    c.in_ok-insert-in-Err.ensures.items ∙ ap (λ (k : List ℕ). take i es ++ (k, Some body) ∷ drop i es) c.in_ok-copy-in-Err.ensures in
    owns_added base es c.insert.new.self.items path (Some body) i c.requires.sorted gap (ap Some c.in_ok-body-in-Some.ensures ∙ c.in-Some.ensures)
    (new ∙ sym (put_gap path (Some body) es i gap)) (subst (λ x. IsAt path x i) (sym new) (at_put path (Some body) es i gap))
    (λ d. ap (λ x. (get_or x i d).1) new ∙ ap (λ (e : Change). e.1) (value_put path (Some body) es i d gap.within))
