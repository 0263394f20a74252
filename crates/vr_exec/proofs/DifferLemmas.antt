-- Changes as the differences of two maps of files.
use Rattle.std.proofs.Common.{◌≡◌, ℕ, Bool, true, false, cond, List, [], ◌∷◌, Option, Some, None, Contains, refl, sym, ap, ◌∙◌}
use Rattle.std.specs.Prelude.{is_some, unwrap_or, if◌then◌else◌}
use Rattle.std.specs.Cmp.Lexicographic.{bytes_decides, texts_ties}
use Rattle.std.specs.FinMap.{find, get, same_map}
use Rattle.std.specs.Ordering.{eq_by_cmp}
use Rattle.std.proofs.lemmas.Slice.Eq.{bytes_eq-Decides}
use Rattle.vr_files.specs.Changes.{Change, AreDifferences, difference, same_file}
use Rattle.vr_files.specs.Entries.{AreSorted}
use Rattle.vr_files.specs.FileMaps.{FileMap, path_cmp}
use Rattle.vr_files.proofs.EntryLemmas.{paths_total, one_path}
use Rattle.vr_files.proofs.OverlayLemmas.{get-applied}
use Rattle.vr_rights.proofs.LongestLemmas.{Contains-cons_cases, never_in_nothing}
use Rattle.std.proofs.Common.{◌⊎◌, inl, inr}

same_itself : (file : Option (List ℕ)) → same_file file file ≡ true
same_itself None = refl
same_itself (Some bytes) = (bytes_eq-Decides bytes bytes).1 refl

same_from_file : (a b : Option (List ℕ)) → same_file a b ≡ true → a ≡ b
same_from_file None None h = refl
same_from_file None (Some b) h = cc
same_from_file (Some a) None h = cc
same_from_file (Some a) (Some b) h = ap Some ((bytes_eq-Decides a b).0 h)

chosen : (b : Bool) (old new : Option (List ℕ)) → same_file old new ≡ b → unwrap_or (if b then None else Some new) old ≡ new
chosen true old new h = same_from_file old new h
chosen false old new h = refl

-- what is as before makes no difference
pub no_difference : (old new : Option (List ℕ)) → new ≡ old → difference old new ≡ None
no_difference old new h = ap (difference old) h ∙ ap (λ b. if b then None else Some old) (same_itself old)

-- changes that are found exactly where the files differ make the one of the other
pub differences_from : (old new : FileMap) (changes : List Change) → AreSorted changes
    → ((path : List ℕ) → find path_cmp path changes ≡ difference (get old path) (get new path)) → AreDifferences old new changes
differences_from old new changes sorted exact = record {
  in_order = sorted;
  exact = exact;
  applied = same_map paths_total one_path _ _ (λ q.
      get-applied old changes q sorted ∙ ap (λ o. unwrap_or o (get old q)) (exact q)
      ∙ chosen (same_file (get old q) (get new q)) (get old q) (get new q) refl);
}

tied : (path : List ℕ) → eq_by_cmp path_cmp path path ≡ true
tied path = sym (texts_ties path path) ∙ (bytes_decides path path).1 refl

found_listed : (changes : List Change) (change : Change) → Contains changes change → is_some (find path_cmp change.0 changes) ≡ true
found_listed [] change h = absurd (never_in_nothing change h)
found_listed (c ∷ changes) change h = by_cases (Contains-cons_cases c changes change h) (found_listed changes change)
  where
    at : (b : Bool) → is_some (find path_cmp change.0 changes) ≡ true → is_some (cond b (Some c.1) (find path_cmp change.0 changes)) ≡ true
    at true k = refl
    at false k = k

    by_cases : (c ≡ change) ⊎ Contains changes change → (Contains changes change → is_some (find path_cmp change.0 changes) ≡ true) → is_some (find path_cmp change.0 (c ∷ changes)) ≡ true
    by_cases (inl same) rest =
        let here : eq_by_cmp path_cmp change.0 c.0 ≡ true = ap (λ (x : Change). eq_by_cmp path_cmp change.0 x.0) same ∙ tied change.0 in
        ap (λ b. is_some (cond b (Some c.1) (find path_cmp change.0 changes))) here
    by_cases (inr there) rest = at (eq_by_cmp path_cmp change.0 c.0) (rest there)

-- a path that is listed is not as before
pub listed_differs : (old new : FileMap) (changes : List Change) (change : Change) → AreDifferences old new changes → Contains changes change → get new change.0 ≡ get old change.0 → ⊥
listed_differs old new changes change h there same =
    let none : find path_cmp change.0 changes ≡ None = h.exact change.0 ∙ no_difference (get old change.0) (get new change.0) same in
    let clash : true ≡ false = sym (found_listed changes change there) ∙ ap is_some none in
    cc
