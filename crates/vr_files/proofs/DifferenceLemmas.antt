-- The changes that make a difference.
use Rattle.std.proofs.Common.{◌≡◌, ℕ, Bool, true, false, cond, not, List, [], ◌∷◌, map, Option, Some, None, refl, sym, ap, subst, ◌∙◌}
use Rattle.std.specs.Prelude.{unwrap_or, bytes_eq, filter, if◌then◌else◌}
use Rattle.std.specs.List.{IsDistinct, AllByRecursion}
use Rattle.std.specs.Ordering.{is_eq, is_lt, eq_by_cmp}
use Rattle.std.specs.declared.cmp.Ordering.TheVariants.{Less}
use Rattle.std.specs.FinMap.{find, get, same_map}
use Rattle.std.specs.FinMap.Entries.{below_all}
use Rattle.std.proofs.lemmas.Bool.{and_from}
use Rattle.std.proofs.lemmas.Slice.Eq.{bytes_eq-Decides}
use Rattle.std.proofs.lemmas.Map.Text.{is_eq-slice_cmp}
use Rattle.vr_files.specs.FileMaps.{FileMap, path_cmp}
use Rattle.vr_files.specs.Entries.{AreSorted, AreAbove}
use Rattle.vr_files.specs.Changes.{Change, applied, body_of, same_file, difference, differs, AreDistinct, AreDifferences}
use Rattle.vr_files.proofs.EntryLemmas.{paths_total, one_path, rest_sorted, above_first, find_above}
use Rattle.vr_files.proofs.OverlayLemmas.{get-applied, one}

same_itself : (a : Option (List ℕ)) → same_file a a ≡ true
same_itself None = refl
same_itself (Some a) = (bytes_eq-Decides a a).1 refl

same_from_file : (a b : Option (List ℕ)) → same_file a b ≡ true → a ≡ b
same_from_file None None h = refl
same_from_file None (Some b) h = cc
same_from_file (Some a) None h = cc
same_from_file (Some a) (Some b) h = ap Some ((bytes_eq-Decides a b).0 h)

above_filter : (k : List ℕ) (p : Change → Bool) (es : List Change) → AreAbove k es → AreAbove k (filter p es)
above_filter k p [] a = tt
above_filter k p (e ∷ es) a = elim (p e) as (λ b. AreAbove k (cond b (e ∷ filter p es) (filter p es))) [ true ↦ (a.0, above_filter k p es a.1) | false ↦ above_filter k p es a.1 ]

all_below : (k : List ℕ) (es : List Change) → AreAbove k es → below_all path_cmp k es ≡ true
all_below k [] a = refl
all_below k (e ∷ es) a = and_from _ _ (ap is_lt a.0) (all_below k es a.1)

sorted_filter : (p : Change → Bool) (es : List Change) → AreSorted es → AreSorted (filter p es)
sorted_filter p [] s = refl
sorted_filter p (e ∷ es) s =
    let rest = sorted_filter p es (rest_sorted e es s) in
    elim (p e) as (λ b. AreSorted (cond b (e ∷ filter p es) (filter p es))) [
      | true ↦ and_from _ _ (all_below e.0 (filter p es) (above_filter e.0 p es (above_first e es s))) rest
      | false ↦ rest
    ]

-- what is found among the changes that make a difference
found : (base : FileMap) (es : List Change) (q : List ℕ) → AreSorted es → find path_cmp q (filter (differs base) es) ≡ difference (get base q) (body_of base es q)
found base [] q s = ap (λ b. if b then None else Some (get base q)) (sym (same_itself (get base q)))
found base (e ∷ es) q s =
    let rest = found base es q (rest_sorted e es s) in
    let p = differs base in
    elim (eq_by_cmp path_cmp q e.0) as (λ t. eq_by_cmp path_cmp q e.0 ≡ t
    → find path_cmp q (cond (p e) (e ∷ filter p es) (filter p es)) ≡ difference (get base q) (unwrap_or (cond t (Some e.1) (find path_cmp q es)) (get base q))) [
      | true ↦ λ t.
          let same : q ≡ e.0 = one q e.0 t in
          let none : find path_cmp q (filter p es) ≡ None = find_above q (filter p es) (above_filter q p es (subst (λ k. AreAbove k es) (sym same) (above_first e es s))) in
          let here : difference (get base q) e.1 ≡ difference (get base e.0) e.1 = ap (λ k. difference (get base k) e.1) same in
          elim (same_file (get base e.0) e.1) as (λ b. find path_cmp q (cond (not b) (e ∷ filter p es) (filter p es)) ≡ (if b then None else Some e.1)) [
            | true ↦ none
            | false ↦ ap (λ b. cond b (Some e.1) (find path_cmp q (filter p es))) t
          ] ∙ sym here
      | false ↦ λ t.
          elim (p e) as (λ b. find path_cmp q (cond b (e ∷ filter p es) (filter p es)) ≡ find path_cmp q (filter p es)) [
            | true ↦ ap (λ b. cond b (Some e.1) (find path_cmp q (filter p es))) t
            | false ↦ refl
          ] ∙ rest
    ] refl

chosen : (b : Bool) (old new : Option (List ℕ)) → same_file old new ≡ b → unwrap_or (if b then None else Some new) old ≡ new
chosen true old new h = same_from_file old new h
chosen false old new h = refl

pub differences_of : (base : FileMap) (es : List Change) → AreSorted es → AreDifferences base (applied base es) (filter (differs base) es)
differences_of base es s = record {
  in_order = sorted_filter (differs base) es s;
  exact = λ q. found base es q s ∙ ap (difference (get base q)) (sym (get-applied base es q s));
  applied = same_map paths_total one_path _ _ (λ q.
      get-applied base (filter (differs base) es) q (sorted_filter (differs base) es s) ∙ ap (λ o. unwrap_or o (get base q)) (found base es q s)
      ∙ chosen (same_file (get base q) (body_of base es q)) (get base q) (body_of base es q) refl ∙ sym (get-applied base es q s));
}

unlike : (x y : List ℕ) → path_cmp x y ≡ Less → bytes_eq x y ≡ false
unlike x y h = sym (is_eq-slice_cmp x y) ∙ ap is_eq h

unlike_all : (k : List ℕ) (es : List Change) → AreAbove k es → AllByRecursion (λ y. bytes_eq k y ≡ false) (map (λ e. e.0) es)
unlike_all k [] a = tt
unlike_all k (e ∷ es) a = (unlike k e.0 a.0, unlike_all k es a.1)

-- sorted changes have distinct paths
pub distinct_from_sorted : (es : List Change) → AreSorted es → AreDistinct es
unfolding IsDistinct
distinct_from_sorted [] s = tt
distinct_from_sorted (e ∷ es) s = (unlike_all e.0 es (above_first e es s), distinct_from_sorted es (rest_sorted e es s))
