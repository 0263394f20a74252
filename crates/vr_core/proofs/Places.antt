-- Entries that are found by their place in a list.
use Rattle.std.proofs.Common.{◌≡◌, ℕ, ◌<◌, ◌≤◌, ◌⊎◌, inl, inr, Bool, true, false, cond, List, [], ◌∷◌, map, length, get_or, None, Some, refl, sym, ap, ◌∙◌, arith}
use Rattle.std.specs.Prelude.{find, position, slice_get, ◌==◌, Ok}
use Rattle.std.specs.List.{position_or_len}
use Rattle.std.proofs.lemmas.List.Folds.{find_at}
use Rattle.std.proofs.lemmas.Option.{slice_get_past, slice_get_read, slice_get_cases}
use Rattle.vr_base.specs.Checks.{or_fault, result_map}
use Rattle.std.proofs.lemmas.Bool.Decides.{nat_tests}

module _ {X : Type 0} (key : X → ℕ) (id : ℕ) where
  same_place : (xs : List X) → position_or_len (λ k. k == id) (map key xs) ≡ position_or_len (λ x. key x == id) xs
  same_place [] = refl
  same_place (x ∷ xs) = rw (same_place xs) refl

  same_length : (xs : List X) → length (map key xs) ≡ length xs
  same_length [] = refl
  same_length (x ∷ xs) = rw (same_length xs) refl

  place_of_some : (b : Bool) (n place : ℕ) → cond b (Some n) None ≡ Some place → n ≡ place
  place_of_some true n place h = cc
  place_of_some false n place h = cc

  within_none : (b : Bool) (n : ℕ) → cond b (Some n) None ≡ None → b ≡ false
  within_none true n h = cc
  within_none false n h = refl

  -- what stands at the first place of a key is the first entry with that key
  pub found_by_place : (xs : List X) (place : ℕ) → position (λ k. k == id) (map key xs) ≡ Some place → find (λ y. key y == id) xs ≡ slice_get xs place
  found_by_place xs place at = find_at (λ y. key y == id) xs ∙ ap (slice_get xs) (sym (same_place xs) ∙ place_of_some _ _ _ at)

  -- the entry at the first place of its key is the first with that key
  pub found_at_place : (xs : List X) (place : ℕ) (x : X) → position (λ k. k == id) (map key xs) ≡ Some place → place < length xs
      → x ≡ get_or xs place x → find (λ y. key y == id) xs ≡ Some x
  found_at_place xs place x at within is =
      found_by_place xs place at ∙ slice_get_read xs (length xs) place x refl within is

  -- a key that has no place is no entry's
  pub not_found : (xs : List X) → position (λ k. k == id) (map key xs) ≡ None → find (λ y. key y == id) xs ≡ None
  not_found xs none =
      let past : length xs ≤ position_or_len (λ y. key y == id) xs =
      let beyond = rw (same_place xs, same_length xs) at (within_none _ _ none) in grind (arith, nat_tests, beyond) in
      find_at (λ y. key y == id) xs ∙ slice_get_past xs _ past

  -- the same, as what stands at a place
  pub placed : {E : Type 0} (fault : E) (xs : List X) (place : ℕ) → position (λ k. k == id) (map key xs) ≡ Some place → place < length xs
      → result_map (λ x. Some x) (or_fault fault (find (λ y. key y == id) xs)) ≡ Ok (slice_get xs place)
  placed fault xs place at within = by_cases ((slice_get_cases xs place).1)
    where
      by_cases : ((x : X) × (place < length xs) × (slice_get xs place ≡ Some x) × (get_or xs place x ≡ x)) ⊎ ((length xs ≤ place) × (slice_get xs place ≡ None))
          → result_map (λ x. Some x) (or_fault fault (find (λ y. key y == id) xs)) ≡ Ok (slice_get xs place)
      by_cases (inl (x, inside, e, same)) = rw (found_at_place xs place x at within (sym same), e) refl
      by_cases (inr (past, none)) = absurd (omega arith)
