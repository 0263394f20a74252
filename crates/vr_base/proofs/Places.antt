-- The first place at which a test passes, and the parts that it cuts off.
use Rattle.std.proofs.Common.{◌≡◌, ◌≢◌, ℕ, ◌<◌, Bool, true, false, cond, find, eqb, ltb, List, [], ◌∷◌, ◌++◌, length, take, drop, get_or, drop-cons, add-one, ◌+◌, ◌-◌, None, Some, position, All, sym, refl, arith}
use Rattle.std.specs.List.{position_or_len}
use Rattle.std.proofs.lemmas.List.Sums.{position_or_len_is, fails_before_first}
use Rattle.std.proofs.lemmas.List.Splits.{slice_split_at, slice_split_none}
use Rattle.std.proofs.lemmas.Bool.{ltb-false, le-ltb, lt-ltb, ne_eqb, eq-eqb}
use Rattle.std.proofs.lemmas.List.{take-append-drop, take_rest}
use Rattle.vr_base.specs.Cuts.{parts_at, IsFirstPlace}

module _ {X : Type 0} (p : X → Bool) where
  -- no element passes where no place does
  pub none_passes : (xs : List X) → position p xs ≡ None → All (λ x. p x ≡ false) xs
  none_passes xs h = from_test (ltb (position_or_len p xs) (length xs)) refl h
    where
      from_test : (t : Bool) → ltb (position_or_len p xs) (length xs) ≡ t → cond t (Some (position_or_len p xs)) None ≡ None → All (λ x. p x ≡ false) xs
      from_test true e k = cc
      from_test false e k = λ i d l. fails_before_first p xs i d (omega (arith, ltb-false _ _ e))

  -- no place passes where no element does
  pub passes_none : (xs : List X) (d : X) → ((k : ℕ) → k < length xs → p (get_or xs k d) ≡ false) → position p xs ≡ None
  passes_none xs d h =
      let whole : position_or_len p xs ≡ length xs = position_or_len_is p xs (length xs) d (omega arith) h (λ l. absurd (omega arith)) in
      rw whole (rw (le-ltb (length xs) (length xs) (omega arith)) refl)

  -- the place of an element that passes, where none before it does
  pub first_passes : (xs : List X) (i : ℕ) (d : X) → i < length xs → p (get_or xs i d) ≡ true → ((k : ℕ) → k < i → p (get_or xs k d) ≡ false) → position p xs ≡ Some i
  first_passes xs i d within here before =
      let first : position_or_len p xs ≡ i = position_or_len_is p xs i d (omega (arith, within)) before (λ _. here) in
      rw first (rw (lt-ltb i (length xs) within) refl)

pub parts_whole : (sign : ℕ) (bytes : List ℕ) → All (λ b. b ≢ sign) bytes → parts_at sign bytes ≡ bytes ∷ []
parts_whole sign bytes h = slice_split_none (λ b. eqb b sign) bytes (λ k d i. ne_eqb _ sign (h k d i))

pub parts_cut : (sign : ℕ) (bytes before rest : List ℕ) → bytes ≡ before ++ sign ∷ rest → All (λ b. b ≢ sign) before → parts_at sign bytes ≡ before ∷ parts_at sign rest
parts_cut sign bytes before rest e h = rw e (slice_split_at (λ b. eqb b sign) before sign rest (λ k d i. ne_eqb _ sign (h k d i)) (eq-eqb sign sign refl))

pub parts_place : (sign : ℕ) (bytes : List ℕ) (at : ℕ) → IsFirstPlace sign bytes at
    → parts_at sign bytes ≡ take at bytes ∷ parts_at sign (take (length bytes - (at + 1)) (drop (at + 1) bytes))
parts_place sign bytes at first =
    let lt : at < length bytes = first.within in
    let cut : drop at bytes ≡ sign ∷ drop (at + 1) bytes = rw (add-one, drop-cons bytes at 0, first.here) refl in
    let whole : bytes ≡ take at bytes ++ sign ∷ drop (at + 1) bytes = rw (← cut) (sym (take-append-drop at bytes)) in
    rw (take_rest bytes (at + 1)) (parts_cut sign bytes (take at bytes) (drop (at + 1) bytes) whole first.before)

-- an element that does not pass is passed by
pub find_past : {X : Type 0} (p : X → Bool) (xs : List X) (i : ℕ) (d : X) → i < length xs → p (get_or xs i d) ≡ false → find p (drop (i + 1) xs) ≡ find p (drop i xs)
find_past p xs i d h e =
    let next : drop i xs ≡ get_or xs i d ∷ drop (i + 1) xs = rw (add-one, drop-cons xs i d) refl in
    rw (next, e) refl
