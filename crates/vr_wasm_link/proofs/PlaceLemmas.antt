-- The first place at which a test passes, as a loop finds it.
use Rattle.std.proofs.Common.{◌≡◌, ℕ, zero, suc, ◌+◌, ◌<◌, ◌≤◌, List, [], ◌∷◌, Option, None, Some, Bool, true, false, cond, take, get_or, length, refl, sym, subst, ap, ◌∙◌, arith}
use Rattle.std.specs.Prelude.{All, IfSome, IsFalse, ◌^◌}
use Rattle.std.specs.List.{position_from}
use Rattle.std.proofs.lemmas.List.Elements.{All-cons, All-nil}

-- where no item passes, the first one doesn't, nor one after it
pub none_first : {X : Type 0} (p : X → Bool) (y : X) (ys : List X) (from : ℕ) (b : Bool) → p y ≡ b
    → position_from p from (y ∷ ys) ≡ None → (p y ≡ false) × (position_from p (from + 1) ys ≡ None)
none_first {X} p y ys from true is none =
    let P : Bool → Type 0 = λ b. cond b (Some from) (position_from p (from + 1) ys) ≡ None in
    let never : Some from ≡ None = subst P is none in
    let bottom : ⊥ = cc never in absurd bottom
none_first {X} p y ys from false is none =
    let P : Bool → Type 0 = λ b. cond b (Some from) (position_from p (from + 1) ys) ≡ None in
    (is, subst P is none)

-- it doesn't pass at the first item
first_fails : {X : Type 0} (p : X → Bool) (y : X) (ys : List X) (from : ℕ) (r : Option ℕ) → p y ≡ false
    → position_from p (from + 1) ys ≡ r → position_from p from (y ∷ ys) ≡ r
first_fails p y ys from r is rest =
    let P : Bool → Type 0 = λ b. cond b (Some from) (position_from p (from + 1) ys) ≡ r in
    subst P (sym is) rest

first_passes : {X : Type 0} (p : X → Bool) (y : X) (ys : List X) (from : ℕ) → p y ≡ true
    → position_from p from (y ∷ ys) ≡ Some from
first_passes p y ys from is =
    let P : Bool → Type 0 = λ b. cond b (Some from) (position_from p (from + 1) ys) ≡ Some from in
    subst P (sym is) refl

-- where no item passes, each fails
pub none_all : {X : Type 0} (p : X → Bool) (xs : List X) (from : ℕ) → position_from p from xs ≡ None
    → All (λ x. IsFalse (p x)) xs
none_all p [] from none = All-nil (λ x. IsFalse (p x))
none_all p (y ∷ ys) from none =
    let parts = none_first p y ys from (p y) refl none in
    All-cons (λ x. IsFalse (p x)) y ys parts.0 (none_all p ys (from + 1) parts.1)

-- it doesn't pass at the items so far, and passes at the next
pub found_next : {X : Type 0} (p : X → Bool) (xs : List X) (i : ℕ) (x : X) (from : ℕ)
    → i < length xs → x ≡ get_or xs i x → position_from p from (take i xs) ≡ None → p x ≡ true
    → position_from p from xs ≡ Some (from + i)
found_next p [] i x from within at none passes = let never : ⊥ = omega arith in absurd never
found_next p (y ∷ ys) zero x from within at none passes =
    let here : p y ≡ true = ap p (sym at) ∙ passes in
    let same : from ≡ from + 0 = omega arith in
    first_passes p y ys from here ∙ ap Some same
found_next p (y ∷ ys) (suc i) x from within at none passes =
    let before = none_first p y (take i ys) from (p y) refl none in
    let same : from + 1 + i ≡ from + suc i = omega arith in
    first_fails p y ys from (Some (from + suc i)) before.0
    (found_next p ys i x (from + 1) (omega arith) at before.1 passes ∙ ap Some same)

-- it doesn't pass at the items so far, nor at the next
pub none_more : {X : Type 0} (p : X → Bool) (xs : List X) (i : ℕ) (x : X) (from : ℕ)
    → i < length xs → x ≡ get_or xs i x → position_from p from (take i xs) ≡ None → p x ≡ false
    → position_from p from (take (i + 1) xs) ≡ None
none_more p [] i x from within at none fails = let never : ⊥ = omega arith in absurd never
none_more p (y ∷ ys) zero x from within at none fails =
    let here : p y ≡ false = ap p (sym at) ∙ fails in
    first_fails p y [] from None here refl
none_more {X} p (y ∷ ys) (suc i) x from within at none fails =
    let before = none_first p y (take i ys) from (p y) refl none in
    let one : suc i + 1 ≡ suc (i + 1) = omega arith in
    let P : ℕ → Type 0 = λ n. position_from p from (take n (y ∷ ys)) ≡ None in
    subst P (sym one) (first_fails p y (take (i + 1) ys) from None before.0
    (none_more p ys i x (from + 1) (omega arith) at before.1 fails))

-- a place that is found is one of the list's
within_first : {X : Type 0} (p : X → Bool) (y : X) (ys : List X) (from n : ℕ) (b : Bool) → p y ≡ b
    → position_from p from (y ∷ ys) ≡ Some n
    → (position_from p (from + 1) ys ≡ Some n → n < from + 1 + length ys) → n < from + length (y ∷ ys)
within_first p y ys from n true e is later =
    let same : Some from ≡ Some n = sym (first_passes p y ys from e) ∙ is in
    let eq : from ≡ n = cc same in
    omega arith
within_first p y ys from n false e is later =
    let k = later (sym (first_fails p y ys from (position_from p (from + 1) ys) e refl) ∙ is) in
    omega (arith, k)

pub found_within : {X : Type 0} (p : X → Bool) (xs : List X) (from n : ℕ)
    → position_from p from xs ≡ Some n → n < from + length xs
found_within p [] from n is = let never : ⊥ = cc is in absurd never
found_within p (y ∷ ys) from n is =
    within_first p y ys from n (p y) refl is (λ k. found_within p ys (from + 1) n k)

-- a place in a list that is short enough
pub index_fits : {X : Type 0} (p : X → Bool) (xs : List X) (found : Option ℕ) → length xs ≤ 65536
    → found ≡ position_from p 0 xs → IfSome found (λ place. place < 2 ^ 32)
index_fits p xs None few is = tt
index_fits p xs (Some n) few is = let k = found_within p xs 0 n (sym is) in omega (arith, k)
