-- The first of the greatest elements of a list.
use Rattle.std.proofs.Common.{◌≡◌, ℕ, zero, suc, ◌≤◌, max, Bool, true, false, cond, eqb, List, [], ◌∷◌, map, filter, find, fold, Some, arith, refl, sym, ◌∙◌, ap, ◌⊎◌, inl, inr, All, Contains, subst}
use Rattle.std.proofs.lemmas.Bool.{cases_lt, eqb-true, eq-eqb}
use Rattle.std.proofs.lemmas.List.Elements.{All-head, All-tail, All-cons, All-nil, All-weaker}
use Rattle.vr_base.specs.Rights.{greatest_of}

module _ {X : Type 0} where
  pub Contains-head : (x : X) (xs : List X) → Contains (x ∷ xs) x
  Contains-head x xs = (0, omega arith, refl)

  pub Contains-tail : (y : X) (xs : List X) (x : X) → Contains xs x → Contains (y ∷ xs) x
  Contains-tail y xs x (k, l, e) = (suc k, omega arith, e)

  pub Contains-cons_cases : (y : X) (xs : List X) (x : X) → Contains (y ∷ xs) x → (y ≡ x) ⊎ Contains xs x
  Contains-cons_cases y xs x (zero, l, e) = inl e
  Contains-cons_cases y xs x (suc k, l, e) = inr (k, omega arith, e)

  pub never_in_nothing : (x : X) → Contains [] x → ⊥
  never_in_nothing x (k, l, e) = absurd (omega arith)

  -- what passes is among what passes
  pub Contains-filter : (p : X → Bool) (xs : List X) (x : X) → Contains xs x → p x ≡ true → Contains (filter p xs) x
  Contains-filter p [] x h t = absurd (never_in_nothing x h)
  Contains-filter p (y ∷ ys) x h t = by_cases (p y) refl (Contains-cons_cases y ys x h) (λ there. Contains-filter p ys x there t)
    where
      by_cases : (b : Bool) → p y ≡ b → (y ≡ x) ⊎ Contains ys x → (Contains ys x → Contains (filter p ys) x) → Contains (cond b (y ∷ filter p ys) (filter p ys)) x
      by_cases true e (inl same) rest = subst (λ z. Contains (z ∷ filter p ys) x) (sym same) (Contains-head x (filter p ys))
      by_cases true e (inr there) rest = Contains-tail y (filter p ys) x (rest there)
      by_cases false e (inl same) rest = let f : p x ≡ false = ap p (sym same) ∙ e in cc
      by_cases false e (inr there) rest = rest there

  -- what is among what passes is there, and passes
  pub Contains-from_filter : (p : X → Bool) (xs : List X) (x : X) → Contains (filter p xs) x → Contains xs x × (p x ≡ true)
  Contains-from_filter p [] x h = absurd (never_in_nothing x h)
  Contains-from_filter p (y ∷ ys) x h = by_cases (p y) refl h (λ there. Contains-from_filter p ys x there)
    where
      by_cases : (b : Bool) → p y ≡ b → Contains (cond b (y ∷ filter p ys) (filter p ys)) x → (Contains (filter p ys) x → Contains ys x × (p x ≡ true)) → Contains (y ∷ ys) x × (p x ≡ true)
      by_cases true e k rest = elim (Contains-cons_cases y (filter p ys) x k) [
        | inl same ↦ (subst (λ z. Contains (z ∷ ys) x) (sym same) (Contains-head x ys), ap p (sym same) ∙ e)
        | inr there ↦ (Contains-tail y ys x (rest there).0, (rest there).1)
      ]
      by_cases false e k rest = (Contains-tail y ys x (rest k).0, (rest k).1)

  -- two tests that agree on the elements of a list keep the same ones
  pub filter_same : (p q : X → Bool) (xs : List X) → All (λ x. p x ≡ q x) xs → filter p xs ≡ filter q xs
  filter_same p q [] h = refl
  filter_same p q (x ∷ xs) h =
      let head : p x ≡ q x = All-head (λ y. p y ≡ q y) x xs h in
      let tail = filter_same p q xs (All-tail (λ y. p y ≡ q y) x xs h) in
      rw (head, tail) refl

module _ {X : Type 0} (size : X → ℕ) where
  from_start : (n : ℕ) (ns : List ℕ) → n ≤ fold max n ns
  from_start n [] = omega arith
  from_start n (m ∷ ms) = omega (arith, from_start (max n m) ms)

  within_all : (most n : ℕ) (xs : List X) → n ≤ most → All (λ x. size x ≤ most) xs → fold max n (map size xs) ≤ most
  within_all most n [] l h = l
  within_all most n (x ∷ xs) l h =
      let head : size x ≤ most = All-head (λ y. size y ≤ most) x xs h in
      within_all most (max n (size x)) xs (omega arith) (All-tail (λ y. size y ≤ most) x xs h)

  above_each : (n : ℕ) (xs : List X) (x : X) → Contains xs x → size x ≤ fold max n (map size xs)
  above_each n [] x h = absurd (never_in_nothing x h)
  above_each n (y ∷ ys) x h = by_cases (Contains-cons_cases y ys x h) (λ there. above_each (max n (size y)) ys x there)
    where
      by_cases : (y ≡ x) ⊎ Contains ys x → (Contains ys x → size x ≤ fold max (max n (size y)) (map size ys)) → size x ≤ fold max (max n (size y)) (map size ys)
      by_cases (inl same) rest = let is : size y ≡ size x = ap size same in omega (arith, from_start (max n (size y)) (map size ys))
      by_cases (inr there) rest = rest there

  find_one : (most : ℕ) (xs : List X) (x : X) → Contains xs x → size x ≡ most → All (λ y. size y ≡ most → y ≡ x) xs → find (λ y. eqb (size y) most) xs ≡ Some x
  find_one most [] x h e one = absurd (never_in_nothing x h)
  find_one most (y ∷ ys) x h e one = by_cases (eqb (size y) most) refl (Contains-cons_cases y ys x h) (λ there. find_one most ys x there e (All-tail (λ z. size z ≡ most → z ≡ x) y ys one))
    where
      head : size y ≡ most → y ≡ x
      head = All-head (λ z. size z ≡ most → z ≡ x) y ys one

      by_cases : (b : Bool) → eqb (size y) most ≡ b → (y ≡ x) ⊎ Contains ys x → (Contains ys x → find (λ z. eqb (size z) most) ys ≡ Some x) → cond b (Some y) (find (λ z. eqb (size z) most) ys) ≡ Some x
      by_cases true t c rest = ap Some (head (eqb-true (size y) most t))
      by_cases false t (inl same) rest = let yes : eqb (size y) most ≡ true = eq-eqb (size y) most (ap size same ∙ e) in cc
      by_cases false t (inr there) rest = rest there

  -- an element that none is greater than, and that alone is so great, is the first of the greatest
  pub longest_is : (xs : List X) (x : X) → Contains xs x → All (λ y. size y ≤ size x) xs → All (λ y. size y ≡ size x → y ≡ x) xs
      → find (λ y. eqb (size y) (greatest_of (map size xs))) xs ≡ Some x
  longest_is xs x h most one =
      let upto = within_all (size x) 0 xs (omega arith) most in
      let reached = above_each 0 xs x h in
      let is : greatest_of (map size xs) ≡ size x = omega arith in
      rw is (find_one (size x) xs x h refl one)

  -- a list is empty, or has an element that none is greater than
  pub longest_cases : (xs : List X) → (xs ≡ []) ⊎ ((x : X) × Contains xs x × All (λ y. size y ≤ size x) xs)
  longest_cases [] = inl refl
  longest_cases (y ∷ ys) = by_cases (longest_cases ys)
    where
      by_cases : (ys ≡ []) ⊎ ((x : X) × Contains ys x × All (λ z. size z ≤ size x) ys) → (y ∷ ys ≡ []) ⊎ ((x : X) × Contains (y ∷ ys) x × All (λ z. size z ≤ size x) (y ∷ ys))
      by_cases (inl none) = inr (y, Contains-head y ys, All-cons (λ z. size z ≤ size y) y ys (omega arith) (subst (All (λ z. size z ≤ size y)) (sym none) (All-nil (λ z. size z ≤ size y))))
      by_cases (inr (x, there, most)) = elim (cases_lt (size y) (size x)) [
        | inl below ↦ inr (x, Contains-tail y ys x there, All-cons (λ z. size z ≤ size x) y ys (omega arith) most)
        | inr above ↦ inr (y, Contains-head y ys, All-cons (λ z. size z ≤ size y) y ys (omega arith) (All-weaker (λ z. size z ≤ size x) (λ z. size z ≤ size y) (λ z l. omega arith) ys most))
      ]
