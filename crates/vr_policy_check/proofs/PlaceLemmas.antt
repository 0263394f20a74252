-- The places of keys, and the first key that comes twice.
use Rattle.std.proofs.Common.{◌≡◌, ℕ, ◌+◌, ◌<◌, ◌≤◌, Bool, true, false, cond, suc, List, [], ◌∷◌, ◌++◌, length, get_or, take, drop, Option, None, Some, is_some, length-take-le, drop_of_length-le, take_all, ap, sym, ◌∙◌, subst, refl, arith, add-one, drop-cons}
use Rattle.std.specs.Prelude.{position, ◌||◌}
use Rattle.std.specs.Option.{option_or}
use Rattle.std.specs.List.{list_any, position_from}
use Rattle.std.specs.Ordering.{is_eq, ordering_reverse}
use Rattle.std.specs.declared.cmp.Ordering.{Ordering}
use Rattle.std.specs.declared.cmp.Ordering.TheVariants.{Less, Equal, Greater}
use Rattle.std.specs.Cmp.{IsTotalOrder}
use Rattle.std.specs.BTreeMap.{BTreeMap, get, Updates}
use Rattle.std.proofs.lemmas.List.{take_more}
use Rattle.std.proofs.lemmas.Iterator.Adapters.{position_from-zero}
use Rattle.vr_policy_check.specs.Places.{same_by, Indexes}
use Rattle.vr_policy_check.specs.Repeats.{repeat_after, first_repeat}

module _ {X : Type 0} where
  -- the place of the last key, where it is the first that passes
  abbrev last_place : (X → Bool) → ℕ → X → Option ℕ
  last_place p n y = cond (p y) (Some n) None

  push_case : (p : X → Bool) (i : ℕ) (xs : List X) (y : X) (b : Bool)
      → position_from p (i + 1) (xs ++ y ∷ []) ≡ option_or (position_from p (i + 1) xs) (last_place p (i + 1 + length xs) y)
      → cond b (Some i) (position_from p (i + 1) (xs ++ y ∷ []))
      ≡ option_or (cond b (Some i) (position_from p (i + 1) xs)) (last_place p (i + suc (length xs)) y)
  push_case p i xs y true h = refl
  push_case p i xs y false h =
      let same : i + 1 + length xs ≡ i + suc (length xs) = omega arith in
      h ∙ ap (λ n. option_or (position_from p (i + 1) xs) (last_place p n y)) same

  position_from-push : (p : X → Bool) (i : ℕ) (xs : List X) (y : X)
      → position_from p i (xs ++ y ∷ []) ≡ option_or (position_from p i xs) (last_place p (i + length xs) y)
  position_from-push p i [] y = let same : i ≡ i + 0 = omega arith in ap (λ n. last_place p n y) same
  position_from-push p i (x ∷ xs) y = push_case p i xs y (p x) (position_from-push p (i + 1) xs y)

  pub position-push : (p : X → Bool) (xs : List X) (y : X)
      → position p (xs ++ y ∷ []) ≡ option_or (position p xs) (last_place p (length xs) y)
  position-push p xs y =
      let same : 0 + length xs ≡ length xs = omega arith in
      position_from-zero p (xs ++ y ∷ []) ∙ position_from-push p 0 xs y
      ∙ ap (λ o. option_or o (last_place p (0 + length xs) y)) (sym (position_from-zero p xs))
      ∙ ap (λ n. option_or (position p xs) (last_place p n y)) same

  some_case : (p : X → Bool) (i : ℕ) (xs : List X) (b : Bool) → is_some (position_from p (i + 1) xs) ≡ list_any p xs
      → is_some (cond b (Some i) (position_from p (i + 1) xs)) ≡ (b || list_any p xs)
  some_case p i xs true h = refl
  some_case p i xs false h = h

  some_from : (p : X → Bool) (i : ℕ) (xs : List X) → is_some (position_from p i xs) ≡ list_any p xs
  some_from p i [] = refl
  some_from p i (x ∷ xs) = some_case p i xs (p x) (some_from p (i + 1) xs)

  -- a key has a place where some key passes
  pub is_some-position : (p : X → Bool) (xs : List X) → is_some (position p xs) ≡ list_any p xs
  is_some-position p xs = ap is_some (position_from-zero p xs) ∙ some_from p 0 xs

  pub position-same : (p q : X → Bool) (xs : List X) → ((x : X) → p x ≡ q x) → position p xs ≡ position q xs
  position-same p q xs h = let same : p ≡ q = λ i x. h x i in ap (λ (t : X → Bool). position t xs) same

or_none : (o : Option ℕ) → option_or o None ≡ o
or_none None = refl
or_none (Some n) = refl

eq_reverse : (r : Ordering) → is_eq (ordering_reverse r) ≡ is_eq r
eq_reverse Less = refl
eq_reverse Equal = refl
eq_reverse Greater = refl

is_equal : (r : Ordering) → is_eq r ≡ true → r ≡ Equal
is_equal Less h = cc
is_equal Equal h = refl
is_equal Greater h = cc

module _ {K : Type 0} (cmp : K → K → Ordering) (o : IsTotalOrder cmp) where
  same_sym : (x y : K) → same_by cmp x y ≡ same_by cmp y x
  same_sym x y = ap is_eq (o.antisymm x y) ∙ eq_reverse (cmp y x)

  -- keys that are the same have one place
  place_of_same : (keys : List K) (x y : K) → same_by cmp x y ≡ true → position (same_by cmp x) keys ≡ position (same_by cmp y) keys
  place_of_same keys x y h =
      position-same (same_by cmp x) (same_by cmp y) keys (λ z. ap is_eq (o.congr x y z (is_equal (cmp x y) h)))

  indexed_case : (keys : List K) (key : K) (m n : BTreeMap K ℕ) (q : K) (b : Bool) → same_by cmp key q ≡ b
      → Indexes cmp keys m → get cmp m key ≡ None → get cmp n q ≡ cond b (Some (length keys)) (get cmp m q)
      → get cmp n q ≡ option_or (position (same_by cmp q) keys) (cond b (Some (length keys)) None)
  indexed_case keys key m n q true same h absent is =
      let none : position (same_by cmp q) keys ≡ None = sym (place_of_same keys key q same) ∙ sym (h key) ∙ absent in
      is ∙ sym (ap (λ p. option_or p (Some (length keys))) none)
  indexed_case keys key m n q false same h absent is = is ∙ h q ∙ sym (or_none (position (same_by cmp q) keys))

  -- one more key, which none before it is the same as
  pub indexes-push : (keys : List K) (key : K) (m n : BTreeMap K ℕ) → Indexes cmp keys m → get cmp m key ≡ None
      → Updates cmp m n key (Some (length keys)) → Indexes cmp (keys ++ key ∷ []) n
  indexes-push keys key m n h absent updates = λ q.
      indexed_case keys key m n q (same_by cmp key q) refl h absent (updates.0 q)
      ∙ ap (λ b. option_or (position (same_by cmp q) keys) (cond b (Some (length keys)) None)) (same_sym key q)
      ∙ sym (position-push (same_by cmp q) keys key)

is_none : (o : Option ℕ) → is_some o ≡ false → o ≡ None
is_none None h = refl
is_none (Some n) h = cc

any_of_some : {K : Type 0} (cmp : K → K → Ordering) (keys : List K) (key : K) (m : BTreeMap K ℕ) (b : Bool) → Indexes cmp keys m
    → is_some (get cmp m key) ≡ b → list_any (same_by cmp key) keys ≡ b
any_of_some cmp keys key m b h is = sym (is_some-position (same_by cmp key) keys) ∙ ap is_some (sym (h key)) ∙ is

module _ {K : Type 0} (cmp : K → K → Ordering) (keys : List K) (at : ℕ) (key : K) (m : BTreeMap K ℕ)
    (within : at < length keys) (here : get_or keys at key ≡ key) (h : Indexes cmp (take at keys) m) where
  rest : drop at keys ≡ key ∷ drop (at + 1) keys
  rest = rw (add-one, drop-cons keys at key, here) refl

  -- a key that has a place already
  pub repeat_found : is_some (get cmp m key) ≡ true
      → repeat_after (same_by cmp) (take at keys) (drop at keys) ≡ first_repeat (same_by cmp) keys
      → first_repeat (same_by cmp) keys ≡ Some at
  repeat_found is before =
      let found : list_any (same_by cmp key) (take at keys) ≡ true = any_of_some cmp (take at keys) key m true h is in
      sym before ∙ ap (repeat_after (same_by cmp) (take at keys)) rest
      ∙ ap (λ b. cond b (Some (length (take at keys))) (repeat_after (same_by cmp) (take at keys ++ key ∷ []) (drop (at + 1) keys))) found
      ∙ ap Some (length-take-le at keys (omega (arith, within)))

  -- a key that has none
  pub repeat_past : is_some (get cmp m key) ≡ false
      → repeat_after (same_by cmp) (take at keys) (drop at keys) ≡ first_repeat (same_by cmp) keys
      → repeat_after (same_by cmp) (take (at + 1) keys) (drop (at + 1) keys) ≡ first_repeat (same_by cmp) keys
  repeat_past is before =
      let absent : list_any (same_by cmp key) (take at keys) ≡ false = any_of_some cmp (take at keys) key m false h is in
      let more : take (at + 1) keys ≡ take at keys ++ key ∷ [] = take_more keys at key within ∙ ap (λ k. take at keys ++ k ∷ []) here in
      ap (λ before. repeat_after (same_by cmp) before (drop (at + 1) keys)) more
      ∙ sym (ap (λ b. cond b (Some (length (take at keys))) (repeat_after (same_by cmp) (take at keys ++ key ∷ []) (drop (at + 1) keys))) absent)
      ∙ sym (ap (repeat_after (same_by cmp) (take at keys)) rest) ∙ before

  -- the map with its place
  pub indexes-more : IsTotalOrder cmp → (n : BTreeMap K ℕ) → is_some (get cmp m key) ≡ false → Updates cmp m n key (Some at) → Indexes cmp (take (at + 1) keys) n
  indexes-more o n is updates =
      let more : take (at + 1) keys ≡ take at keys ++ key ∷ [] = take_more keys at key within ∙ ap (λ k. take at keys ++ k ∷ []) here in
      let long : length (take at keys) ≡ at = length-take-le at keys (omega (arith, within)) in
      let P : List K → Type 0 = λ ks. Indexes cmp ks n in
      let Q : ℕ → Type 0 = λ k. Updates cmp m n key (Some k) in
      subst P (sym more) (indexes-push cmp o (take at keys) key m n h (is_none (get cmp m key) is) (subst Q (sym long) updates))

module _ {K : Type 0} (cmp : K → K → Ordering) (keys : List K) (at : ℕ) (all : length keys ≤ at) where
  -- at the end
  pub repeat_none : repeat_after (same_by cmp) (take at keys) (drop at keys) ≡ first_repeat (same_by cmp) keys → first_repeat (same_by cmp) keys ≡ None
  repeat_none before = sym before ∙ ap (repeat_after (same_by cmp) (take at keys)) (drop_of_length-le keys all)

  pub indexes-all : (m : BTreeMap K ℕ) → Indexes cmp (take at keys) m → Indexes cmp keys m
  indexes-all m h = let P : List K → Type 0 = λ ks. Indexes cmp ks m in subst P (take_all at keys all) h
