-- The first place at which a test passes.
use Rattle.std.proofs.Common.{◌≡◌, ℕ, ◌+◌, Bool, cond, List, [], ◌∷◌, map, position, Some, refl, sym, ◌∙◌, ap, All}
use Rattle.std.specs.List.{position_from}
use Rattle.std.proofs.lemmas.Iterator.Adapters.{position_from-zero}
use Rattle.std.proofs.lemmas.List.Elements.{All-head, All-tail}

module _ {X : Type 0} where
  position_from_agree : (p q : X → Bool) (xs : List X) (n : ℕ) → All (λ x. p x ≡ q x) xs → position_from p n xs ≡ position_from q n xs
  position_from_agree p q [] n h = refl
  position_from_agree p q (x ∷ xs) n h =
      let head : p x ≡ q x = All-head (λ y. p y ≡ q y) x xs h in
      rw (head, position_from_agree p q xs (n + 1) (All-tail (λ y. p y ≡ q y) x xs h)) refl

  -- two tests that agree on the elements of a list pass first at one place
  pub position_agree : (p q : X → Bool) (xs : List X) → All (λ x. p x ≡ q x) xs → position p xs ≡ position q xs
  position_agree p q xs h = position_from-zero p xs ∙ position_from_agree p q xs 0 h ∙ sym (position_from-zero q xs)

position_from-map : {X Y : Type 0} (p : Y → Bool) (f : X → Y) (xs : List X) (n : ℕ) → position_from p n (map f xs) ≡ position_from (λ x. p (f x)) n xs
position_from-map p f [] n = refl
position_from-map p f (x ∷ xs) n = ap (cond (p (f x)) (Some n)) (position_from-map p f xs (n + 1))

pub position-map : {X Y : Type 0} (p : Y → Bool) (f : X → Y) (xs : List X) → position p (map f xs) ≡ position (λ x. p (f x)) xs
position-map p f xs = position_from-zero p (map f xs) ∙ position_from-map p f xs 0 ∙ sym (position_from-zero (λ x. p (f x)) xs)
