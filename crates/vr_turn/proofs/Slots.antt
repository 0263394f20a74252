-- The one slot that a seat holds.
use Rattle.std.proofs.Common.{◌≡◌, ℕ, List, [], ◌∷◌, Some, ap, sym, ◌∙◌}
use Rattle.atomic_table.specs.Table.{rest}

-- what is first is followed by the rest
pub one_slot : {S : Type 0} (c : List (ℕ × S)) (x : S) → c ≡ (0, x) ∷ [] → c ≡ (0, x) ∷ rest c
one_slot {S} c x e = e ∙ ap (λ (d : List (ℕ × S)). (0, x) ∷ rest d) (sym e)

-- a value in `Some` is that value
pub some_is : {A : Type 0} (x y : A) → Some x ≡ Some y → x ≡ y
some_is x y e = cc
