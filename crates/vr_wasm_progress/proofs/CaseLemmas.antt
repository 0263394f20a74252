-- What holds of a value that a test chooses.
use Rattle.std.proofs.Common.{◌≡◌, refl, sym, subst, Bool, true, false, if◌then◌else◌}

-- it holds of both
pub either_way : {A : Type 0} (P : A → Type 0) (b : Bool) (x y : A) → P x → P y → P (if b then x else y)
either_way P true x y f g = f
either_way P false x y f g = g

-- the test passes
pub surely : {A : Type 0} (P : A → Type 0) (b : Bool) (x y : A) → b ≡ true → P x → P (if b then x else y)
surely P b x y e f = subst (λ z. P (if z then x else y)) (sym e) f

-- it holds of the first where the test passes
pub where_true : {A : Type 0} (P : A → Type 0) (b : Bool) (x y : A) → (b ≡ true → P x) → P y
    → P (if b then x else y)
where_true P true x y f g = f refl
where_true P false x y f g = g

-- two tests, one after the other, pass
pub both_true : (b d : Bool) → (if b then d else false) ≡ true → (b ≡ true) × (d ≡ true)
both_true true d e = (refl, e)
both_true false d e = let never : ⊥ = cc e in absurd never
