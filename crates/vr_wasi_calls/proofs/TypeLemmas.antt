-- When two lists of value types are the same.
use Rattle.std.proofs.Common.{◌≡◌, Bool, true, false, List, [], ◌∷◌, IsTrue, ◌↔◌, refl, ap, subst, sym}
use Rattle.vr_wasm_ast.specs.declared.tree.ValType.{ValType}
use Rattle.vr_wasm_ast.specs.declared.tree.ValType.TheVariants.{I32, I64}
use Rattle.vr_wasm_steps.specs.Rows.{same_types}

pub same_types_refl : (ts : List ValType) → same_types ts ts ≡ true
same_types_refl [] = refl
same_types_refl (I32 ∷ ts) = same_types_refl ts
same_types_refl (I64 ∷ ts) = same_types_refl ts

pub same_types_is : (ts us : List ValType) → same_types ts us ≡ true → ts ≡ us
same_types_is [] [] h = refl
same_types_is [] (u ∷ us) h = cc
same_types_is (t ∷ ts) [] h = cc
same_types_is (I32 ∷ ts) (I32 ∷ us) h = ap (λ vs. I32 ∷ vs) (same_types_is ts us h)
same_types_is (I32 ∷ ts) (I64 ∷ us) h = cc
same_types_is (I64 ∷ ts) (I32 ∷ us) h = cc
same_types_is (I64 ∷ ts) (I64 ∷ us) h = ap (λ vs. I64 ∷ vs) (same_types_is ts us h)

-- a test that finds them equal
pub same_types_exact : (r : Bool) (ts us : List ValType) → (IsTrue r ↔ (ts ≡ us))
    → r ≡ same_types ts us
same_types_exact r ts us h = by_cases r (same_types ts us) h (same_types_is ts us)
    (λ e. subst (λ vs. same_types ts vs ≡ true) e (same_types_refl ts))
  where
    by_cases : {A : Type 0} (r b : Bool) → (IsTrue r ↔ A) → (b ≡ true → A) → (A → b ≡ true) → r ≡ b
    by_cases true true h into back = refl
    by_cases false false h into back = refl
    by_cases true false h into back = sym (back (h.0 refl))
    by_cases false true h into back = h.1 (into refl)
