-- What a reply that fits the type of a function makes of the operands.
use Rattle.std.proofs.Common.{ℕ, ◌≡◌, List, [], ◌∷◌, length, refl, sym, subst}
use Rattle.vr_wasm_ast.specs.declared.tree.ValType.{ValType}
use Rattle.vr_wasm_num.specs.Memory.{Contents}
use Rattle.vr_wasm_steps.specs.Hosts.{Reply, gives_value, gives_nothing, FitsResults}
use Rattle.vr_wasm_stacks.specs.Positions.{Position, with_operands}
use Rattle.vr_wasm_run.specs.Calls.{IsReplied}
use Rattle.vr_wasm_run.specs.declared.progress.Progress.TheVariants.{Went}

module _ {W : Type 0} (memory after : Contents) (w : W) where
  one_if : (results : List ValType) (v : ℕ) → FitsResults results memory (gives_value v after w) → length results ≡ 1
  one_if [] v fits = absurd fits
  one_if (t ∷ []) v fits = refl
  one_if (t ∷ u ∷ ts) v fits = absurd fits

  -- a value is the one result
  pub one_result : (results : List ValType) (v : ℕ) (reply : Reply W) → reply ≡ gives_value v after w → FitsResults results memory reply → length results ≡ 1
  one_result results v reply e fits = one_if results v (subst (FitsResults results memory) e fits)

  module _ (z z' : Position) where
    value_if : (results : List ValType) (v : ℕ) → FitsResults results memory (gives_value v after w) → z' ≡ with_operands z (v ∷ z.operands)
        → IsReplied results (gives_value v after w) z (Went 1) z' after w
    value_if [] v fits there = absurd fits
    value_if (t ∷ []) v fits there = (refl, there, refl, refl)
    value_if (t ∷ u ∷ ts) v fits there = absurd fits

    pub value_replied : (results : List ValType) (v : ℕ) (reply : Reply W) → reply ≡ gives_value v after w → FitsResults results memory reply → z' ≡ with_operands z (v ∷ z.operands)
        → IsReplied results reply z (Went 1) z' after w
    value_replied results v reply e fits there =
        subst (λ r. IsReplied results r z (Went 1) z' after w) (sym e) (value_if results v (subst (FitsResults results memory) e fits) there)

    nothing_if : (results : List ValType) → FitsResults results memory (gives_nothing after w) → z' ≡ z → IsReplied results (gives_nothing after w) z (Went 1) z' after w
    nothing_if [] fits there = (refl, there, refl, refl)
    nothing_if (t ∷ []) fits there = absurd fits
    nothing_if (t ∷ u ∷ ts) fits there = absurd fits

    pub nothing_replied : (results : List ValType) (reply : Reply W) → reply ≡ gives_nothing after w → FitsResults results memory reply → z' ≡ z → IsReplied results reply z (Went 1) z' after w
    nothing_replied results reply e fits there =
        subst (λ r. IsReplied results r z (Went 1) z' after w) (sym e) (nothing_if results (subst (FitsResults results memory) e fits) there)
