-- The values of constant expressions.
use Rattle.std.proofs.Common.{◌≡◌, ◌≢◌, ℕ, List, [], ◌∷◌, length, refl}
use Rattle.vr_wasm_ast.specs.declared.instr.Instr.{Instr}
use Rattle.vr_wasm_ast.specs.Instructions.{instructions_of}
use Rattle.vr_wasm_link.specs.Constants.{constant_value}

-- an expression of another length than one
pub no_constant : (globals : List ℕ) (is : List Instr) → length is ≢ 1
    → 0 ≡ constant_value globals (instructions_of is)
no_constant globals [] other = refl
no_constant globals (i ∷ []) other = let never : ⊥ = other refl in absurd never
no_constant globals (i ∷ j ∷ is) other = refl
