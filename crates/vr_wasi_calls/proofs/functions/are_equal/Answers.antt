use Rattle.std.proofs.Common.{◌≡◌, refl}
use Rattle.std.specs.Bool.{Decides}
use Rattle.std.proofs.lemmas.Slice.Eq.{slice_eq-Decides}
use Rattle.vr_wasm_ast.specs.declared.tree.ValType.{ValType}
use Rattle.vr_wasm_ast.specs.declared.tree.ValType.TheVariants.{I32, I64}
use Rattle.vr_wasm_ast.specs.contracts.tree.ValTypePartialEq.TheImpl.{eq-value}
use Rattle.vr_wasi_calls.proofs.functions.are_equal.Goals as goal

-- `==` of two value types says whether they are one
eq-Decides : (a b : ValType) → Decides (eq-value.it a b) (a ≡ b)
eq-Decides I32 I32 = (λ e. refl, λ e. refl)
eq-Decides I32 I64 = (λ e. absurd cc, λ e. absurd cc)
eq-Decides I64 I32 = (λ e. absurd cc, λ e. absurd cc)
eq-Decides I64 I64 = (λ e. refl, λ e. refl)

pub returns : goal.returns
returns c = slice_eq-Decides eq-Decides _ _ _ c.eq.ensures
