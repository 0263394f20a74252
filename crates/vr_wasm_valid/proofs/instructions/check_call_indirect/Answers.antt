use Rattle.std.proofs.Common.{List, ◌∷◌, reverse, sym, ap, refl}
use Rattle.vr_wasm_ast.specs.declared.tree.ValType.{ValType}
use Rattle.vr_wasm_ast.specs.declared.tree.ValType.TheVariants.{I32}
use Rattle.vr_wasm_valid.specs.Context.{result_list}
use Rattle.vr_wasm_valid.proofs.StepLemmas.{checks_found, checks_met, takes_as}
use Rattle.vr_wasm_valid.proofs.instructions.check_call_indirect.Goals as goal

pub returns-in-Some : goal.returns-in-Some
returns-in-Some c =
    let arguments = ap (λ (x : List ValType). I32 ∷ reverse x) c.as_slice.ensures in
    checks_met (c.if-not-has_table.ensures.0 refl)
    (checks_found (sym c.in-Some.ensures)
    (takes_as arguments (ap result_list c.result_type.ensures) c.apply_under_i32.ensures))
