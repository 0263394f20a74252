use Rattle.std.proofs.Common.{List, ◌∷◌, sym, ap, refl}
use Rattle.vr_wasm_ast.specs.declared.tree.ValType.{ValType}
use Rattle.vr_wasm_ast.specs.declared.tree.ValType.TheVariants.{I32}
use Rattle.vr_wasm_valid.proofs.ShapeLemmas.{slice_of_result}
use Rattle.vr_wasm_valid.proofs.StepLemmas.{checks_found, takes_as}
use Rattle.vr_wasm_valid.proofs.instructions.check_br_if.Goals as goal

pub returns-in-Some : goal.returns-in-Some
returns-in-Some c =
    let wanted = slice_of_result c.in-Some.wanted c.as_slice.result.now c.as_slice.ensures in
    checks_found (sym c.in-Some.ensures)
    (takes_as (ap (λ (x : List ValType). I32 ∷ x) wanted) refl c.apply_under_i32.ensures)
