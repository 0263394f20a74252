use Rattle.std.proofs.Common.{◌≡◌, ◌-◌, ap, arith, length, length-append}
use Rattle.vr_wasm_ast.specs.Imports.{imported_functions}
use Rattle.vr_wasm_valid.specs.Context.{Spaces}
use Rattle.vr_wasm_valid.specs.Parts.{the_function}
use Rattle.vr_wasm_valid.proofs.AnswerLemmas.{judged}
use Rattle.vr_wasm_valid.proofs.components.check_functions.Goals as goal

pub returns : goal.returns
returns c =
    let m = c.args.module.now in
    let imported = imported_functions m.imports in
    let whole = ap (λ (s : Spaces). length s.functions) c.requires.spaces_of in
    let first : c.len.result - length c.as_slice-own.result.now ≡ length imported =
    omega (arith, whole, length-append imported m.functions, ap length c.as_slice-own.ensures, c.len.ensures) in
    judged the_function c.as_slice-own.ensures first c.unfit_function.ensures c.refuse.ensures
