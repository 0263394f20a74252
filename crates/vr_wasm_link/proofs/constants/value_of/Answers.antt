use Rattle.std.proofs.Common.{◌≢◌, length, arith}
use Rattle.vr_wasm_link.proofs.ConstantLemmas.{no_constant}
use Rattle.vr_wasm_link.proofs.constants.value_of.Goals as goal

pub returns-in_default-2 : goal.returns-in_default-2
returns-in_default-2 c =
    let other : length c.args.expression.now ≢ 1 = omega arith in
    no_constant c.args.globals.now c.args.expression.now other
