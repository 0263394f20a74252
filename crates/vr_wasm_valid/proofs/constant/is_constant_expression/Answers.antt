use Rattle.std.proofs.Common.{◌≢◌, length, arith}
use Rattle.vr_wasm_valid.proofs.ConstantLemmas.{not_one, one_tested, only_item}
use Rattle.vr_wasm_valid.proofs.constant.is_constant_expression.Goals as goal

pub returns-in_default-2 : goal.returns-in_default-2
returns-in_default-2 c =
    let other : length c.args.expression.now ≢ 1 = omega arith in
    not_one c.args.globals.now c.args.wanted c.args.expression.now other

pub returns : goal.returns
returns c =
    let alone = c.in-len1 in
    let only = only_item c.args.expression.now c.only-item.result alone.len_at_least alone.len_below c.only-item.is in
    one_tested c.args.globals.now c.args.wanted only c.constant_type.ensures c.same_type.ensures
