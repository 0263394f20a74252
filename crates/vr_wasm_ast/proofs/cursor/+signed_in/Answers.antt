use Rattle.std.proofs.Common.{◌-◌, ◌<◌, arith, get_or}
use Rattle.std.proofs.lemmas.Grind.{common_steps}
use Rattle.vr_wasm_ast.specs.Numbers.{number_from}
use Rattle.vr_wasm_ast.proofs.SignedLemmas.{fits, is_joined, from_joined, below_joined}
use Rattle.vr_wasm_ast.proofs.cursor.+signed_in.Goals as goal

pub overflow_mul-result : goal.overflow_mul-result
overflow_mul-result t c =
    fits c.args.bits c.if-bits-gt7.true c.requires.most c.in_ok-high-in-len1-up.high 0 (omega arith) c.in_ok-high-in-len1-up.ensures.low c.in_ok-high-in-len1-up.ensures.high

pub returns-in_ok-high-in-len1-up-clause-gives : goal.returns-in_ok-high-in-len1-up-clause-gives
unfolding number_from
returns-in_ok-high-in-len1-up-clause-gives t c =
    rw (c.from-then-bits-gt7.ensures, is_joined c.args.bits c.if-bits-gt7.true c.requires.most c.in_ok-high-in-len1-up.high (get_or c.args.bytes.now 0 0 - 128) (omega (arith, c.type_inv.bytes 0)) c.in_ok-high-in-len1-up.ensures.low c.in_ok-high-in-len1-up.ensures.high)
    (grind (arith, common_steps))

pub returns-in_ok-high-in-len1-up-clause-low : goal.returns-in_ok-high-in-len1-up-clause-low
returns-in_ok-high-in-len1-up-clause-low t c =
    let seven : get_or c.args.bytes.now 0 0 - 128 < 128 = omega (arith, c.type_inv.bytes 0) in
    rw (c.from-then-bits-gt7.ensures, is_joined c.args.bits c.if-bits-gt7.true c.requires.most c.in_ok-high-in-len1-up.high (get_or c.args.bytes.now 0 0 - 128) seven c.in_ok-high-in-len1-up.ensures.low c.in_ok-high-in-len1-up.ensures.high)
    (from_joined c.args.bits c.if-bits-gt7.true c.requires.most c.in_ok-high-in-len1-up.high (get_or c.args.bytes.now 0 0 - 128) seven c.in_ok-high-in-len1-up.ensures.low c.in_ok-high-in-len1-up.ensures.high)

pub returns-in_ok-high-in-len1-up-clause-high : goal.returns-in_ok-high-in-len1-up-clause-high
returns-in_ok-high-in-len1-up-clause-high t c =
    let seven : get_or c.args.bytes.now 0 0 - 128 < 128 = omega (arith, c.type_inv.bytes 0) in
    rw (c.from-then-bits-gt7.ensures, is_joined c.args.bits c.if-bits-gt7.true c.requires.most c.in_ok-high-in-len1-up.high (get_or c.args.bytes.now 0 0 - 128) seven c.in_ok-high-in-len1-up.ensures.low c.in_ok-high-in-len1-up.ensures.high)
    (below_joined c.args.bits c.if-bits-gt7.true c.requires.most c.in_ok-high-in-len1-up.high (get_or c.args.bytes.now 0 0 - 128) seven c.in_ok-high-in-len1-up.ensures.low c.in_ok-high-in-len1-up.ensures.high)
