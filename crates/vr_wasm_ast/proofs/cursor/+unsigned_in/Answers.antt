use Rattle.std.proofs.Common.{arith}
use Rattle.vr_wasm_ast.proofs.PowerLemmas.{seven_more, most32}
use Rattle.vr_wasm_ast.proofs.cursor.+unsigned_in.Goals as goal

pub overflow_mul-result : goal.overflow_mul-result
overflow_mul-result t c = omega (arith, seven_more c.args.bits c.if-bits-gt7.true, most32 c.args.bits c.requires, c.in_ok-high-in-len1-up.ensures.fits)

pub overflow_add-result : goal.overflow_add-result
overflow_add-result t c = omega (arith, seven_more c.args.bits c.if-bits-gt7.true, most32 c.args.bits c.requires, c.in_ok-high-in-len1-up.ensures.fits, c.type_inv.bytes 0)

pub returns-in_ok-high-in-len1-up-clause-fits : goal.returns-in_ok-high-in-len1-up-clause-fits
returns-in_ok-high-in-len1-up-clause-fits t c = omega (arith, seven_more c.args.bits c.if-bits-gt7.true, c.in_ok-high-in-len1-up.ensures.fits, c.type_inv.bytes 0)
