use Rattle.std.proofs.Common.{◌≡◌, w32, w64, to_z, of_z, Ok, Err, arith}
use Rattle.std.proofs.lemmas.Int.{ints}
use Rattle.std.proofs.lemmas.Result.{err_from_is_err_and}
use Rattle.vr_wasm_ast.specs.Numbers.{last_signed, more_signed}
use Rattle.vr_wasm_ast.proofs.CursorLemmas.{is_found, is_bad, is_short}
use Rattle.vr_wasm_ast.proofs.cursor.Cursor.read_s32.Goals as goal

pub returns-in_err-number-clause-bad : goal.returns-in_err-number-clause-bad
returns-in_err-number-clause-bad c =
    let p = err_from_is_err_and c.from_residual.result c.from_residual.ensures.1 in
    rw (p.1, p.2) (is_bad last_signed more_signed 32 (omega arith) (Err c.in_err-number.field-0.0) c.args.self.now c.signed.new.self c.in_err-number.ensures.exact)

pub returns-in_err-number-clause-short : goal.returns-in_err-number-clause-short
returns-in_err-number-clause-short c =
    let p = err_from_is_err_and c.from_residual.result c.from_residual.ensures.1 in
    rw (p.1, p.2) (is_short last_signed more_signed 32 (omega arith) (Err c.in_err-number.field-0.0) c.args.self.now c.signed.new.self c.in_err-number.ensures.exact)

pub returns-clause-found : goal.returns-clause-found
returns-clause-found c =
    let same : to_z w32 (of_z w32 (to_z w64 (of_z w64 c.in_ok-number.number))) ≡ c.in_ok-number.number = omega (arith, ints, c.in_ok-number.ensures.low, c.in_ok-number.ensures.high) in
    rw same (is_found last_signed more_signed 32 (Ok c.in_ok-number.number) c.args.self.now c.signed.new.self c.in_ok-number.ensures.exact)

pub returns-clause-bad : goal.returns-clause-bad
returns-clause-bad c =
    let same : to_z w32 (of_z w32 (to_z w64 (of_z w64 c.in_ok-number.number))) ≡ c.in_ok-number.number = omega (arith, ints, c.in_ok-number.ensures.low, c.in_ok-number.ensures.high) in
    rw same (is_bad last_signed more_signed 32 (omega arith) (Ok c.in_ok-number.number) c.args.self.now c.signed.new.self c.in_ok-number.ensures.exact)

pub returns-clause-short : goal.returns-clause-short
returns-clause-short c =
    let same : to_z w32 (of_z w32 (to_z w64 (of_z w64 c.in_ok-number.number))) ≡ c.in_ok-number.number = omega (arith, ints, c.in_ok-number.ensures.low, c.in_ok-number.ensures.high) in
    rw same (is_short last_signed more_signed 32 (omega arith) (Ok c.in_ok-number.number) c.args.self.now c.signed.new.self c.in_ok-number.ensures.exact)
