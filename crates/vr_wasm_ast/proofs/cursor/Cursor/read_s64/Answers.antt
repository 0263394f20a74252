use Rattle.std.proofs.Common.{arith}
use Rattle.vr_wasm_ast.specs.Numbers.{last_signed, more_signed}
use Rattle.vr_wasm_ast.proofs.CursorLemmas.{is_found, is_bad, is_short}
use Rattle.vr_wasm_ast.proofs.cursor.Cursor.read_s64.Goals as goal

pub returns-clause-found : goal.returns-clause-found
returns-clause-found c = is_found last_signed more_signed 64 c.signed.result c.args.self.now c.signed.new.self c.signed.ensures.exact

pub returns-clause-bad : goal.returns-clause-bad
returns-clause-bad c = is_bad last_signed more_signed 64 (omega arith) c.signed.result c.args.self.now c.signed.new.self c.signed.ensures.exact

pub returns-clause-short : goal.returns-clause-short
returns-clause-short c = is_short last_signed more_signed 64 (omega arith) c.signed.result c.args.self.now c.signed.new.self c.signed.ensures.exact
