use Rattle.std.proofs.Common.{arith}
use Rattle.vr_wasm_ast.specs.Numbers.{last_unsigned, more_unsigned}
use Rattle.vr_wasm_ast.proofs.CursorLemmas.{is_found, is_bad, is_short}
use Rattle.vr_wasm_ast.proofs.cursor.Cursor.read_u32.Goals as goal

pub returns-clause-found : goal.returns-clause-found
returns-clause-found c = is_found last_unsigned more_unsigned 32 c.unsigned.result c.args.self.now c.unsigned.new.self c.unsigned.ensures.exact

pub returns-clause-bad : goal.returns-clause-bad
returns-clause-bad c = is_bad last_unsigned more_unsigned 32 (omega arith) c.unsigned.result c.args.self.now c.unsigned.new.self c.unsigned.ensures.exact

pub returns-clause-short : goal.returns-clause-short
returns-clause-short c = is_short last_unsigned more_unsigned 32 (omega arith) c.unsigned.result c.args.self.now c.unsigned.new.self c.unsigned.ensures.exact
