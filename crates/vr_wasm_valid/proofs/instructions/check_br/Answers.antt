use Rattle.std.proofs.Common.{sym}
use Rattle.vr_wasm_valid.proofs.StepLemmas.{moves_found}
use Rattle.vr_wasm_valid.proofs.instructions.check_br.Goals as goal

pub returns-in-Some : goal.returns-in-Some
returns-in-Some c = moves_found (sym c.in-Some.ensures) c.leave.ensures
