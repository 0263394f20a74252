use Rattle.std.proofs.Common.{sym}
use Rattle.vr_wasm_valid.proofs.StepLemmas.{checks_found}
use Rattle.vr_wasm_valid.proofs.instructions.check_numeric.Goals as goal

pub returns-in-Some : goal.returns-in-Some
returns-in-Some c = checks_found (sym c.in-Some.ensures) c.apply_family.ensures
