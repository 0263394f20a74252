use Rattle.vr_wasm_valid.proofs.StepLemmas.{checks_given}
use Rattle.vr_wasm_valid.proofs.instructions.check_memory.Goals as goal

pub returns : goal.returns
returns c = checks_given c.has_memory.ensures c.apply_if.ensures
