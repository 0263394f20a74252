use Rattle.vr_wasm_valid.proofs.StepLemmas.{checks_met}
use Rattle.vr_wasm_valid.proofs.stack.Stack.apply_if.Goals as goal

pub returns-then-condition : goal.returns-then-condition
returns-then-condition c = checks_met c.if-condition.true c.apply.ensures
