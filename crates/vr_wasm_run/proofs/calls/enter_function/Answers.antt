use Rattle.std.proofs.Common.{arith}
use Rattle.vr_wasm_run.proofs.CallLemmas.{operands_few}
use Rattle.vr_wasm_run.proofs.calls.enter_function.Goals as goal

pub overflow_cast-params : goal.overflow_cast-params
overflow_cast-params c = omega (arith, c.len-params.ensures, c.requires.params, operands_few c.args.stacks.now, c.code.ensures.slots)
