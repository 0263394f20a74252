use Rattle.std.proofs.Common.{refl}
use Rattle.vr_wasm_valid.proofs.ShapeLemmas.{drops_steps, drops_sticks, moves_nowhere, moves_on}
use Rattle.vr_wasm_valid.proofs.stack.Stack.drop_one.Goals as goal

pub returns-in-Some : goal.returns-in-Some
returns-in-Some c = moves_on (drops_steps c.in-Some.ensures)

pub returns-in-None : goal.returns-in-None
returns-in-None c = moves_nowhere refl (drops_sticks c.in-None.ensures)
