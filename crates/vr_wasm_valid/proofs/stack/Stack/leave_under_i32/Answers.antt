use Rattle.std.proofs.Common.{refl}
use Rattle.vr_wasm_valid.proofs.ShapeLemmas.{leaves_sticks, leaves_under, moves_nowhere}
use Rattle.vr_wasm_valid.proofs.stack.Stack.leave_under_i32.Goals as goal

pub returns-then-take : goal.returns-then-take
returns-then-take c = leaves_under (c.if-take.ensures.steps refl) c.leave.ensures

pub returns-else-take : goal.returns-else-take
returns-else-take c = moves_nowhere c.if-take.false (leaves_sticks (c.if-take.ensures.sticks refl))
