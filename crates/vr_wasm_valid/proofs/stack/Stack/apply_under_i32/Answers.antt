use Rattle.std.proofs.Common.{refl}
use Rattle.vr_wasm_valid.proofs.ShapeLemmas.{checks_nowhere, sticks_at_first, takes_then_checks}
use Rattle.vr_wasm_valid.proofs.stack.Stack.apply_under_i32.Goals as goal

pub returns-then-take : goal.returns-then-take
returns-then-take c = takes_then_checks (c.if-take.ensures.steps refl) c.apply.ensures

pub returns-else-take : goal.returns-else-take
returns-else-take c = checks_nowhere (sticks_at_first _ (c.if-take.ensures.sticks refl))
