use Rattle.std.proofs.Common.{refl}
use Rattle.vr_wasm_valid.proofs.ShapeLemmas.{apply_steps, apply_sticks, checks_nowhere, checks_on}
use Rattle.vr_wasm_valid.proofs.stack.Stack.apply.Goals as goal

pub returns-in_ok-give : goal.returns-in_ok-give
returns-in_ok-give c = checks_on (apply_steps (c.if-take_all.ensures.steps refl) c.in_ok-give.ensures)

pub returns-else-take_all : goal.returns-else-take_all
returns-else-take_all c = checks_nowhere (apply_sticks (c.if-take_all.ensures.sticks refl))
