use Rattle.std.proofs.Common.{refl}
use Rattle.vr_wasm_valid.proofs.ShapeLemmas.{ends_as, ends_not}
use Rattle.vr_wasm_valid.proofs.stack.Stack.ends_as.Goals as goal

pub returns-then-take_all : goal.returns-then-take_all
returns-then-take_all c = ends_as (c.if-take_all.ensures.steps refl) c.is_bare.ensures

pub returns-else-take_all : goal.returns-else-take_all
returns-else-take_all c = ends_not c.if-take_all.false (c.if-take_all.ensures.sticks refl)
