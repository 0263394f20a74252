use Rattle.vr_wasm_valid.proofs.ShapeLemmas.{takes_more, takes_no_more}
use Rattle.vr_wasm_valid.proofs.stack.Stack.take_each.Goals as goal

pub loop-kind-preserved-then-fine : goal.loop-kind-preserved-then-fine
loop-kind-preserved-then-fine c = (tt, tt, takes_more c.if-fine.true c.loop-kind.invariant.2 c.take-fine.ensures)

pub loop-kind-preserved : goal.loop-kind-preserved
loop-kind-preserved c = (tt, tt, takes_no_more c.in-Some.kind c.if-fine.false c.loop-kind.invariant.2)
