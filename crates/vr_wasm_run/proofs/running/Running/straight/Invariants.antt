use Rattle.std.proofs.Common.{length}
use Rattle.vr_wasm_run.proofs.StraightLemmas.{Strides}
use Rattle.vr_wasm_run.proofs.running.Running.straight.Given as goal

abbrev pub invariant-loop-code : goal.invariant-loop-code
invariant-loop-code g l = Strides g.H.Host.world g.H.Host.reply l.fn.self l.self l.code l.fn.fuel l.left

abbrev pub decreases-loop-code : goal.decreases-loop-code
decreases-loop-code g l = length l.code
