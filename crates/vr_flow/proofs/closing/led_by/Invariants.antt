-- The pipelines so far that are led to.
use Rattle.vr_flow.proofs.LoopLemmas.{AreLedSoFar}
use Rattle.vr_flow.proofs.closing.led_by.Given as goal

abbrev pub invariant-loop-place : goal.invariant-loop-place
invariant-loop-place l = AreLedSoFar l.place l.pipelines l.executable l.regions l.led
