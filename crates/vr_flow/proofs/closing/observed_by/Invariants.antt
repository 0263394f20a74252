-- What the pipelines so far observe.
use Rattle.vr_flow.proofs.LoopLemmas.{IsObservedSoFar}
use Rattle.vr_flow.proofs.closing.observed_by.Given as goal

abbrev pub invariant-loop-place : goal.invariant-loop-place
invariant-loop-place l = IsObservedSoFar l.place l.pipelines l.first l.led l.regions
