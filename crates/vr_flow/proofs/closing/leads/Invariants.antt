-- The leads of the pipelines so far.
use Rattle.vr_flow.proofs.LoopLemmas.{AreLeadsSoFar}
use Rattle.vr_flow.proofs.closing.leads.Given as goal

abbrev pub invariant-loop-pipeline : goal.invariant-loop-pipeline
invariant-loop-pipeline l = AreLeadsSoFar l.pipeline-index l.pipelines l.executable l.all.items
