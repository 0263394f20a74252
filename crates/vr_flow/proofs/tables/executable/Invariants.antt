-- The executable ones of the pipelines so far.
use Rattle.std.proofs.Common.{length}
use Rattle.vr_flow.specs.Flows.{flows_of}
use Rattle.vr_flow.specs.Places.{IsSet, below}
use Rattle.vr_flow.proofs.tables.executable.Given as goal

abbrev pub invariant-loop-pipeline : goal.invariant-loop-pipeline
invariant-loop-pipeline l = IsSet (length l.policy.pipes) (below l.pipeline (flows_of l.policy l.regions.names).is_executable) l.found
