-- The flows of the pipelines so far.
use Rattle.std.proofs.Common.{length}
use Rattle.vr_flow.specs.Flows.{AreFlows, flows_of}
use Rattle.vr_flow.proofs.tables.pipeline_flows.Given as goal

abbrev pub invariant-loop-place : goal.invariant-loop-place
invariant-loop-place l = AreFlows l.place (length l.regions.names) (flows_of l.policy l.regions.names).pipeline_observes (flows_of l.policy l.regions.names).pipeline_modifies l.flows.items
