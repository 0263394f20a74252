-- The flows of the identities so far.
use Rattle.std.proofs.Common.{length}
use Rattle.vr_flow.specs.Flows.{AreFlows, flows_of}
use Rattle.vr_flow.proofs.tables.identity_flows.Given as goal

abbrev pub invariant-loop-place : goal.invariant-loop-place
invariant-loop-place l = AreFlows l.place (length l.regions.names) (flows_of l.policy l.regions.names).identity_observes (flows_of l.policy l.regions.names).identity_modifies l.flows.items
