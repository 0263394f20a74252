-- The lines of the identities so far.
use Rattle.vr_report.specs.Flows.{HasFlowLines}
use Rattle.vr_report.proofs.flows.write_flows.Given as goal

abbrev pub invariant-loop-place : goal.invariant-loop-place
invariant-loop-place l = HasFlowLines l.policy l.regions.names l.place l.text
