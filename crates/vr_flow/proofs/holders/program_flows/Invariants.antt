-- The flows of the programs so far.
use Rattle.vr_flow.specs.Holders.{AreProgramFlows}
use Rattle.vr_flow.proofs.holders.program_flows.Given as goal

abbrev pub invariant-loop-place : goal.invariant-loop-place
invariant-loop-place l = AreProgramFlows l.regions l.place l.flows.items
