-- The lines are over the policy's regions.
use Rattle.vr_report.proofs.flows.flow_text.Goals as goal

pub returns : goal.returns
returns c = record {
  regions = c.in_ok-regions.regions;
  named = c.in_ok-regions.ensures.regions;
  lines = rw c.finish.ensures c.in_ok-write_flows.ensures;
}
