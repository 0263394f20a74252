use Rattle.vr_told_flows.proofs.ToldLemmas.{prints_bounds}
use Rattle.vr_told_flows.proofs.printed.printed_flows_bound_learning.Goals as goal

pub returns : goal.returns
returns c = prints_bounds
