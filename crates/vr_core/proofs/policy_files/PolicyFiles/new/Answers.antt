use Rattle.std.proofs.Common.{◌≡◌, length, replicate, rules}
use Rattle.vr_core.proofs.QuotaLemmas.{keeps_nothing}
use Rattle.vr_core.proofs.policy_files.PolicyFiles.new.Goals as goal

pub invariant_of-result : goal.invariant_of-result
invariant_of-result c =
    let zeros : c.in_ok-totals.totals.items ≡ replicate (length c.in_ok-regions.regions.names) 0 = search rules in
    rw (c.new-2.ensures, zeros) (keeps_nothing c.args.policy c.in_ok-regions.regions c.in_ok-regions.ensures.regions)
