use Rattle.std.proofs.Common.{◌≡◌, ◌<◌, length, arith, below_more, rules}
use Rattle.vr_core.specs.Replies.{told}
use Rattle.vr_core.proofs.FaultLemmas.{all_fine, no_fault, refused_at}
use Rattle.vr_core.proofs.policy_files.check_totals.Goals as goal

pub loop-region-preserved : goal.loop-region-preserved
loop-region-preserved c = below_more _ _ c.loop-region.invariant (no_fault _ _ (c.in_ok-check_total.ensures {u = tt}))

pub returns-in_err-check_total : goal.returns-in_err-check_total
returns-in_err-check_total c = λ policy files others are first second.
    let l : c.loop-region.region < length c.args.regions.now.names = omega arith in
    let refused = refused_at policy c.args.regions.now are files others c.args.old.now c.args.new.now first second c.loop-region.region (told c.in_err-check_total.field-0.0) l c.loop-region.invariant in
    let fact = refused c.in_err-check_total.ensures in
    search rules

pub returns : goal.returns
returns c = λ policy files others are first second.
    let l : length c.args.regions.now.names ≡ c.loop-region.region = omega arith in
    all_fine policy c.args.regions.now are files others c.args.old.now c.args.new.now first second (rw l c.loop-region.invariant)
