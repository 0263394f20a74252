use Rattle.vr_core.proofs.policy_files.change_total.Goals as goal

pub bounds-totals-region : goal.bounds-totals-region
bounds-totals-region c = (c.requires c.in-Some.region c.in-Some.is).within
