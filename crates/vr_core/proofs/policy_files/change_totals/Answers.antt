use Rattle.std.proofs.Common.{◌+◌, ◌*◌, ◌^◌, ◌<◌, length, arith, sym, ◌∙◌}
use Rattle.std.specs.FinMap.{len}
use Rattle.vr_core.proofs.AppliedLemmas.{turn_keeps, turn_room}
use Rattle.vr_core.proofs.policy_files.change_totals.Goals as goal

pub change_total-requires : goal.change_total-requires
change_total-requires c = λ place e.
    let few : 16777216 * (len c.args.files.now.map + length c.args.changes.now) < 2 ^ 127 = omega arith in
    rw (c.size_at.ensures.size)
    (turn_room c.args.policy.now c.args.regions.now c.args.files.now.map c.args.changes.now c.requires.distinct c.loop-path.totals c.loop-path.path-index c.loop-path-item.result
    c.loop-path.invariant c.loop-path-test.true c.loop-path-item.is few place c.size_of.result (sym c.region_of-region.ensures.region ∙ e) c.size_of.ensures.most)

pub loop-path-preserved : goal.loop-path-preserved
loop-path-preserved c =
    rw (c.change_total.ensures, c.region_of-region.ensures.region, c.size_at.ensures.size, c.size_of.ensures.size)
    (turn_keeps c.args.policy.now c.args.regions.now c.args.files.now.map c.args.changes.now c.requires.distinct c.loop-path.totals c.loop-path.path-index c.loop-path-item.result
    c.loop-path.invariant c.loop-path-test.true c.loop-path-item.is (rw (← c.size_of.ensures.size) c.size_of.ensures.most))
