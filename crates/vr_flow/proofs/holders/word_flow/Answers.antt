-- One region more.
use Rattle.std.proofs.Common.{◌≡◌, ◌+◌, length}
use Rattle.vr_flow.specs.Flows.{IsFlow}
use Rattle.vr_flow.specs.Holders.{holder_observes, holder_modifies}
use Rattle.vr_flow.specs.Places.{nowhere, below, just}
use Rattle.vr_flow.proofs.SetLemmas.{set_adds, set_same, below_none, below_next}
use Rattle.vr_flow.proofs.holders.word_flow.Goals as goal

pub loop-region-init : goal.loop-region-init
loop-region-init c =
    let regions = c.args.regions.now in
    let none : IsFlow (length regions.names) nowhere nowhere c.in_ok-flow.flow = rw (← c.count-count.ensures) c.in_ok-flow.ensures in
    record {
      observed = set_same (length regions.names) nowhere _ c.in_ok-flow.flow.observed none.observed (below_none (holder_observes regions c.args.holder));
      modified = set_same (length regions.names) nowhere _ c.in_ok-flow.flow.modified none.modified (below_none (holder_modifies regions c.args.holder));
    }

pub loop-region-preserved : goal.loop-region-preserved
loop-region-preserved c =
    let regions = c.args.regions.now in
    let count = length regions.names in
    let region = c.loop-region.region in
    let observes = holder_observes regions c.args.holder in
    let modifies = holder_modifies regions c.args.holder in
    let observed = c.holder_observes-observed.result in
    let modified = c.holder_modifies-modified.result in
    let is_modified : modified ≡ modifies region = c.holder_modifies-modified.ensures regions region c.rights_of-word.ensures in
    record {
      observed = set_adds count (below region observes) (just region observed) (below (region + 1) observes) c.loop-region.flow.observed c.put.new.self c.loop-region.invariant.observed c.put.ensures
          (below_next region observes observed c.holder_observes-observed.ensures);
      modified = set_adds count (below region modifies) (just region modified) (below (region + 1) modifies) c.loop-region.flow.modified c.put-in-loop-region.new.self c.loop-region.invariant.modified c.put-in-loop-region.ensures
          (below_next region modifies modified is_modified);
    }
