-- What the holder observes and modifies of the regions so far.
use Rattle.std.proofs.Common.{length}
use Rattle.vr_flow.specs.Flows.{IsFlow}
use Rattle.vr_flow.specs.Holders.{holder_observes, holder_modifies}
use Rattle.vr_flow.specs.Places.{below}
use Rattle.vr_flow.proofs.holders.word_flow.Given as goal

abbrev pub invariant-loop-region : goal.invariant-loop-region
invariant-loop-region l = IsFlow (length l.regions.names) (below l.region (holder_observes l.regions l.holder)) (below l.region (holder_modifies l.regions l.holder)) l.flow
