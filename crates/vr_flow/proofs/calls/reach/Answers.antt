-- The reach by the flows is the reach by the policy.
use Rattle.std.proofs.Common.{Result, Ok, Err, IfOk, arith}
use Rattle.vr_base.specs.declared.memory.NoMemory.{NoMemory}
use Rattle.vr_flow.specs.Flows.{tests_of, flows_of}
use Rattle.vr_flow.specs.Places.{has_place}
use Rattle.vr_flow.specs.Reach.{IsReachOf, ReachData}
use Rattle.vr_flow.proofs.ReachLemmas.{reach_same}
use Rattle.vr_flow.proofs.calls.reach.Goals as goal

pub reach-requires : goal.reach-requires
reach-requires c = omega (arith, c.in_ok-flows.ensures.all, c.requires.identity)

pub returns : goal.returns
returns c = by_cases c.reach.result c.reach.ensures
  where
    by_cases : (r : Result ReachData NoMemory) → IfOk r (IsReachOf (tests_of c.in_ok-flows.flows) c.args.identity) → IfOk r (IsReachOf (flows_of c.args.policy.now c.args.regions.now.names) c.args.identity)
    by_cases (Ok reach) h = reach_same (tests_of c.in_ok-flows.flows) (flows_of c.args.policy.now c.args.regions.now.names) c.args.identity (has_place reach.identities) (has_place reach.regions) c.in_ok-flows.ensures.same h
    by_cases (Err e) h = h
