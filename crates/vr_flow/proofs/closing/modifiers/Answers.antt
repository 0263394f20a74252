-- One identity more.
use Rattle.std.proofs.Common.{◌≡◌}
use Rattle.vr_flow.specs.Flows.{flow_at}
use Rattle.vr_flow.proofs.LoopLemmas.{flow_read, modifiers_first, modifiers_next, modifiers_all}
use Rattle.vr_flow.proofs.closing.modifiers.Goals as goal

pub loop-place-init : goal.loop-place-init
loop-place-init c = modifiers_first c.args.flows.now c.args.caller c.args.regions.now c.in_ok-found.found c.put.new.self c.in_ok-found.ensures c.put.ensures

pub loop-place-preserved : goal.loop-place-preserved
loop-place-preserved c =
    let flows = c.args.flows.now in
    let flow = c.index-flows-place.result in
    let here : flow ≡ flow_at flows c.loop-place.place = flow_read flows c.loop-place.place flow c.loop-place-test.true c.index-flows-place.is in
    modifiers_next flows c.args.caller c.args.regions.now c.loop-place.place flow c.meets.result c.loop-place.found c.put-in-loop-place.new.self c.loop-place.invariant here c.meets.ensures c.put-in-loop-place.ensures

pub returns : goal.returns
returns c = modifiers_all c.args.flows.now c.args.caller c.args.regions.now c.loop-place.place c.loop-place.found c.loop-place-test.false c.loop-place.invariant
