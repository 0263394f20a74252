-- One pipeline more.
use Rattle.std.proofs.Common.{◌≡◌}
use Rattle.vr_flow.specs.Flows.{flow_at}
use Rattle.vr_flow.proofs.LoopLemmas.{flow_read, observed_first, observed_next, observed_all}
use Rattle.vr_flow.proofs.closing.observed_by.Goals as goal

pub loop-place-init : goal.loop-place-init
loop-place-init c = observed_first c.args.pipelines.now c.args.first.now c.args.led.now c.in_ok-regions.regions c.in_ok-regions.ensures

pub loop-place-preserved : goal.loop-place-preserved
loop-place-preserved c =
    let pipelines = c.args.pipelines.now in
    let pipeline = c.index-pipelines-place.result in
    let here : pipeline ≡ flow_at pipelines c.loop-place.place = flow_read pipelines c.loop-place.place pipeline c.loop-place-test.true c.index-pipelines-place.is in
    observed_next pipelines c.args.first.now c.args.led.now c.loop-place.place pipeline c.has.result c.loop-place.regions c.add.new.self c.loop-place.invariant here c.has.ensures c.add.ensures

pub returns : goal.returns
returns c = observed_all c.args.pipelines.now c.args.first.now c.args.led.now c.loop-place.place c.loop-place.regions c.loop-place-test.false c.loop-place.invariant
