-- One pipeline more.
use Rattle.std.proofs.Common.{◌≡◌}
use Rattle.vr_flow.specs.Flows.{flow_at}
use Rattle.vr_flow.proofs.LoopLemmas.{flow_read, led_none, led_next, led_all}
use Rattle.vr_flow.proofs.closing.led_by.Goals as goal

pub loop-place-init : goal.loop-place-init
loop-place-init c = led_none c.args.pipelines.now c.args.executable.now c.args.regions.now c.in_ok-led.led c.in_ok-led.ensures

pub loop-place-preserved : goal.loop-place-preserved
loop-place-preserved c =
    let pipelines = c.args.pipelines.now in
    let pipeline = c.index-pipelines-place.result in
    let here : pipeline ≡ flow_at pipelines c.loop-place.place = flow_read pipelines c.loop-place.place pipeline c.loop-place-test.true c.index-pipelines-place.is in
    led_next pipelines c.args.executable.now c.args.regions.now c.loop-place.place pipeline c.is_led-is_in.result c.loop-place.led c.put.new.self c.loop-place.invariant here c.is_led-is_in.ensures c.put.ensures

pub returns : goal.returns
returns c = led_all c.args.pipelines.now c.args.executable.now c.args.regions.now c.loop-place.place c.loop-place.led c.loop-place-test.false c.loop-place.invariant
