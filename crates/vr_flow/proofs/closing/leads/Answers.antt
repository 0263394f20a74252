-- One pipeline more.
use Rattle.std.proofs.Common.{◌≡◌}
use Rattle.vr_flow.specs.Flows.{flow_at}
use Rattle.vr_flow.proofs.LoopLemmas.{flow_read, leads_next}
use Rattle.vr_flow.proofs.closing.leads.Goals as goal

pub loop-pipeline-preserved : goal.loop-pipeline-preserved
loop-pipeline-preserved c =
    let pipelines = c.args.pipelines.now in
    let index = c.loop-pipeline.pipeline-index in
    let pipeline = c.pipeline-item.result in
    let here : pipeline ≡ flow_at pipelines index = flow_read pipelines index pipeline c.loop-pipeline-test.true c.pipeline-item.is in
    rw c.in_ok-push.ensures.items (leads_next index pipelines c.args.executable.now c.loop-pipeline.all.items pipeline c.in_ok-led_by.field-0 c.loop-pipeline.invariant here c.in_ok-led_by.ensures)
