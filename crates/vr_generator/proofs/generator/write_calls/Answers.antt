use Rattle.std.specs.Prelude.{string_bytes}
use Rattle.vr_generator.proofs.LineLemmas.{one_call_more}
use Rattle.vr_generator.proofs.generator.write_calls.Goals as goal

pub loop-preserved : goal.loop-preserved
loop-preserved c =
    let more = one_call_more (string_bytes c.loop.text) _ c.args.count c.loop.counter c.loop.state c.loop-test.true c.loop.invariant in
    cc (more, c.in_ok-write_call.ensures, c.draw_call-call.ensures.value, c.draw_call-call.ensures.after)
