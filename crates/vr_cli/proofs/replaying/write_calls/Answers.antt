use Rattle.std.proofs.Common.{◌≡◌, ap, length, arith, ◌∙◌}
use Rattle.std.specs.Vec.Iter.{into_iter_items}
use Rattle.vr_cli.specs.Replays.{AreCallLines, AreFirstLines, reached}
use Rattle.vr_cli.proofs.GatheringLemmas.{HandsInLines-failed}
use Rattle.vr_cli.proofs.ReplayLemmas.{called_more, called_cut, called_all}
use Rattle.vr_cli.proofs.replaying.write_calls.Goals as goal

pub loop-line-preserved : goal.loop-line-preserved
loop-line-preserved g c =
    let first = c.in-Some.ensures.steps in
    let so_far = c.loop-line.invariant in
    let made = c.in_ok-left.ensures in
    let fewer = ap length first.0 in
    record {
      called = called_more _ _ _ _ _ _ _ _ _ _ (rw first.0 at so_far.called) _ _ _ (rw so_far.origin at made.lines);
      origin = made.origin ∙ so_far.origin;
      later = omega arith;
      sized = omega arith;
    }

pub returns-in_err-left-clause-lines : goal.returns-in_err-left-clause-lines
returns-in_err-left-clause-lines g c =
    let book = c.args.book.now in
    let so_far = c.loop-line.invariant in
    let cut = rw so_far.origin at c.in_err-left.ensures.lines in
    HandsInLines-failed c.from_residual.result (g.O.Sink.written c.args.out.now) (g.O.Sink.written c.write_call.new.out) c.args.text
    (AreCallLines book.origin (reached book) c.args.script (reached c.write_call.new.book)) (AreFirstLines book.origin (reached book) c.args.script) c.from_residual.ensures.0
    (called_cut _ _ _ _ _ _ _ _ _ _ (rw c.in-Some.ensures.steps.0 at so_far.called) (g.O.Sink.written c.write_call.new.out) cut)

pub returns-clause-lines : goal.returns-clause-lines
returns-clause-lines g c =
    let left = into_iter_items c.loop-line.line-iterator in
    let none : length left ≡ 0 = omega (arith, c.loop-line.invariant.sized, c.in-None.ensures.steps.0) in
    called_all _ _ _ _ _ _ _ _ left none c.loop-line.invariant.called
