use Rattle.std.proofs.Common.{◌∷◌, ◌++◌, []}
use Rattle.vr_base.proofs.Written.{AppendsPrefix-none}
use Rattle.vr_cli.specs.Replays.{AreCallLines, AreFirstLines, reached}
use Rattle.vr_cli.proofs.GatheringLemmas.{HandsInLines-none}
use Rattle.vr_cli.proofs.ReplayLemmas.{answered, first_none, line_handed}
use Rattle.vr_cli.proofs.replaying.write_call.Goals as goal

pub returns-in-OutOfMemory-clause-lines : goal.returns-in-OutOfMemory-clause-lines
returns-in-OutOfMemory-clause-lines g c =
    let book = c.args.book.now in
    let before = reached book in
    ([], first_none book.origin before (c.args.line ∷ []), AppendsPrefix-none (g.O.Sink.written c.args.out.now) (c.args.text ++ []))

pub returns-in_err-add_call_line-clause-lines : goal.returns-in_err-add_call_line-clause-lines
returns-in_err-add_call_line-clause-lines g c =
    let book = c.args.book.now in
    let before = reached book in
    HandsInLines-none c.from_residual.result (g.O.Sink.written c.args.out.now) c.args.text
    (AreCallLines book.origin before (c.args.line ∷ []) (reached c.step-reply.new.self)) (AreFirstLines book.origin before (c.args.line ∷ []))
    c.from_residual.ensures.0 (first_none book.origin before (c.args.line ∷ []))

pub returns-clause-lines : goal.returns-clause-lines
returns-clause-lines g c =
    let book = c.args.book.now in
    let before = reached book in
    let asked = c.step-reply.ensures in
    let made = answered _ _ _ c.args.line _ _ _ asked.steps c.in_default.not-OutOfMemory (c.requires.never _) (c.requires.never _) asked.cause in
    line_handed c.pass_on.result (g.O.Sink.written c.args.out.now) (g.O.Sink.written c.pass_on.new.out) c.args.text
    book.origin before c.args.line c.step-reply.result (reached c.step-reply.new.self) made (rw c.in_ok-add_call_line.ensures at c.pass_on.ensures.text)
