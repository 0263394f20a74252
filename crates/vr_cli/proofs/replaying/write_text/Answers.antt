use Rattle.vr_policy_check.specs.Checked.{IsChecked}
use Rattle.vr_cli.specs.Replays.{IsReplaySoFar, TellsReplay, reached}
use Rattle.vr_cli.proofs.ReplayLemmas.{replay_called, replay_listed, replay_none, replay_written}
use Rattle.vr_cli.proofs.GatheringLemmas.{WritesOne-failed}
use Rattle.vr_cli.proofs.replaying.write_text.Goals as goal

pub returns-in_err-gather-clause-text : goal.returns-in_err-gather-clause-text
returns-in_err-gather-clause-text g c =
    let origin = c.args.book.now.origin in
    WritesOne-failed c.from_residual.result _ _ (λ _. TellsReplay origin c.args.script (reached c.args.book.now)) (IsReplaySoFar origin c.args.script) c.from_residual.ensures.0
    (replay_none origin c.args.script (g.O.Sink.written c.args.out.now))

pub returns-in_err-text-clause-text : goal.returns-in_err-text-clause-text
returns-in_err-text-clause-text g c =
    let origin = c.args.book.now.origin in
    WritesOne-failed c.from_residual-in_err-text.result _ _ (λ _. TellsReplay origin c.args.script (reached c.args.book.now)) (IsReplaySoFar origin c.args.script)
    c.from_residual-in_err-text.ensures.0 (replay_none origin c.args.script (g.O.Sink.written c.args.out.now))

pub returns-in_err-text-2-clause-text : goal.returns-in_err-text-2-clause-text
returns-in_err-text-2-clause-text g c =
    let origin = c.args.book.now.origin in
    let calls = rw (c.requires.fresh, c.in_ok-text.ensures, c.in_ok-gather.ensures, ← c.requires.digits) at c.in_err-text-2.ensures.lines in
    WritesOne-failed c.from_residual-in_err-text-2.result _ _ (λ _. TellsReplay origin c.args.script (reached c.write_calls.new.book)) (IsReplaySoFar origin c.args.script)
    c.from_residual-in_err-text-2.ensures.0 (replay_called origin c.args.script _ _ calls)

pub returns-in_err-text-3-clause-text : goal.returns-in_err-text-3-clause-text
returns-in_err-text-3-clause-text g c =
    let origin = c.args.book.now.origin in
    let checked : IsChecked origin.policy = rw (← c.in_ok-text-2.ensures.origin) c.files.ensures.book.checked in
    let calls = rw (c.requires.fresh, c.in_ok-text.ensures, c.in_ok-gather.ensures, ← c.requires.digits) at c.in_ok-text-2.ensures.lines in
    let listed = rw c.files.ensures.files at c.in_err-text-3.ensures.text in
    WritesOne-failed c.from_residual-in_err-text-3.result _ _ (λ _. TellsReplay origin c.args.script (reached c.write_calls.new.book)) (IsReplaySoFar origin c.args.script)
    c.from_residual-in_err-text-3.ensures.0 (replay_listed origin c.args.script _ _ checked _ _ calls.0 calls.1 calls.2 _ listed)

pub returns-clause-text : goal.returns-clause-text
returns-clause-text g c =
    let origin = c.args.book.now.origin in
    let checked : IsChecked origin.policy = rw (← c.in_ok-text-2.ensures.origin) c.files.ensures.book.checked in
    let calls = rw (c.requires.fresh, c.in_ok-text.ensures, c.in_ok-gather.ensures, ← c.requires.digits) at c.in_ok-text-2.ensures.lines in
    let listed = rw c.files.ensures.files at c.in_ok-text-3.ensures.text in
    replay_written origin c.args.script _ _ checked _ _ calls.0 calls.1 calls.2 _ _ _ _ listed c.finish.ensures.text
