use Rattle.vr_cli.specs.Outputs.{origin_under}
use Rattle.vr_cli.specs.Replays.{IsReplaySoFar, TellsReplay, reached}
use Rattle.vr_cli.proofs.GatheringLemmas.{WritesOne-failed}
use Rattle.vr_cli.proofs.ReplayLemmas.{replay_none}
use Rattle.vr_cli.proofs.replaying.replay_script.Goals as goal

pub returns-in_err-book-clause-text : goal.returns-in_err-book-clause-text
returns-in_err-book-clause-text g c =
    let origin = origin_under c.args.fuel c.args.policy c.args.hash in
    let out = g.O.Sink.written c.args.out.now in
    WritesOne-failed c.from_residual.result out out (λ book. TellsReplay origin c.args.script (reached book)) (IsReplaySoFar origin c.args.script) c.from_residual.ensures.0
    (replay_none origin c.args.script out)
