use Rattle.vr_cli.proofs.SummaryLemmas.{counted_all}
use Rattle.vr_cli.proofs.summing.count_replies.Goals as goal

pub returns : goal.returns
returns c = counted_all _ c.args.journal.now _ c.loop-entry.invariant.sized c.loop-entry-test.false c.loop-entry.invariant.counted
