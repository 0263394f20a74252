-- The replies that were passed are counted.
use Rattle.std.proofs.Common.{◌≡◌, ◌<◌, ℕ, length, get_or, take, count_by}
use Rattle.std.specs.Prelude.{◌==◌}
use Rattle.vr_base.specs.Calls.{reply_number}
use Rattle.vr_cli.proofs.summing.count_replies.Given as goal

abbrev pub invariant-loop-entry : goal.invariant-loop-entry
invariant-loop-entry l = record {
  sized : length l.counts ≡ 14;
  counted : (k : ℕ) → k < 14
      → get_or l.counts k 0 ≡ count_by (λ entry. reply_number entry.reply == k) (take l.entry-index l.journal);
}
