use Rattle.std.proofs.Common.{◌≡◌, ◌++◌}
use Rattle.std.specs.Prelude.{string_bytes}
use Rattle.vr_generator.proofs.LineLemmas.{replies_left}
use Rattle.vr_generator.proofs.summary.write_replies.Given as goal

abbrev pub invariant-loop-number : goal.invariant-loop-number
invariant-loop-number l =
    string_bytes l.text ++ replies_left l.number-counter l.replies ≡ string_bytes l.initial.text ++ replies_left 0 l.replies
