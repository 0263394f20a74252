use Rattle.std.proofs.Common.{◌+◌, ◌*◌, length}
use Rattle.vr_wasm_decode.proofs.SequenceLoop.{GoesOn}
use Rattle.vr_wasm_decode.proofs.instructions.+nesting.Given as goal

abbrev pub decreases-nested : goal.decreases-nested
decreases-nested l = 4 * l.deep + 1

abbrev pub decreases-other_branch : goal.decreases-other_branch
decreases-other_branch l = 4 * l.deep + 4

abbrev pub decreases-instruction : goal.decreases-instruction
decreases-instruction l = 4 * l.deep + 2

abbrev pub decreases-sequence : goal.decreases-sequence
decreases-sequence l = 4 * l.deep + 3

-- what was read and what is still read are the whole, for any fuel that is enough
abbrev pub invariant-sequence-each : goal.invariant-sequence-each
invariant-sequence-each l = GoesOn l.deep l.may_else l.initial.cursor l.items l.cursor

abbrev pub decreases-sequence-each : goal.decreases-sequence-each
decreases-sequence-each l = length l.cursor.bytes
