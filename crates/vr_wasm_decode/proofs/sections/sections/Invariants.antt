use Rattle.std.proofs.Common.{length}
use Rattle.vr_wasm_decode.proofs.SectionLoop.{GoesOn}
use Rattle.vr_wasm_decode.proofs.sections.sections.Given as goal

-- what is still read from here is what is read from the beginning, for any fuel that is enough
abbrev pub invariant-each : goal.invariant-each
invariant-each l = GoesOn l.initial.cursor l.last l.so_far l.cursor

abbrev pub decreases-each : goal.decreases-each
decreases-each l = length l.cursor.bytes
