-- What is left of the known bits has the lowest missing right.
use Rattle.std.proofs.Common.{◌≡◌, not, ◌&&◌, drop, find}
use Rattle.vr_base.specs.Rights.{has_bit, missing_right, right_bits}
use Rattle.vr_base.proofs.rights.RightsWord.missing.Given as goal

abbrev pub invariant-loop-bit : goal.invariant-loop-bit
invariant-loop-bit l = record {
  known : l.bit-items ≡ right_bits;
  left : find (λ bit. has_bit l.needed bit && not (has_bit l.self bit)) (drop l.bit-index right_bits) ≡ missing_right l.self l.needed;
}
