-- A prefix of the bytes was written, what lies beside is as it was, and the count of faults has not fallen.
use Rattle.std.proofs.Common.{◌≡◌, length, ◌-◌, ◌≤◌, take}
use Rattle.std.specs.Io.KnownBytes.{Appends}
use Rattle.vr_base.proofs.outside.write_all.Given as goal

abbrev pub invariant-loop-at : goal.invariant-loop-at
invariant-loop-at g l = record {
  within : l.at ≤ length l.bytes;
  written : Appends (g.O.Sink.written l.fn.out) (g.O.Sink.written l.out) (take l.at l.bytes);
  beside : g.O.Sink.beside l.out ≡ g.O.Sink.beside l.fn.out;
  later : g.O.Sink.faults l.fn.out ≤ g.O.Sink.faults l.out;
}

abbrev pub decreases-loop-at : goal.decreases-loop-at
decreases-loop-at g l = length l.bytes - l.at
