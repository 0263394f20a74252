-- A prefix of the buffer was filled from what the source had left.
use Rattle.std.proofs.Common.{◌≡◌, ◌-◌, ◌≤◌, length, take}
use Rattle.std.specs.Io.KnownBytes.{Consumes}
use Rattle.vr_http.proofs.reading.read_exact.Given as goal

abbrev pub invariant-loop-at : goal.invariant-loop-at
invariant-loop-at g l = record {
  within : l.at ≤ length l.into;
  filled : Consumes (g.S.Source.left l.fn.source) (g.S.Source.left l.source) (take l.at l.into);
  beside : g.S.Source.beside l.source ≡ g.S.Source.beside l.fn.source;
  later : g.S.Source.faults l.fn.source ≤ g.S.Source.faults l.source;
}

abbrev pub decreases-loop-at : goal.decreases-loop-at
decreases-loop-at g l = length l.into - l.at
