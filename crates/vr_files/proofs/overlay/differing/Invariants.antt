-- The changes that were kept are those of the changes so far that make a difference.
use Rattle.std.proofs.Common.{◌≡◌}
use Rattle.std.specs.Prelude.{filter}
use Rattle.vr_files.specs.Changes.{differs}
use Rattle.vr_files.proofs.overlay.differing.Given as goal

abbrev pub invariant-loop-path : goal.invariant-loop-path
invariant-loop-path l = l.kept.items ≡ filter (differs l.base.map) l.yielded
