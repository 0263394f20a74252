-- The places so far are those of the longest names that enclose the first names.
use Rattle.std.proofs.Common.{◌≡◌, length}
use Rattle.vr_rights.specs.Ordered.{AreOuter}
use Rattle.vr_rights.proofs.names.outer_places.Given as goal

abbrev pub invariant-loop-place : goal.invariant-loop-place
invariant-loop-place l = (length l.outer.items ≡ l.place) × AreOuter l.names l.outer.items
