-- The places so far are those of the paths so far.
use Rattle.std.proofs.Common.{take}
use Rattle.vr_rights.specs.Kept.{ArePlaces}
use Rattle.vr_rights.proofs.regions.places_of.Given as goal

abbrev pub invariant-loop-path : goal.invariant-loop-path
invariant-loop-path l = ArePlaces l.names (take l.path-index l.paths) l.places.items
