-- The regions that the paths so far name.
use Rattle.std.proofs.Common.{take}
use Rattle.vr_rights.specs.Flows.{is_among}
use Rattle.vr_flow.specs.Flows.{at_place}
use Rattle.vr_flow.specs.Places.{Adds}
use Rattle.vr_flow.proofs.tables.add_named.Given as goal

abbrev pub invariant-loop-path : goal.invariant-loop-path
invariant-loop-path l = Adds (at_place (is_among (take l.path-index l.paths)) l.regions.names) l.initial.set l.set
