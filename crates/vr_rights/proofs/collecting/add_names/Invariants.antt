-- The names of the entries so far are added.
use Rattle.std.proofs.Common.{◌≡◌, ◌++◌, map, take}
use Rattle.vr_rights.proofs.collecting.add_names.Given as goal

abbrev pub invariant-loop-entry : goal.invariant-loop-entry
invariant-loop-entry g l = l.names.items ≡ l.initial.names.items ++ map g.T.Named.name (take l.entry-index l.entries)
