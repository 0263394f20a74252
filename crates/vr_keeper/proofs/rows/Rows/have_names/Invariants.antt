-- The rows so far have names.
use Rattle.std.proofs.Common.{◌≡◌, drop}
use Rattle.std.specs.List.{list_any}
use Rattle.vr_keeper.specs.Keepers.{has_no_name}
use Rattle.vr_keeper.proofs.rows.Rows.have_names.Given as goal

abbrev pub invariant-loop-name : goal.invariant-loop-name
invariant-loop-name l = list_any has_no_name (drop l.name-index l.name-items) ≡ list_any has_no_name l.name-items
