-- The rows that were kept are those so far that have no edit.
use Rattle.std.proofs.Common.{◌≡◌, take}
use Rattle.std.specs.Prelude.{filter}
use Rattle.vr_keeper.specs.Keepers.{is_untouched}
use Rattle.vr_keeper.proofs.kept.untouched.Given as goal

abbrev pub invariant-loop-name : goal.invariant-loop-name
invariant-loop-name l = l.kept.items ≡ filter (is_untouched l.edits.changes) (take l.name-index l.rows)
