-- The rows so far are the first ones and those of the edits so far.
use Rattle.std.proofs.Common.{◌≡◌, ◌++◌, take}
use Rattle.vr_keeper.specs.Keepers.{edited_rows}
use Rattle.vr_keeper.proofs.kept.add_files.Given as goal

abbrev pub invariant-loop-path : goal.invariant-loop-path
invariant-loop-path l = l.rows.items ≡ l.fn.rows.items ++ edited_rows (take l.path-index l.edits)
