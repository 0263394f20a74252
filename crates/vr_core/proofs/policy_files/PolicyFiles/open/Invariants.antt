-- The rows so far are good, and the files are theirs.
use Rattle.std.proofs.Common.{◌≡◌, ◌-◌, ◌^◌, ◌++◌, min, length, None}
use Rattle.std.specs.Vec.Iter.{into_iter_items}
use Rattle.vr_keeper.specs.Keepers.{rows_map}
use Rattle.vr_core.specs.Opening.{bad_row}
use Rattle.vr_core.proofs.policy_files.PolicyFiles.open.Given as goal

abbrev pub invariant-loop-name : goal.invariant-loop-name
invariant-loop-name l = record {
  policy : l.files.policy ≡ l.fn.policy;
  files : l.files.files.map ≡ rows_map l.yielded;
  good : bad_row l.yielded ≡ None;
  place : l.place ≡ min (length l.yielded) (2 ^ 32 - 1);
  rows : l.yielded ++ into_iter_items l.name-iterator ≡ l.fn.rows;
}
