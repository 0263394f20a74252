-- The files that were passed are summed up; none has more than 16,777,216 bytes.
use Rattle.std.proofs.Common.{◌≡◌, ◌*◌, ◌≤◌, length, take, sum_by}
use Rattle.std.specs.FinMap.{entries}
use Rattle.vr_cli.proofs.summing.sum_sizes.Given as goal

abbrev pub invariant-loop-place : goal.invariant-loop-place
invariant-loop-place l = record {
  summed : l.sum ≡ sum_by (λ file. length file.1) (take l.place (entries l.files.map));
  most : l.sum ≤ 16777216 * l.place;
}
