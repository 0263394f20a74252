-- The map is of what is held by the lines so far, and there are no more lines than bytes.
use Rattle.std.proofs.Common.{◌≡◌, ◌+◌, ◌≤◌, List, [], length}
use Rattle.std.specs.Str.Lines.{lines}
use Rattle.vr_face.specs.Holders.{Holds}
use Rattle.vr_face.specs.Keys.{Holding, keys_from}
use Rattle.vr_face.proofs.keys.read_keys.Given as goal

abbrev pub invariant-loop-left : goal.invariant-loop-left
invariant-loop-left l = record {
  keys : (held : List Holding) × Holds l.holders held
      × (keys_from l.policy l.number held (lines l.left) ≡ keys_from l.policy 1 [] (lines l.bytes));
  numbers : l.number + length l.left ≤ length l.bytes + 1;
}

abbrev pub decreases-loop-left : goal.decreases-loop-left
decreases-loop-left l = length l.left
