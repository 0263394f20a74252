-- The keys so far have their places, and none of them comes twice.
use Rattle.std.proofs.Common.{◌≡◌, take, drop}
use Rattle.vr_policy_check.specs.Places.{same_by, Indexes}
use Rattle.vr_policy_check.specs.Repeats.{first_repeat, repeat_after}
use Rattle.vr_policy_check.proofs.places.index_of.Given as goal

abbrev pub invariant-loop-at : goal.invariant-loop-at
invariant-loop-at g l = record {
  new : repeat_after (same_by g.K.Ord.cmp) (take l.at l.keys) (drop l.at l.keys) ≡ first_repeat (same_by g.K.Ord.cmp) l.keys;
  indexes : Indexes g.K.Ord.cmp (take l.at l.keys) l.places;
}
