-- The trees so far, and those of the pipelines that are left, are those of all.
use Rattle.std.proofs.Common.{◌≡◌, drop}
use Rattle.vr_policy_check.specs.Rules.{trees_from}
use Rattle.vr_policy_check.proofs.TreeLemmas.{after_trees}
use Rattle.vr_policy_check.proofs.rules.parse_pipes.Given as goal

abbrev pub invariant-loop-at : goal.invariant-loop-at
invariant-loop-at l = after_trees l.pipes.items (trees_from l.at (drop l.at l.pipelines)) ≡ trees_from 0 l.pipelines
