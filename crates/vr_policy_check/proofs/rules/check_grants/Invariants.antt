-- No list so far has a name twice.
use Rattle.std.proofs.Common.{◌≡◌, ℕ, ◌<◌, List, false, get_or, is_some, bytes_eq}
use Rattle.vr_policy_check.specs.Repeats.{first_repeat}
use Rattle.vr_policy_check.specs.Rules.{grant_lists, grant_names}
use Rattle.vr_policy_check.proofs.rules.check_grants.Given as goal

abbrev pub invariant-loop-at : goal.invariant-loop-at
invariant-loop-at l =
    (k : ℕ) → k < l.at → (d : List (List ℕ × ℕ)) → is_some (first_repeat bytes_eq (grant_names (get_or (grant_lists l.policy) k d))) ≡ false
