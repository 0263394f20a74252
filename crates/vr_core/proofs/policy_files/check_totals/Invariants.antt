-- None of the totals so far reaches a quota.
use Rattle.std.proofs.Common.{◌≡◌, ℕ, ◌<◌, [], None, get_or}
use Rattle.vr_core.specs.Quotas.{total_fault}
use Rattle.vr_core.proofs.policy_files.check_totals.Given as goal

abbrev pub invariant-loop-region : goal.invariant-loop-region
invariant-loop-region l = (place : ℕ) → place < l.region
    → total_fault (get_or l.regions.quotas place None) (get_or l.regions.names place []) (get_or l.old place 0) (get_or l.new place 0) ≡ None
