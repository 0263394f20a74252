-- The places so far are done, or not in the set.
use Rattle.std.proofs.Common.{◌≡◌, ℕ, ◌<◌, true, false, get_or}
use Rattle.vr_flow.specs.Places.{has_place}
use Rattle.vr_flow.proofs.closing.next_place.Given as goal

abbrev pub invariant-loop-place : goal.invariant-loop-place
invariant-loop-place l = (k : ℕ) → k < l.place → has_place l.set k ≡ true → get_or l.done k false ≡ true
