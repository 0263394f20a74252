-- No word so far has a bit of the other one at its place.
use Rattle.std.proofs.Common.{◌≡◌, ℕ, ◌<◌, get_or, bit_and}
use Rattle.vr_flow.proofs.places.words_meet.Given as goal

abbrev pub invariant-loop-index : goal.invariant-loop-index
invariant-loop-index l = (i : ℕ) → i < l.index → bit_and (get_or l.words i 0) (get_or l.others i 0) ≡ 0
