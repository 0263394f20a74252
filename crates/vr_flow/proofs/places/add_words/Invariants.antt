-- The words so far are added, and the others not.
use Rattle.std.proofs.Common.{◌≡◌, ℕ, ◌<◌, ◌≤◌, get_or, bit_or}
use Rattle.vr_flow.proofs.places.add_words.Given as goal

abbrev pub invariant-loop-index : goal.invariant-loop-index
invariant-loop-index l =
    ((i : ℕ) → i < l.index → get_or l.words i 0 ≡ bit_or (get_or l.fn.words i 0) (get_or l.others i 0))
    × ((i : ℕ) → l.index ≤ i → get_or l.words i 0 ≡ get_or l.fn.words i 0)
