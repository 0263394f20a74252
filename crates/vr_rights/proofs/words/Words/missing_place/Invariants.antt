-- In the regions so far the word has the right.
use Rattle.std.proofs.Common.{◌≡◌, ℕ, ◌<◌, true, [], get_or}
use Rattle.vr_base.specs.Rights.{has_bit, execute}
use Rattle.vr_rights.specs.Holders.{grants_at}
use Rattle.vr_rights.specs.Words.{word_in}
use Rattle.vr_rights.proofs.words.Words.missing_place.Given as goal

abbrev pub invariant-loop-place : goal.invariant-loop-place
invariant-loop-place l = (k : ℕ) → k < l.place → has_bit (word_in (get_or l.names (get_or l.regions k 0) []) (grants_at l.names l.self)) execute ≡ true
