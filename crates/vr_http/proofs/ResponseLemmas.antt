-- Pieces that are written one after the other.
use Rattle.std.proofs.Common.{◌≡◌, ℕ, List, ◌++◌, append_assoc}

-- three pieces after what is there
pub three_pieces : (before a b c : List ℕ) → ((before ++ a) ++ b) ++ c ≡ before ++ (a ++ (b ++ c))
three_pieces before a b c = simp append_assoc
