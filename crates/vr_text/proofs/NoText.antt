-- A text to which nothing is added.
use Rattle.std.proofs.Common.{◌≡◌, ℕ, List, [], ◌++◌, append-nil}

pub nothing_more : (text : List ℕ) → text ++ [] ≡ text
nothing_more text = append-nil text
