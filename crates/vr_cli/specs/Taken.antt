-- Bytes of which only proofs know.
use Rattle.std.specs.Prelude.{ℕ, List, map}

-- the bytes of a log
abbrev pub bytes_in : List (ℕ × Unit {0}) → List ℕ
bytes_in items = map (λ item. item.0) items
