-- The lines of a text that people write, and their words.
use Rattle.std.specs.Prelude.{ℕ, Bool, ◌||◌, ◌==◌, nat_eq, List, length, codes}
use Rattle.std.specs.List.{starts_with}
use Rattle.vr_base.specs.Cuts.{parts_at}
use Rattle.vr_base.specs.Signs.{space}

-- an empty line, and one that begins with #, is passed over
abbrev pub is_skipped : List ℕ → Bool
is_skipped line = (length line == 0) || starts_with nat_eq line (codes "#")

-- the words of a line, with one space between each two
abbrev pub words_of : List ℕ → List (List ℕ)
words_of line = parts_at space line
