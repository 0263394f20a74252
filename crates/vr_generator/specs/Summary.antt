-- The summary of a replay of what was generated.
use Rattle.std.specs.Prelude.{ℕ, List, [], ◌∷◌, ◌++◌, codes, decimal}
use Rattle.std.specs.List.{flat_map, enumerate_from}
use Rattle.vr_base.specs.Signs.{line_feed}
use Rattle.vr_generator.specs.declared.summary.Summary.{Summary}

-- a line of a word and a number
abbrev pub number_line : List ℕ → ℕ → List ℕ
number_line name number = name ++ (codes " " ++ (decimal number ++ line_feed ∷ []))

-- the line of how many replies had a number
abbrev pub reply_line : ℕ × ℕ → List ℕ
reply_line counted =
    codes "reply " ++ (decimal counted.0 ++ (codes " " ++ (decimal counted.1 ++ line_feed ∷ [])))

-- the summary: what was made, the calls, how many replies had each number, the files that are left with the sum of their
-- sizes, and the SHA-256 of the text of the replay
abbrev pub summary_text : Summary → List ℕ
summary_text summary =
    number_line (codes "made") summary.made ++ number_line (codes "calls") summary.calls
    ++ flat_map reply_line (enumerate_from 0 summary.replies)
    ++ number_line (codes "files") summary.files ++ number_line (codes "bytes") summary.bytes
    ++ codes "hash " ++ summary.hash ++ line_feed ∷ []
