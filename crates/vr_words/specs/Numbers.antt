-- Numbers as words of a command line.
use Rattle.std.specs.Prelude.{ℕ, Bool, ◌&&◌, nat_le, List, Option, Some, None, if◌then◌else◌}
use Rattle.std.specs.Str.Parse.{digits_value}
use Rattle.vr_text.specs.Numerals.{is_numeral}

-- the number is within its bounds, both of them included
abbrev pub is_within : ℕ → ℕ → ℕ → Bool
is_within least most number = nat_le least number && nat_le number most

-- the number that a word stands for, where it is within the bounds
abbrev pub number_within : ℕ → ℕ → List ℕ → Option ℕ
number_within least most word =
    if is_numeral word && is_within least most (digits_value 10 word)
    then Some (digits_value 10 word) else None
