-- Numbers as people write them.
use Rattle.std.specs.Prelude.{ℕ, ◌^◌, Bool, not, ◌&&◌, ◌==◌, nat_lt, nat_eq, List, length, codes, Option, Some, None, if◌then◌else◌}
use Rattle.std.specs.Char.{is_ascii_digit}
use Rattle.std.specs.List.{list_all, starts_with}
use Rattle.std.specs.Str.Parse.{digits_value}

-- more than one digit, of which the first is 0
abbrev pub has_leading_zero : List ℕ → Bool
has_leading_zero word = nat_lt 1 (length word) && starts_with nat_eq word (codes "0")

-- decimal digits, one at least, without a leading zero
abbrev pub is_numeral : List ℕ → Bool
is_numeral word =
    not (length word == 0) && list_all is_ascii_digit word && not (has_leading_zero word)

-- the number of 32 bits that the digits stand for
abbrev pub id_of : List ℕ → Option ℕ
id_of word =
    if is_numeral word && nat_lt (digits_value 10 word) (2 ^ 32)
    then Some (digits_value 10 word) else None
