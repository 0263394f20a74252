-- The words of a line, each with the space that parts it from those before it.
use Rattle.std.specs.Prelude.{ℕ, List, ◌∷◌, ◌++◌, length, codes, decimal, ◌==◌, if◌then◌else◌}
use Rattle.hex.specs.Hex.{encode_lower}
use Rattle.vr_base.specs.Signs.{space}

-- a word, with the space that parts it from those before it
abbrev pub word : List ℕ → List ℕ
word text = space ∷ text

-- a number as a word, in decimal digits
abbrev pub number : ℕ → List ℕ
number n = word (decimal n)

-- bytes in hex, of none a dash
abbrev pub hex_of : List ℕ → List ℕ
hex_of bytes = if length bytes == 0 then codes "-" else encode_lower bytes

-- a size and the bytes
abbrev pub sized_bytes : List ℕ → List ℕ
sized_bytes bytes = number (length bytes) ++ word (hex_of bytes)
