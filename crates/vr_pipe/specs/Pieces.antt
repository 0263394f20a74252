-- The words and signs of a text, with their offsets.
use Rattle.std.specs.Prelude.{◌≡◌, ℕ, ◌+◌, Bool, true, false, not, ◌||◌, ◌==◌, List, [], ◌∷◌, map, take_while, codes, bytes_eq, Ok, if◌then◌else◌}
use Rattle.vr_base.specs.Names.{path_of, normal_form}
use Rattle.vr_base.specs.Signs.{space, line_feed, carriage_return}
use Rattle.vr_pipe.specs.Signs.{tab, vertical_line, left_brace, right_brace}
use Rattle.vr_pipe.specs.Signs as signs

-- a word that is no keyword; the words if and else; the signs | ; { }
pub data Piece : Type 0 where
  name : List ℕ → Piece
  if_word : Piece
  else_word : Piece
  bar : Piece
  semicolon : Piece
  opening : Piece
  closing : Piece

-- a space, a tab, LF or CR
abbrev pub is_blank : ℕ → Bool
is_blank b = (b == space) || (b == tab) || (b == line_feed) || (b == carriage_return)

-- one of ; | { }
abbrev pub is_sign : ℕ → Bool
is_sign b =
    (b == signs.semicolon) || (b == vertical_line) || (b == left_brace) || (b == right_brace)

-- a byte of a word: no blank and no sign
abbrev pub is_word_byte : ℕ → Bool
is_word_byte b = not (is_blank b || is_sign b)

-- the keyword, or the name, that a word is
abbrev pub word_piece : List ℕ → Piece
word_piece word =
    if bytes_eq word (codes "if") then if_word
    else (if bytes_eq word (codes "else") then else_word else name word)

-- what a sign is, the closing brace where it is none of the others
abbrev pub sign_piece : ℕ → Piece
sign_piece b =
    if b == signs.semicolon then semicolon
    else (if b == vertical_line then bar else (if b == left_brace then opening else closing))

-- The words and signs of bytes whose first stands at an offset. A word begins where no byte of a
-- word stands before it, and is the longest run from there.
abbrev pub pieces_from : ℕ → Bool → List ℕ → List (ℕ × Piece)
pieces_from at within [] = []
pieces_from at within (b ∷ bs) =
    if is_blank b then pieces_from (at + 1) false bs
    else (if is_sign b then (at, sign_piece b) ∷ pieces_from (at + 1) false bs
    else (if within then pieces_from (at + 1) true bs
    else (at, word_piece (take_while is_word_byte (b ∷ bs))) ∷ pieces_from (at + 1) true bs))

-- the words and signs of a text, each with its offset
abbrev pub pieces_at : List ℕ → List (ℕ × Piece)
pieces_at text = pieces_from 0 false text

-- the words and signs alone
abbrev pub without_offsets : List (ℕ × Piece) → List Piece
without_offsets ps = map (λ p. p.1) ps

-- the words and signs of a text
abbrev pub pieces : List ℕ → List Piece
pieces text = without_offsets (pieces_at text)

-- a word that is no keyword stands for a path
abbrev pub IsPathWord : Piece → Type 0
IsPathWord (name word) = path_of word ≡ Ok (normal_form word)
IsPathWord _ = Unit {0}

-- the paths of the program places: each word that no if stands before
abbrev pub programs_in : List Piece → List (List ℕ)
programs_in [] = []
programs_in (if_word ∷ name word ∷ ps) = programs_in ps
programs_in (name word ∷ ps) = normal_form word ∷ programs_in ps
programs_in (p ∷ ps) = programs_in ps

-- the paths of the ifs: each word after one
abbrev pub tests_in : List Piece → List (List ℕ)
tests_in [] = []
tests_in (if_word ∷ name word ∷ ps) = normal_form word ∷ tests_in ps
tests_in (p ∷ ps) = tests_in ps

-- how many ifs there are
abbrev pub ifs_in : List Piece → ℕ
ifs_in [] = 0
ifs_in (if_word ∷ ps) = ifs_in ps + 1
ifs_in (p ∷ ps) = ifs_in ps
