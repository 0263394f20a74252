-- The tokens of the program as words and signs.
use Rattle.std.specs.Prelude.{◌≡◌, ℕ, false, List, ◌∷◌}
use Rattle.vr_pipe.specs.Pieces.{Piece, pieces_from, name, if_word, else_word, bar, semicolon, opening, closing}
use Rattle.vr_pipe.specs.declared.tokens.Placed.{Placed}
use Rattle.vr_pipe.specs.declared.tokens.Token.{Token}
use Rattle.vr_pipe.specs.declared.tokens.Token.TheVariants.{Name, If, Else, Bar, Semicolon, Open, Close}

-- the word or sign that a token is
abbrev pub piece_of : Token → Piece
piece_of (Name word) = name word.now
piece_of If = if_word
piece_of Else = else_word
piece_of Bar = bar
piece_of Semicolon = semicolon
piece_of Open = opening
piece_of Close = closing

-- Bytes at an offset begin with a word or sign, and this is where it
-- stands and what comes after it.
abbrev pub BeginsWith : ℕ → List ℕ → Placed → Type 0
BeginsWith at bytes placed =
    pieces_from at false bytes
    ≡ (placed.at, piece_of placed.token) ∷ pieces_from placed.end false placed.rest.now
