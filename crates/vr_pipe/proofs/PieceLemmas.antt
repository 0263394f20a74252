-- The words and signs of a text from a place on, by the first of them.
use Rattle.std.proofs.Common.{◌≡◌, ℕ, ◌+◌, Bool, true, false, not, cond, suc, List, [], ◌∷◌, ◌<◌, ◌-◌, length, get_or, take, drop, take_while, ap, sym, ◌∙◌, refl, arith, ◌||◌}
use Rattle.std.specs.List.{prefix_len}
use Rattle.std.proofs.lemmas.List.{take_rest}
use Rattle.vr_pipe.specs.Pieces.{Piece, is_blank, is_sign, is_word_byte, word_piece, sign_piece, pieces_from}

-- the pieces after the first bytes that pass
abbrev pub pieces_past : (ℕ → Bool) → ℕ → List ℕ → List (ℕ × Piece)
pieces_past p at bytes = pieces_from (at + prefix_len p bytes) false (drop (prefix_len p bytes) bytes)

-- the pieces after so many bytes
abbrev from_there : ℕ → List ℕ → ℕ → List (ℕ × Piece)
from_there at bytes n = pieces_from (at + n) false (drop n bytes)

from_none : (at : ℕ) (bytes : List ℕ) → pieces_from at false bytes ≡ from_there at bytes 0
from_none at bytes = let e : at ≡ at + 0 = omega arith in ap (λ n. pieces_from n false bytes) e

from_one : (at : ℕ) (b : ℕ) (bs : List ℕ) (n : ℕ) → from_there (at + 1) bs n ≡ from_there at (b ∷ bs) (1 + n)
from_one at b bs n =
    let e : (at + 1) + n ≡ at + (1 + n) = omega arith in
    let k : suc n ≡ 1 + n = omega arith in
    ap (λ m. pieces_from m false (drop n bs)) e ∙ ap (λ m. pieces_from (at + (1 + n)) false (drop m (b ∷ bs))) k

length_is : (p : ℕ → Bool) (b : ℕ) (bs : List ℕ) (t : Bool) → p b ≡ t → cond t (1 + prefix_len p bs) 0 ≡ prefix_len p (b ∷ bs)
length_is p b bs t e = ap (λ u. cond u (1 + prefix_len p bs) 0) (sym e)

pub past_blank : (at : ℕ) (within : Bool) (b : ℕ) (bs : List ℕ) → is_blank b ≡ true → pieces_from at within (b ∷ bs) ≡ pieces_from (at + 1) false bs
past_blank at within b bs e = rw e refl

pub past_sign : (at : ℕ) (within : Bool) (b : ℕ) (bs : List ℕ) → is_blank b ≡ false → is_sign b ≡ true → pieces_from at within (b ∷ bs) ≡ (at, sign_piece b) ∷ pieces_from (at + 1) false bs
past_sign at within b bs e k = rw (e, k) refl

past_inside : (at : ℕ) (b : ℕ) (bs : List ℕ) → is_blank b ≡ false → is_sign b ≡ false → pieces_from at true (b ∷ bs) ≡ pieces_from (at + 1) true bs
past_inside at b bs e k = rw (e, k) refl

past_first : (at : ℕ) (b : ℕ) (bs : List ℕ) → is_blank b ≡ false → is_sign b ≡ false
    → pieces_from at false (b ∷ bs) ≡ (at, word_piece (take_while is_word_byte (b ∷ bs))) ∷ pieces_from (at + 1) true bs
past_first at b bs e k = rw (e, k) refl

blank_step : (at : ℕ) (b : ℕ) (bs : List ℕ) (t : Bool) → is_blank b ≡ t → pieces_from (at + 1) false bs ≡ pieces_past is_blank (at + 1) bs → pieces_from at false (b ∷ bs) ≡ pieces_past is_blank at (b ∷ bs)
blank_step at b bs true e go =
    past_blank at false b bs e ∙ go ∙ from_one at b bs (prefix_len is_blank bs) ∙ ap (from_there at (b ∷ bs)) (length_is is_blank b bs true e)
blank_step at b bs false e go = from_none at (b ∷ bs) ∙ ap (from_there at (b ∷ bs)) (length_is is_blank b bs false e)

-- leading blanks are skipped
pub lex_blanks : (at : ℕ) (bytes : List ℕ) → pieces_from at false bytes ≡ pieces_past is_blank at bytes
lex_blanks at [] = refl
lex_blanks at (b ∷ bs) = blank_step at b bs (is_blank b) refl (lex_blanks (at + 1) bs)

word_step : (at : ℕ) (b : ℕ) (bs : List ℕ) (t u : Bool) → is_blank b ≡ t → is_sign b ≡ u → pieces_from (at + 1) true bs ≡ pieces_past is_word_byte (at + 1) bs
    → pieces_from at true (b ∷ bs) ≡ pieces_past is_word_byte at (b ∷ bs)
word_step at b bs true u e k go =
    let no : is_word_byte b ≡ false = ap (λ t. not (t || is_sign b)) e in
    past_blank at true b bs e ∙ sym (past_blank at false b bs e) ∙ from_none at (b ∷ bs) ∙ ap (from_there at (b ∷ bs)) (length_is is_word_byte b bs false no)
word_step at b bs false true e k go =
    let no : is_word_byte b ≡ false = rw (e, k) refl in
    past_sign at true b bs e k ∙ sym (past_sign at false b bs e k) ∙ from_none at (b ∷ bs) ∙ ap (from_there at (b ∷ bs)) (length_is is_word_byte b bs false no)
word_step at b bs false false e k go =
    let yes_ : is_word_byte b ≡ true = rw (e, k) refl in
    past_inside at b bs e k ∙ go ∙ from_one at b bs (prefix_len is_word_byte bs) ∙ ap (from_there at (b ∷ bs)) (length_is is_word_byte b bs true yes_)

-- the rest of a word is skipped
lex_word : (at : ℕ) (bytes : List ℕ) → pieces_from at true bytes ≡ pieces_past is_word_byte at bytes
lex_word at [] = refl
lex_word at (b ∷ bs) = word_step at b bs (is_blank b) (is_sign b) refl refl (lex_word (at + 1) bs)

-- a word, and what comes after it
pub past_word : (at : ℕ) (b : ℕ) (bs : List ℕ) → is_blank b ≡ false → is_sign b ≡ false
    → pieces_from at false (b ∷ bs) ≡ (at, word_piece (take_while is_word_byte (b ∷ bs))) ∷ pieces_past is_word_byte at (b ∷ bs)
past_word at b bs e k =
    let is_byte : is_word_byte b ≡ true = rw (e, k) refl in
    past_first at b bs e k ∙ ap (λ ps. (at, word_piece (take_while is_word_byte (b ∷ bs))) ∷ ps)
    (lex_word (at + 1) bs ∙ from_one at b bs (prefix_len is_word_byte bs) ∙ ap (from_there at (b ∷ bs)) (length_is is_word_byte b bs true is_byte))

pub past_word_of : (at : ℕ) (bytes : List ℕ) → 0 < length bytes → is_blank (get_or bytes 0 0) ≡ false → is_sign (get_or bytes 0 0) ≡ false
    → pieces_from at false bytes ≡ (at, word_piece (take_while is_word_byte bytes)) ∷ pieces_past is_word_byte at bytes
past_word_of at [] some e k = absurd (omega arith)
past_word_of at (b ∷ bs) some e k = past_word at b bs e k

pub past_sign_of : (at : ℕ) (bytes : List ℕ) → 0 < length bytes → is_blank (get_or bytes 0 0) ≡ false → is_sign (get_or bytes 0 0) ≡ true
    → pieces_from at false bytes ≡ (at, sign_piece (get_or bytes 0 0)) ∷ pieces_from (at + 1) false (drop 1 bytes)
past_sign_of at [] some e k = absurd (omega arith)
past_sign_of at (b ∷ bs) some e k = past_sign at false b bs e k

pub word_result : (at : ℕ) (bytes : List ℕ) (n : ℕ) (p : Piece) (word rest : List ℕ) → n ≡ prefix_len is_word_byte bytes → word ≡ take n bytes → rest ≡ drop n bytes
    → p ≡ word_piece word → pieces_from at false bytes ≡ (at, word_piece (take_while is_word_byte bytes)) ∷ pieces_past is_word_byte at bytes
    → pieces_from at false bytes ≡ (at, p) ∷ pieces_from (at + n) false rest
word_result at bytes n p word rest n_is word_is rest_is p_is h =
    let piece : word_piece (take_while is_word_byte bytes) ≡ p = ap (λ k. word_piece (take k bytes)) (sym n_is) ∙ ap word_piece (sym word_is) ∙ sym p_is in
    let others : pieces_past is_word_byte at bytes ≡ pieces_from (at + n) false rest =
    ap (λ k. pieces_from (at + k) false (drop k bytes)) (sym n_is) ∙ ap (λ r. pieces_from (at + n) false r) (sym rest_is) in
    h ∙ ap (λ w. (at, w) ∷ pieces_past is_word_byte at bytes) piece ∙ ap (λ ps. (at, p) ∷ ps) others

pub blank_result : (at : ℕ) (bytes : List ℕ) (n : ℕ) → n ≡ prefix_len is_blank bytes → pieces_from at false bytes ≡ pieces_from (at + n) false (take (length bytes - n) (drop n bytes))
blank_result at bytes n n_is =
    lex_blanks at bytes ∙ ap (λ k. pieces_from (at + k) false (drop k bytes)) (sym n_is) ∙ ap (λ r. pieces_from (at + n) false r) (sym (take_rest bytes n))

pub no_pieces : (at : ℕ) (bytes : List ℕ) → length bytes ≡ 0 → pieces_from at false bytes ≡ []
no_pieces at [] h = refl
no_pieces at (b ∷ bs) h = absurd (omega (arith, h))
