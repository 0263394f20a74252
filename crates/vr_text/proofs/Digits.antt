-- A word of digits is text, and parsing it gives the number that the digits stand for.
use Rattle.std.proofs.Common.{◌≡◌, ℕ, ◌<◌, ◌≤◌, ◌^◌, true, not, eqb, lt-ltb, le-ltb, ◌&&◌, List, [], ◌∷◌, length, Some, Result, Ok, Err, refl, ap, rules, arith}
use Rattle.std.specs.Char.{is_ascii_digit}
use Rattle.std.specs.List.{list_all}
use Rattle.std.specs.Result.{OkIff, result_ok}
use Rattle.std.specs.Str.{IsAscii, IsUtf8}
use Rattle.std.specs.Str.Parse.{digits_value, ParsesUnsigned}
use Rattle.std.proofs.lemmas.Bool.{and_parts}
use Rattle.std.proofs.lemmas.Bool.Decides.{nat_tests}
use Rattle.std.proofs.lemmas.Str.{IsUtf8-from_ascii}
use Rattle.std.proofs.lemmas.Str.Ascii.{IsAscii-nil, IsAscii-cons}
use Rattle.std.proofs.lemmas.Str.Parse.{IsNumeralModel, numerals_by_value, parse_digits}
use Rattle.vr_text.specs.Numerals.{is_numeral, id_of}

pub digits_model : IsNumeralModel (λ ds. list_all is_ascii_digit ds ≡ true) (digits_value 10)
digits_model = numerals_by_value _ (search rules)

ascii_digit : (b : ℕ) → is_ascii_digit b ≡ true → b < 128
ascii_digit b h = grind (arith, nat_tests)

ascii_digits : (word : List ℕ) → list_all is_ascii_digit word ≡ true → IsAscii word
ascii_digits [] h = IsAscii-nil
ascii_digits (b ∷ bs) h =
    let parts = and_parts (is_ascii_digit b) (list_all is_ascii_digit bs) h in
    IsAscii-cons b bs (ascii_digit b parts.0) (ascii_digits bs parts.1)

pub text_of_digits : (word : List ℕ) → list_all is_ascii_digit word ≡ true → IsUtf8 word
text_of_digits word h = IsUtf8-from_ascii word (ascii_digits word h)

too_large : (n : ℕ) → (n < 2 ^ 32 → ⊥) → 2 ^ 32 ≤ n
too_large n h = omega (arith, h)

module _ (word : List ℕ) (numeral : is_numeral word ≡ true) where
  starts : (not (eqb (length word) 0) && list_all is_ascii_digit word) ≡ true
  starts = (and_parts _ _ numeral).0

  pub digits_of_numeral : list_all is_ascii_digit word ≡ true
  digits_of_numeral = (and_parts _ _ starts).1

  pub some_digit : 0 < length word
  some_digit = let some = (and_parts (not (eqb (length word) 0)) _ starts).0 in grind (arith, nat_tests, some)

  -- parsing a numeral gives the number that it names, or it names none
  pub id_parsed : {E : Type 0} (r : Result ℕ E) → ParsesUnsigned 32 10 word r → result_ok r ≡ id_of word
  id_parsed r h = by_answer r (parse_digits digits_model 32 word r h digits_of_numeral)
    where
      by_answer : {E : Type 0} (r : Result ℕ E) → OkIff r ((0 < length word) × (digits_value 10 word < 2 ^ 32)) (digits_value 10 word) → result_ok r ≡ id_of word
      by_answer (Ok n) k = rw (numeral, lt-ltb _ _ k.0.1) (ap Some k.1)
      by_answer (Err e) k = rw (numeral, le-ltb _ _ (too_large (digits_value 10 word) (λ small. k (some_digit, small)))) refl
