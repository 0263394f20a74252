-- A word of digits is parsed to the number that the digits stand for.
use Rattle.std.proofs.Common.{◌≡◌, ℕ, ◌<◌, ◌≤◌, ◌^◌, true, false, leb, List, length, None, Result, Ok, Err, refl, arith}
use Rattle.std.specs.Result.{OkIff, result_ok}
use Rattle.std.specs.Str.Parse.{digits_value, ParsesUnsigned}
use Rattle.std.proofs.lemmas.Bool.Decides.{nat_tests}
use Rattle.std.proofs.Math.Bool.{and-false}
use Rattle.std.proofs.lemmas.Str.Parse.{parse_digits}
use Rattle.vr_text.specs.Numerals.{is_numeral}
use Rattle.vr_text.proofs.Digits.{digits_model, digits_of_numeral, some_digit}
use Rattle.vr_words.specs.Numbers.{number_within}

too_large : (n : ℕ) → (n < 2 ^ 64 → ⊥) → 2 ^ 64 ≤ n
too_large n h = omega (arith, h)

module _ (word : List ℕ) (numeral : is_numeral word ≡ true) where
  -- the number is the value of the digits, or they stand for a number of more than 64 bits
  pub number_parsed : {E : Type 0} (r : Result ℕ E) → ParsesUnsigned 64 10 word r → OkIff r (digits_value 10 word < 2 ^ 64) (digits_value 10 word)
  number_parsed r h = by_answer r (parse_digits digits_model 64 word r h (digits_of_numeral word numeral))
    where
      by_answer : {E : Type 0} (r : Result ℕ E) → OkIff r ((0 < length word) × (digits_value 10 word < 2 ^ 64)) (digits_value 10 word) → OkIff r (digits_value 10 word < 2 ^ 64) (digits_value 10 word)
      by_answer (Ok n) k = (k.0.1, k.1)
      by_answer (Err e) k = λ small. k (some_digit word numeral, small)

  -- a number of more than 64 bits is above every bound
  pub number_beyond : {E : Type 0} (least most : ℕ) (r : Result ℕ E) → ParsesUnsigned 64 10 word r → most < 2 ^ 64 → result_ok r ≡ None → None ≡ number_within least most word
  number_beyond least most r h small none = by_answer r (number_parsed r h) none
    where
      by_answer : {E : Type 0} (r : Result ℕ E) → OkIff r (digits_value 10 word < 2 ^ 64) (digits_value 10 word) → result_ok r ≡ None → None ≡ number_within least most word
      by_answer (Ok n) k none = cc
      by_answer (Err e) k none =
          let beyond : most < digits_value 10 word = omega (arith, too_large (digits_value 10 word) k) in
          let above : leb (digits_value 10 word) most ≡ false = grind (arith, nat_tests) in
          rw (numeral, above, and-false) refl
