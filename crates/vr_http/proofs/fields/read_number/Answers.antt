use Rattle.std.proofs.Common.{◌≡◌, ℕ, ◌+◌, ◌*◌, min, true, Bool, ◌&&◌, [], ◌∷◌, get_or, take, sym, ap, ◌∙◌, arith}
use Rattle.std.specs.Char.{is_ascii_digit, digit_value}
use Rattle.std.specs.List.{list_all}
use Rattle.std.specs.Str.Parse.{digits_value}
use Rattle.std.proofs.lemmas.List.{take_more}
use Rattle.std.proofs.lemmas.List.Folds.{list_all-append}
use Rattle.std.proofs.lemmas.Bool.Decides.{nat_tests}
use Rattle.std.proofs.lemmas.Int.Digits.{digits_value_more}
use Rattle.vr_http.proofs.fields.read_number.Goals as goal

-- a number past the limit stays past it
capped : (number value digit : ℕ) → number ≡ min value 16777217 → min (number * 10 + digit) 16777217 ≡ min (value * 10 + digit) 16777217
capped number value digit is = omega arith

pub loop-digit-preserved : goal.loop-digit-preserved
loop-digit-preserved c =
    let i = c.loop-digit.digit-index in
    let digits = c.args.digits.now in
    let digit : digit_value (get_or digits i 0) ≡ c.from.result = grind (arith, nat_tests) in
    let here : is_ascii_digit (get_or digits i 0) ≡ true = sym c.if-not-is_ascii_digit.ensures.value in
    let before = digits_value 10 (take i digits) in
    record {
      number =
          c.min-number.ensures
          ∙ ap (λ (k : ℕ). min (c.loop-digit.number * 10 + k) 16777217) (sym digit)
          ∙ capped c.loop-digit.number before (digit_value (get_or digits i 0)) c.loop-digit.invariant.number
          ∙ ap (λ (k : ℕ). min k 16777217) (sym (digits_value_more 10 digits i c.loop-digit-test.true));
      digits =
          ap (list_all is_ascii_digit) (take_more digits i 0 c.loop-digit-test.true)
          ∙ list_all-append is_ascii_digit (take i digits) (get_or digits i 0 ∷ [])
          ∙ ap (λ (t : Bool). t && (is_ascii_digit (get_or digits i 0) && true)) c.loop-digit.invariant.digits
          ∙ ap (λ (t : Bool). t && true) here;
    }
