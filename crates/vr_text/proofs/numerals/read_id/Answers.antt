use Rattle.std.proofs.Common.{rules, ◌≡◌, true}
use Rattle.vr_text.specs.Numerals.{is_numeral}
use Rattle.vr_text.proofs.Digits.{digits_of_numeral, text_of_digits, id_parsed}
use Rattle.vr_text.proofs.numerals.read_id.Goals as goal

pub returns-in_default : goal.returns-in_default
returns-in_default c =
    let numeral : is_numeral c.args.word.now ≡ true = search rules in
    absurd (c.in_default.ensures.cases.0 (text_of_digits c.args.word.now (digits_of_numeral c.args.word.now numeral)))

pub returns : goal.returns
returns c =
    let numeral : is_numeral c.args.word.now ≡ true = search rules in
    rw c.ok.ensures.value (id_parsed c.args.word.now numeral c.parse.result (rw c.in-Ok.ensures.cases.0 at c.parse.ensures.value.0))
