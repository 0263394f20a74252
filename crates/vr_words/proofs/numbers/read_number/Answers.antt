use Rattle.std.proofs.Common.{rules, ◌≡◌, true, ◌∙◌, sym, arith}
use Rattle.vr_text.specs.Numerals.{is_numeral}
use Rattle.vr_words.proofs.NumberLemmas.{number_beyond}
use Rattle.vr_words.proofs.numbers.read_number.Goals as goal

pub returns-in_err-number : goal.returns-in_err-number
returns-in_err-number c =
    let numeral : is_numeral c.args.word.now ≡ true = search rules in
    c.from_residual.ensures
    ∙ number_beyond c.args.word.now numeral c.args.least c.args.most c.parse.result c.parse.ensures.value.0 (omega (arith, c.ranges.most.fits))
    (sym c.ok.ensures.value ∙ c.in_err-number.was)
