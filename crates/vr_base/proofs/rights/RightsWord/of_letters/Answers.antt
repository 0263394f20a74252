use Rattle.std.proofs.Common.{rules, ◌≡◌, ◌∙◌, ap, Some, arith, get_or, length, ◌<◌}
use Rattle.vr_base.specs.Rights.{letter_word, every_right}
use Rattle.vr_base.proofs.Letters.{union_more, union_all, letter_known}
use Rattle.vr_base.proofs.Masks.{and_or}
use Rattle.vr_base.proofs.rights.RightsWord.of_letters.Goals as goal

pub loop-letter-preserved : goal.loop-letter-preserved
loop-letter-preserved c =
    let letter : letter_word (get_or c.args.text.now c.loop-letter.letter-index 0) ≡ Some c.in_ok-word.field-0 = search rules in
    let within : c.loop-letter.letter-index < length c.args.text.now = omega arith in
    record {
      union = union_more c.args.text.now c.loop-letter.letter-index c.loop-letter.word c.in_ok-word.field-0 within letter ∙ c.loop-letter.invariant.union;
      known = and_or c.loop-letter.word c.in_ok-word.field-0 every_right c.loop-letter.invariant.known (letter_known (get_or c.args.text.now c.loop-letter.letter-index 0) c.in_ok-word.field-0 letter);
    }

pub returns : goal.returns
returns c = ap Some (c.new.ensures ∙ c.loop-letter.invariant.known) ∙ union_all c.args.text.now c.loop-letter.letter-index c.loop-letter.word (omega arith) c.loop-letter.invariant.union
