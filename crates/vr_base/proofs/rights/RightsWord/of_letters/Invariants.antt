-- The union so far, with that of the letters left, is that of all; it has no bit without a meaning.
use Rattle.std.proofs.Common.{◌≡◌, drop, option_map, bit_or}
use Rattle.vr_base.specs.Rights.{letters_word, known_rights}
use Rattle.vr_base.proofs.rights.RightsWord.of_letters.Given as goal

abbrev pub invariant-loop-letter : goal.invariant-loop-letter
invariant-loop-letter l = record {
  union : option_map (bit_or l.word) (letters_word (drop l.letter-index l.text)) ≡ letters_word l.text;
  known : known_rights l.word ≡ l.word;
}
