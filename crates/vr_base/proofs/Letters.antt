-- The union of the words of letters, from left to right.
use Rattle.std.proofs.Common.{◌≡◌, ℕ, Bool, true, false, cond, eqb, ◌+◌, ◌<◌, ◌≤◌, bit_or, List, [], ◌∷◌, length, drop, get_or, drop-cons, add-one, Option, None, Some, option_map, option_and_then, IfSome, ap, subst, refl}
use Rattle.std.specs.Int.Bits.{or_zero_r}
use Rattle.std.proofs.lemmas.List.{drop_all}
use Rattle.vr_base.specs.Rights.{letters_word, letter_word, known_rights, every_right}
use Rattle.vr_base.proofs.Masks.{or_assoc, and_or}

or_then : (a b : ℕ) (rest : Option ℕ) → option_map (bit_or (bit_or a b)) rest ≡ option_map (bit_or a) (option_map (bit_or b) rest)
or_then a b None = refl
or_then a b (Some c) = ap Some (or_assoc a b c)

-- one more letter
pub union_more : (text : List ℕ) (i word more : ℕ) → i < length text → letter_word (get_or text i 0) ≡ Some more
    → option_map (bit_or (bit_or word more)) (letters_word (drop (i + 1) text)) ≡ option_map (bit_or word) (letters_word (drop i text))
union_more text i word more h e =
    let next : drop i text ≡ get_or text i 0 ∷ drop (i + 1) text = rw (add-one, drop-cons text i 0) refl in
    rw (next, e) (or_then word more (letters_word (drop (i + 1) text)))

-- no letter is left
pub union_all : (text : List ℕ) (i word : ℕ) → length text ≤ i → option_map (bit_or word) (letters_word (drop i text)) ≡ letters_word text → Some word ≡ letters_word text
union_all text i word h e =
    let none : option_map (bit_or word) (letters_word []) ≡ letters_word text = rw (drop_all i text h) at e in
    rw (← or_zero_r word) none

known_by : (r w x : Bool) (word : ℕ) → cond r (Some 2367526) (cond w (Some 4727876) (cond x (Some 1073741824) None)) ≡ Some word → known_rights word ≡ word
known_by true w x word e = let same : 2367526 ≡ word = cc in subst (λ n. known_rights n ≡ n) same refl
known_by false true x word e = let same : 4727876 ≡ word = cc in subst (λ n. known_rights n ≡ n) same refl
known_by false false true word e = let same : 1073741824 ≡ word = cc in subst (λ n. known_rights n ≡ n) same refl
known_by false false false word e = cc

-- the word of a letter has no bit without a meaning
pub letter_known : (letter word : ℕ) → letter_word letter ≡ Some word → known_rights word ≡ word
letter_known letter word e = known_by (eqb letter 114) (eqb letter 119) (eqb letter 120) word e

abbrev AllKnown : ℕ → Type 0
AllKnown word = known_rights word ≡ word

of_some : (o : Option ℕ) → ((word : ℕ) → o ≡ Some word → AllKnown word) → IfSome o AllKnown
of_some None h = tt
of_some (Some word) h = h word refl

both_known : (first rest : Option ℕ) → IfSome first AllKnown → IfSome rest AllKnown → IfSome (option_and_then (λ word. option_map (bit_or word) rest) first) AllKnown
both_known None rest h k = tt
both_known (Some a) None h k = tt
both_known (Some a) (Some b) h k = and_or a b every_right h k

-- the union of the letters has no bit without a meaning
pub letters_known : (text : List ℕ) → IfSome (letters_word text) (λ word. known_rights word ≡ word)
letters_known [] = refl
letters_known (letter ∷ letters) = both_known (letter_word letter) (letters_word letters) (of_some (letter_word letter) (letter_known letter)) (letters_known letters)
