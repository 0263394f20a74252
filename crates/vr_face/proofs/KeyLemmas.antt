-- What a line adds to the keys.
use Rattle.std.proofs.Common.{◌≡◌, ℕ, ◌+◌, false, List, [], ◌∷◌, None, Some, Err, refl, ◌∙◌}
use Rattle.std.specs.BTreeMap.{BTreeMap, Updates, IsEmpty}
use Rattle.std.specs.Cmp.Lexicographic.{slice_cmp}
use Rattle.std.specs.Ordering.{nat_cmp}
use Rattle.std.proofs.lemmas.Map.Text.{is_eq-slice_cmp}
use Rattle.vr_base.specs.Cuts.{parts_at}
use Rattle.vr_base.specs.Signs.{space}
use Rattle.vr_face.specs.Holders.{Holds}
use Rattle.vr_face.specs.Keys.{Holding, holder_of, keyed_by, keys_from, line_added, listed_id}
use Rattle.vr_text.specs.Lines.{is_skipped, words_of}
use Rattle.vr_text.proofs.LineLemmas.{parts_first}

-- more than one word is no key
pub no_key_of_more : (word rest : List ℕ) → keyed_by (word ∷ parts_at space rest) ≡ None
no_key_of_more word rest = let first = parts_first space rest in rw first.2 refl

-- a map without entries is of no holding
pub holds_nothing : (holders : BTreeMap (List ℕ) ℕ) → IsEmpty holders → Holds holders []
holds_nothing holders e = λ key. rw e refl

-- a map that is changed at one key is of one holding more
pub holds_more : (old new : BTreeMap (List ℕ) ℕ) (before : List Holding) (key : List ℕ) (who : ℕ) → Holds old before
    → Updates (slice_cmp nat_cmp) old new key (Some who) → Holds new ((key, who) ∷ before)
holds_more old new before key who holds updates = λ other.
    updates.0 other
    ∙ rw (is_eq-slice_cmp key other, holds other) refl

-- a line that is added goes on to the lines after it
pub keys_step : (policy : List ℕ) (number : ℕ) (before held : List Holding) (line : List ℕ) (others : List (List ℕ))
    → line_added policy before line ≡ Some held
    → keys_from policy number before (line ∷ others) ≡ keys_from policy (number + 1) held others
keys_step policy number before held line others e = rw e refl

-- a line that is refused gives its number
pub keys_refused : (policy : List ℕ) (number : ℕ) (before : List Holding) (line : List ℕ) (others : List (List ℕ))
    → line_added policy before line ≡ None
    → keys_from policy number before (line ∷ others) ≡ Err number
keys_refused policy number before line others e = rw e refl

-- a line whose words are an identity and a key that none has before adds them
pub added_line : (policy : List ℕ) (before : List Holding) (line word : List ℕ) (words : List (List ℕ)) (key : List ℕ) (who : ℕ)
    → is_skipped line ≡ false → words_of line ≡ word ∷ words → listed_id policy word ≡ Some who → keyed_by words ≡ Some key
    → holder_of before key ≡ None
    → line_added policy before line ≡ Some ((key, who) ∷ before)
added_line policy before line word words key who skipped cut listed keyed free = rw (skipped, cut, listed, keyed, free) refl
