-- A word that others mask has no bits that they lack.
use Rattle.std.proofs.Common.{◌≡◌, ℕ, Bool, true, false, if◌then◌else◌, List, [], Option, None, Some, IsTrue, bit_and, refl, ap, subst, sym, ◌∙◌, arith}
use Rattle.std.proofs.lemmas.Nat.{and_assoc}
use Rattle.std.proofs.lemmas.Nat.Bits.{bit_at_and}
use Rattle.vr_base.specs.Rights.{has_bit, known_rights, every_right, path_open, word_on}
use Rattle.vr_wasi_calls.specs.Calls.{with_opened}
use Rattle.vr_wasi_calls.specs.Descriptors.{file_rights}
use Rattle.vr_wasi_calls.specs.Worlds.{World, IsAllowed, with_body, word_at}

-- the rights of a file's descriptor all have a meaning
pub masked_known : (asked word : ℕ)
    → known_rights (bit_and asked (bit_and word file_rights)) ≡ bit_and asked
    (bit_and word file_rights)
masked_known asked word =
    and_assoc every_right asked (bit_and word file_rights)
    ∙ ap (bit_and asked) (and_assoc every_right word file_rights)

-- a bit of both is one of each
pub bit_of_second : (a b bit : ℕ) → IsTrue (has_bit (bit_and a b) bit) → IsTrue (has_bit b bit)
bit_of_second a b bit h = grind (arith, bit_at_and)

pub bit_of_first : (a b bit : ℕ) → IsTrue (has_bit (bit_and a b) bit) → IsTrue (has_bit a bit)
bit_of_first a b bit h = grind (arith, bit_at_and)

-- what is opened is allowed by the word
pub opened_is_allowed : (word asked : ℕ) → IsTrue (has_bit word path_open)
    → IsAllowed word (bit_and asked (bit_and word file_rights))
opened_is_allowed word asked may = record {
  opened = may;
  bounded = λ bit h. bit_of_first word file_rights bit (bit_of_second asked
      (bit_and word file_rights) bit h);
}

-- making or cutting a file leaves the grants
pub opened_grants : (w : World) (path : List ℕ) (flags : ℕ) (body : Option (List ℕ))
    → (with_opened w path flags body).grants ≡ w.grants
opened_grants w path flags None = refl
opened_grants w path flags (Some body) = one_of (has_bit flags 3) (with_body w path []) w refl
  where
    one_of : (b : Bool) (x y : World) → x.grants ≡ y.grants → (if b then x else y).grants ≡ y.grants
    one_of true x y h = h
    one_of false x y h = refl

-- an opened file's descriptor is allowed where it is put
pub opened_fits : (w v : World) (path : List ℕ) (flags asked word base : ℕ) (body : Option (List ℕ))
    → v ≡ with_opened w path flags body → word ≡ word_at w path
    → base ≡ bit_and asked (bit_and word file_rights) → IsTrue (has_bit word path_open)
    → IsAllowed (word_on path v.grants) base
opened_fits w v path flags asked word base body is here masked may =
    let grants : w.grants ≡ v.grants = sym (ap (λ u. u.grants) is
    ∙ opened_grants w path flags body) in
    let Allowed : ℕ → Type 0 = λ word. IsAllowed word base in
    let Based : ℕ → Type 0 = λ base. IsAllowed word base in
    subst Allowed (here ∙ ap (word_on path) grants) (subst Based (sym masked)
    (opened_is_allowed word asked may))
