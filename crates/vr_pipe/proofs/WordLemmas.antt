-- The path that a word stands for is the normal form of the word: a word again, of bytes that no blank and no sign has.
use Rattle.std.proofs.Common.{◌≡◌, ℕ, Bool, true, false, not, cond, eqb, nat_eq, get_or, List, [], ◌∷◌, drop, Ok, All, codes, position, ap, sym, ◌∙◌, refl}
use Rattle.std.specs.List.{starts_with}
use Rattle.std.proofs.lemmas.Bool.{eqb-true}
use Rattle.vr_base.specs.Names.{normal_form, from_root, path_of, byte_fault, length_fault, first_segment_fault, segments, is_name_byte}
use Rattle.vr_base.specs.declared.names.PathFault.TheVariants.{BadByte}
use Rattle.vr_base.proofs.FaultLemmas.{answered, neither, none_mapped}
use Rattle.vr_base.proofs.Normal.{without_fault, normal_form-normal_form}
use Rattle.vr_base.proofs.Places.{none_passes}
use Rattle.vr_pipe.specs.Pieces.{is_word_byte}

pub path_is_normal_form : (word path : List ℕ) → path_of word ≡ Ok path → path ≡ normal_form word
path_is_normal_form word path h = sym (answered _ (normal_form word) path h).1

-- a path stands for itself
pub path_again : (word : List ℕ) → path_of word ≡ Ok (normal_form word) → path_of (normal_form word) ≡ Ok (normal_form (normal_form word))
path_again word h = without_fault segments word (answered _ (normal_form word) (normal_form word) h).0 ∙ ap Ok (sym (normal_form-normal_form word))

-- each byte of a path is a name's
name_bytes : (path : List ℕ) → path_of path ≡ Ok path → All (λ b. not (is_name_byte b) ≡ false) path
name_bytes path h =
    let outer = neither (length_fault (normal_form path)) _ (answered _ (normal_form path) path h).0 in
    let inner = neither (byte_fault path) (first_segment_fault (segments (normal_form path))) outer.1 in
    none_passes (λ b. not (is_name_byte b)) path (none_mapped BadByte (position (λ b. not (is_name_byte b)) path) inner.0)

other_byte : (n b : ℕ) (t : Bool) → eqb b n ≡ t → is_name_byte n ≡ false → not (is_name_byte b) ≡ false → eqb b n ≡ false
other_byte n b false e isnt h = e
other_byte n b true e isnt h = let same : b ≡ n = eqb-true b n e in let wrong : not (is_name_byte b) ≡ true = ap (λ x. not (is_name_byte x)) same ∙ ap not isnt in cc

-- a name's byte is a word's
word_byte : (b : ℕ) → not (is_name_byte b) ≡ false → is_word_byte b ≡ true
word_byte b h =
    let apart = λ (n : ℕ) (isnt : is_name_byte n ≡ false). other_byte n b (eqb b n) refl isnt h in
    rw (apart 32 refl, apart 9 refl, apart 10 refl, apart 13 refl, apart 59 refl, apart 124 refl, apart 123 refl, apart 125 refl) refl

-- each byte of a path is a word's
pub path_bytes : (word : List ℕ) → path_of word ≡ Ok (normal_form word) → All (λ b. is_word_byte b ≡ true) (normal_form word)
path_bytes word h = λ i d k. word_byte (get_or (normal_form word) i d) (name_bytes (normal_form word) (path_again word h ∙ ap Ok (normal_form-normal_form word)) i d k)

-- a normal form begins with /
pub record Rooted (path : List ℕ) : Type 0 where
  pub rest : List ℕ
  pub begins : path ≡ 47 ∷ rest

rooted_begins : (name : List ℕ) → Rooted (from_root name)
rooted_begins [] = record { rest = []; begins = refl }
rooted_begins (b ∷ bs) = by_test (eqb 47 b) refl
  where
    by_test : (t : Bool) → eqb 47 b ≡ t → Rooted (from_root (b ∷ bs))
    by_test true e = record { rest = bs; begins = rw e (ap (λ x. x ∷ bs) (sym (eqb-true 47 b e))) }
    by_test false e = record { rest = b ∷ bs; begins = rw e refl }

pub normal_form_begins : (word : List ℕ) → Rooted (normal_form word)
normal_form_begins word = rooted_begins (cond (starts_with nat_eq word (codes "./")) (drop 2 word) word)
