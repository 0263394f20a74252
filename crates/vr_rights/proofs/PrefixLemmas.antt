-- Names that begin with one another, and names that enclose one another.
use Rattle.std.proofs.Common.{◌≡◌, ℕ, ◌<◌, ◌≤◌, min, Bool, true, false, nat_eq, List, [], ◌∷◌, length, take, take-take, length-take, take_all, arith, refl, sym, ◌∙◌, ap, ◌⊎◌, inl, inr}
use Rattle.std.specs.Cmp.Lexicographic.{slice_cmp, bytes_decides}
use Rattle.std.specs.List.{starts_with}
use Rattle.std.specs.Ordering.{nat_cmp, ordering_then, MatchOrdering}
use Rattle.std.specs.declared.cmp.Ordering.{Ordering}
use Rattle.std.specs.declared.cmp.Ordering.TheVariants.{Less, Equal, Greater}
use Rattle.std.proofs.lemmas.Bool.{and_parts, ltb-true, lt-ltb}
use Rattle.std.proofs.lemmas.Cmp.{ranked, tied_itself, nat_cmp_total}
use Rattle.vr_base.specs.Names.{names_directory}
use Rattle.vr_rights.specs.Regions.{encloses}

abbrev pub IsPrefix : List ℕ → List ℕ → Type 0
IsPrefix prefix name = prefix ≡ take (length prefix) name

pub prefix_of_test : (prefix name : List ℕ) → starts_with nat_eq name prefix ≡ true → IsPrefix prefix name
prefix_of_test prefix name t = (bytes_decides prefix (take (length prefix) name)).0 t

pub test_of_prefix : (prefix name : List ℕ) → IsPrefix prefix name → starts_with nat_eq name prefix ≡ true
test_of_prefix prefix name h = (bytes_decides prefix (take (length prefix) name)).1 h

pub prefix_length : (prefix name : List ℕ) → IsPrefix prefix name → length prefix ≤ length name
prefix_length prefix name h =
    let e : length prefix ≡ min (length prefix) (length name) = ap length h ∙ length-take (length prefix) name in
    omega arith

-- of two prefixes of a name the shorter is one of the longer
pub shorter_prefix : (a b name : List ℕ) → IsPrefix a name → IsPrefix b name → length a ≤ length b → IsPrefix a b
shorter_prefix a b name h k l = h ∙ sym (ap (take (length a)) k ∙ take-take (length a) (length b) name l)

pub prefix_trans : (a b name : List ℕ) → IsPrefix a b → IsPrefix b name → IsPrefix a name
prefix_trans a b name h k = h ∙ ap (take (length a)) k ∙ take-take (length a) (length b) name (prefix_length a b h)

pub whole_prefix : (prefix name : List ℕ) → IsPrefix prefix name → length name ≤ length prefix → prefix ≡ name
whole_prefix prefix name h l = h ∙ take_all (length prefix) name l

-- what encloses a name: a directory, which the name begins with, and which is shorter
pub record Encloses (directory name : List ℕ) : Type 0 where
  pub is_directory : names_directory directory ≡ true
  pub prefix : IsPrefix directory name
  pub shorter : length directory < length name

pub encloses_of_test : (directory name : List ℕ) → encloses directory name ≡ true → Encloses directory name
encloses_of_test directory name t =
    let both = and_parts (names_directory directory) _ t in
    let rest = and_parts (starts_with nat_eq name directory) _ both.1 in
    record {
      is_directory = both.0;
      prefix = prefix_of_test directory name rest.0;
      shorter = ltb-true _ _ rest.1;
    }

pub test_of_encloses : (directory name : List ℕ) → Encloses directory name → encloses directory name ≡ true
test_of_encloses directory name h = rw (h.is_directory, test_of_prefix directory name h.prefix, lt-ltb _ _ h.shorter) refl

-- a directory that a name begins with is the name, or encloses it
pub apart_of_test : (directory name : List ℕ) → (Encloses directory name → ⊥) → encloses directory name ≡ false
apart_of_test directory name h = by_test (encloses directory name) refl
  where
    by_test : (t : Bool) → encloses directory name ≡ t → encloses directory name ≡ false
    by_test true e = absurd (h (encloses_of_test directory name e))
    by_test false e = e

-- ---- order

-- what comes before in the order of bytes has a lesser first byte, or the same one and comes before from there on
less_of_heads : (x y : ℕ) (o : Ordering) → ordering_then (nat_cmp x y) o ≡ Less → (x < y) ⊎ ((x ≡ y) × (o ≡ Less))
less_of_heads x y o e = by_order (nat_cmp x y) (ranked x y (nat_cmp x y) refl) e
  where
    by_order : (r : Ordering) → MatchOrdering r (x < y) (x ≡ y) (y < x) → ordering_then r o ≡ Less → (x < y) ⊎ ((x ≡ y) × (o ≡ Less))
    by_order Less m e = inl m
    by_order Equal m e = inr (m, e)
    by_order Greater m e = cc

-- a prefix that is shorter comes before
pub prefix_before : (prefix name : List ℕ) → IsPrefix prefix name → length prefix < length name → slice_cmp nat_cmp prefix name ≡ Less
prefix_before [] [] h l = absurd (omega arith)
prefix_before [] (y ∷ ys) h l = refl
prefix_before (x ∷ xs) [] h l = absurd (omega arith)
prefix_before (x ∷ xs) (y ∷ ys) h l =
    let head : x ≡ y = cc in
    let tail : IsPrefix xs ys = cc in
    let short : length xs < length ys = omega arith in
    rw (← head, tied_itself nat_cmp_total x) (prefix_before xs ys tail short)

-- what comes between a prefix and the name begins with the prefix too
pub between_prefix : (prefix middle name : List ℕ) → IsPrefix prefix name → slice_cmp nat_cmp prefix middle ≡ Less → slice_cmp nat_cmp middle name ≡ Less → IsPrefix prefix middle
between_prefix [] middle name h l k = refl
between_prefix (x ∷ xs) [] name h l k = cc
between_prefix (x ∷ xs) (m ∷ ms) [] h l k = cc
between_prefix (x ∷ xs) (m ∷ ms) (y ∷ ys) h l k =
    let head : x ≡ y = cc in
    let tail : IsPrefix xs ys = cc in
    let rest = λ (a : slice_cmp nat_cmp xs ms ≡ Less) (b : slice_cmp nat_cmp ms ys ≡ Less). between_prefix xs ms ys tail a b in
    both head rest (less_of_heads x m (slice_cmp nat_cmp xs ms) l) (less_of_heads m y (slice_cmp nat_cmp ms ys) k)
  where
    both : x ≡ y → (slice_cmp nat_cmp xs ms ≡ Less → slice_cmp nat_cmp ms ys ≡ Less → IsPrefix xs ms)
        → (x < m) ⊎ ((x ≡ m) × (slice_cmp nat_cmp xs ms ≡ Less)) → (m < y) ⊎ ((m ≡ y) × (slice_cmp nat_cmp ms ys ≡ Less)) → IsPrefix (x ∷ xs) (m ∷ ms)
    both head rest (inl a) (inl b) = absurd (omega arith)
    both head rest (inl a) (inr b) = let same : m ≡ y = b.0 in absurd (omega arith)
    both head rest (inr a) (inl b) = let same : x ≡ m = a.0 in absurd (omega arith)
    both head rest (inr a) (inr b) = let tail : xs ≡ take (length xs) ms = rest a.1 b.1 in let same : x ≡ m = a.0 in cc
