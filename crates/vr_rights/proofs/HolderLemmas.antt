-- Words at places: one that is found, one that isn't there, and the grants that they stand for.
use Rattle.std.proofs.Common.{◌≡◌, ◌≢◌, ℕ, ◌<◌, ◌≤◌, List, [], ◌∷◌, length, map, Option, None, Some, arith, refl, sym, ◌∙◌, ap, ◌⊎◌, inl, inr, All, Contains, get_or, subst}
use Rattle.std.specs.List.Sorted.{IsPartitionPoint}
use Rattle.std.specs.Ordering.{nat_cmp, MatchOrdering}
use Rattle.std.specs.declared.cmp.Ordering.{Ordering}
use Rattle.std.specs.declared.cmp.Ordering.TheVariants.{Less, Equal, Greater}
use Rattle.std.proofs.lemmas.Bool.{cases_lt}
use Rattle.std.proofs.lemmas.Cmp.{ranked, tied_itself, nat_cmp_total}
use Rattle.std.proofs.lemmas.List.{get_or_default}
use Rattle.std.proofs.lemmas.List.Elements.{All-map, Contains-get_or}
use Rattle.vr_rights.specs.Holders.{grant_at, grants_at, AreWordsOf}
use Rattle.vr_rights.specs.Ordered.{IsOrdered}
use Rattle.vr_rights.specs.Regions.{IsOuter}
use Rattle.vr_rights.specs.Words.{word_in}
use Rattle.vr_rights.proofs.ChainLemmas.{same_place}
use Rattle.vr_rights.proofs.LongestLemmas.{never_in_nothing, Contains-head, Contains-tail, Contains-cons_cases}
use Rattle.vr_rights.proofs.WordLemmas.{word_here, word_outer, word_outermost}

equal_numbers : (x y : ℕ) → nat_cmp x y ≡ Equal → x ≡ y
equal_numbers x y e = by_order (nat_cmp x y) (ranked x y (nat_cmp x y) refl) e
  where
    by_order : (r : Ordering) → MatchOrdering r (x < y) (x ≡ y) (y < x) → r ≡ Equal → x ≡ y
    by_order Less m e = cc
    by_order Equal m e = m
    by_order Greater m e = cc

pub found_word : (words : List (ℕ × ℕ)) (place index : ℕ) (item : ℕ × ℕ) → index < length words → item ≡ get_or words index item → nat_cmp item.0 place ≡ Equal → Contains words (place, item.1)
found_word words place index item within is equal =
    let same : item ≡ (place, item.1) = ap (λ p. (p, item.1)) (equal_numbers item.0 place equal) in
    (index, within, get_or_default words index (place, item.1) item within ∙ sym is ∙ same)

pub missing_word : (words : List (ℕ × ℕ)) (place index : ℕ) → IsPartitionPoint (λ word. nat_cmp word.0 place ≡ Less) (λ word. nat_cmp word.0 place ≡ Greater) words index → All (λ word. word.0 ≢ place) words
missing_word words place index h = λ k d l e. by_cases k d l (equal e) (cases_lt k index)
  where
    equal : {n : ℕ} → n ≡ place → nat_cmp n place ≡ Equal
    equal {n} e = subst (λ m. nat_cmp m place ≡ Equal) (sym e) (tied_itself nat_cmp_total place)

    by_cases : (k : ℕ) (d : ℕ × ℕ) → k < length words → nat_cmp (get_or words k d).0 place ≡ Equal → (k < index) ⊎ (index ≤ k) → ⊥
    by_cases k d l e (inl below) = let less : nat_cmp (get_or words k d).0 place ≡ Less = h.0 k d (omega arith) below in cc e
    by_cases k d l e (inr above) = let greater : nat_cmp (get_or words k d).0 place ≡ Greater = h.1 k d above l in cc e

-- ---- the grants that words at places stand for

-- the word in the name at a place, and 0 where there is none
abbrev pub word_from : List (List ℕ) → List (List ℕ × ℕ) → Option ℕ → ℕ
word_from names grants None = 0
word_from names grants (Some place) = word_in (get_or names place []) grants

Contains-map : {X Y : Type 0} (f : X → Y) (xs : List X) (x : X) → Contains xs x → Contains (map f xs) (f x)
Contains-map f [] x h = absurd (never_in_nothing x h)
Contains-map f (y ∷ ys) x h = by_cases (Contains-cons_cases y ys x h) (λ there. Contains-map f ys x there)
  where
    by_cases : (y ≡ x) ⊎ Contains ys x → (Contains ys x → Contains (map f ys) (f x)) → Contains (f y ∷ map f ys) (f x)
    by_cases (inl same) rest = subst (λ z. Contains (f z ∷ map f ys) (f x)) (sym same) (Contains-head (f x) (map f ys))
    by_cases (inr there) rest = Contains-tail (f y) (map f ys) (f x) (rest there)

-- each grant is on one of the names
pub known_names : (names : List (List ℕ)) (words : List (ℕ × ℕ)) → All (λ word. word.0 < length names) words → All (λ grant. Contains names grant.0) (grants_at names words)
known_names names words h = All-map (λ grant. Contains names grant.0) (grant_at names) words (λ k d l. Contains-get_or names (get_or words k d).0 [] (h k d l))

-- where no word is at the place, no grant is on its name
pub no_grant : (names : List (List ℕ)) (words : List (ℕ × ℕ)) (place : ℕ) → IsOrdered names → place < length names → All (λ word. word.0 < length names) words → All (λ word. word.0 ≢ place) words
    → All (λ grant. grant.0 ≢ get_or names place []) (grants_at names words)
no_grant names words place ordered there known apart = All-map (λ grant. grant.0 ≢ get_or names place []) (grant_at names) words (λ k d l e. apart k d l (same_place names (get_or words k d).0 place ordered (known k d l) there e))

-- the word at the place is the word in its region
pub word_at_place : (names : List (List ℕ)) (words : List (ℕ × ℕ)) (place word : ℕ) → AreWordsOf names words → Contains words (place, word) → word_in (get_or names place []) (grants_at names words) ≡ word
word_at_place names words place word h there = word_here (get_or names place []) (grants_at names words) word h.one_of_each (Contains-map (grant_at names) words (place, word) there)

-- and else it is the word in the longest name that encloses the region
pub word_up : (names : List (List ℕ)) (words : List (ℕ × ℕ)) (place : ℕ) (outer : Option ℕ) → IsOrdered names → place < length names → AreWordsOf names words → All (λ word. word.0 ≢ place) words
    → IsOuter names (get_or names place []) outer → word_in (get_or names place []) (grants_at names words) ≡ word_from names (grants_at names words) outer
word_up names words place None ordered there h apart o =
    word_outermost names (get_or names place []) (grants_at names words) (known_names names words h.known) (no_grant names words place ordered there h.known apart) o
word_up names words place (Some up) ordered there h apart o =
    word_outer names (get_or names place []) up (grants_at names words) (known_names names words h.known) (no_grant names words place ordered there h.known apart) o
