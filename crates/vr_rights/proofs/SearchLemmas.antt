-- What a binary search finds among names in order.
use Rattle.std.proofs.Common.{◌≡◌, ℕ, ◌+◌, ◌<◌, ◌≤◌, List, [], length, Result, Ok, Err, MatchResult, arith, ◌∙◌, ap, ◌⊎◌, inl, inr, Contains, get_or}
use Rattle.std.specs.Cmp.Lexicographic.{slice_cmp, nat_list_cmp_total, bytes_decides, texts_ties}
use Rattle.std.specs.List.Sorted.{IsBinarySearchResult, IsSearchInRange, IsSorted}
use Rattle.std.specs.Ordering.{nat_cmp, is_eq, is_lt, ordering_reverse}
use Rattle.std.specs.declared.cmp.Ordering.TheVariants.{Less, Equal, Greater}
use Rattle.std.proofs.lemmas.Bool.{cases_lt}
use Rattle.std.proofs.lemmas.Cmp.{tied_itself}
use Rattle.std.proofs.lemmas.List.Sorted.{searchable_from_sorted}
use Rattle.std.proofs.lemmas.Map.Keys.{Less-from_sorted}
use Rattle.vr_rights.specs.Ordered.{IsOrdered, IsAt, IsAfter}

pub same_of_equal : (a b : List ℕ) → slice_cmp nat_cmp a b ≡ Equal → a ≡ b
same_of_equal a b e = (bytes_decides a b).0 (texts_ties a b ∙ ap is_eq e)

-- names in order are sorted
pub sorted_names : (names : List (List ℕ)) → IsOrdered names → IsSorted (slice_cmp nat_cmp) names
sorted_names names ordered = λ k d low high.
    (let less : slice_cmp nat_cmp (get_or names k d) (get_or names (k + 1) d) ≡ Less = Less-from_sorted (slice_cmp nat_cmp) names k (k + 1) d ordered (omega arith) high in
    let greater : slice_cmp nat_cmp (get_or names (k + 1) d) (get_or names k d) ≡ Greater = nat_list_cmp_total.antisymm (get_or names (k + 1) d) (get_or names k d) ∙ ap ordering_reverse less in
    ap is_lt greater)

pub searched_names : (names : List (List ℕ)) (name : List ℕ) (r : Result ℕ ℕ) → IsOrdered names → IsSearchInRange r (length names)
    → IsBinarySearchResult (λ listed. slice_cmp nat_cmp listed name) names r → MatchResult r (IsAt names name) (IsAfter names name)
searched_names names name (Ok place) ordered within h = record { within = within; here = same_of_equal (get_or names place []) name (h []) }
searched_names names name (Err place) ordered within h =
    let parts = h (searchable_from_sorted nat_list_cmp_total (λ (n : List ℕ). n) names name (sorted_names names ordered)) in
    record { within = within; less = parts.0; greater = parts.1 }

-- a name that was not found is not there
pub not_after : (names : List (List ℕ)) (name : List ℕ) (place : ℕ) → IsAfter names name place → Contains names name → ⊥
not_after names name place h (k, l, e) = by_cases (cases_lt k place)
  where
    same : slice_cmp nat_cmp (get_or names k name) name ≡ Equal
    same = ap (λ n. slice_cmp nat_cmp n name) e ∙ tied_itself nat_list_cmp_total name

    by_cases : (k < place) ⊎ (place ≤ k) → ⊥
    by_cases (inl below) = let less : slice_cmp nat_cmp (get_or names k name) name ≡ Less = h.less k name (omega arith) below in cc same
    by_cases (inr above) = let greater : slice_cmp nat_cmp (get_or names k name) name ≡ Greater = h.greater k name above l in cc same
