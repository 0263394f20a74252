-- From a name to the longest one that encloses it, and so on, one comes by each name that encloses it.
use Rattle.std.proofs.Common.{◌≡◌, ℕ, zero, suc, ◌+◌, ◌<◌, ◌≤◌, true, false, nat_eq, List, [], ◌∷◌, ◌++◌, length, take_all, Option, None, Some, arith, refl, sym, ◌∙◌, ap, ◌⊎◌, inl, inr, get_or, subst, IfSome}
use Rattle.std.proofs.lemmas.List.{get_or_default, get_or_push, get_or_append_left, length_push}
use Rattle.std.specs.Cmp.Lexicographic.{slice_cmp, nat_list_cmp_total}
use Rattle.std.specs.List.{starts_with, AllWithin}
use Rattle.std.specs.Ordering.{nat_cmp}
use Rattle.std.specs.declared.cmp.Ordering.TheVariants.{Less, Equal, Greater}
use Rattle.std.proofs.lemmas.Bool.{cases_lt}
use Rattle.std.proofs.Math.Nat.{eq-or-lt_of_le}
use Rattle.std.proofs.lemmas.Cmp.{tied_itself}
use Rattle.std.proofs.lemmas.Map.Keys.{Less-from_sorted}
use Rattle.vr_rights.specs.Regions.{encloses, IsNearest, IsOuter}
use Rattle.vr_rights.specs.Ordered.{IsOrdered, AreOuter, Includes, Reaches, IsAfter, before}
use Rattle.vr_rights.proofs.PrefixLemmas.{IsPrefix, prefix_of_test, test_of_prefix, prefix_length, shorter_prefix, whole_prefix, Encloses, encloses_of_test, test_of_encloses, apart_of_test, prefix_before, between_prefix}

never_before_itself : (name : List ℕ) → slice_cmp nat_cmp name name ≡ Less → ⊥
never_before_itself name e = let same : slice_cmp nat_cmp name name ≡ Equal = tied_itself nat_list_cmp_total name in cc

-- what comes before by its bytes has a lesser place
pub before_by_bytes : (names : List (List ℕ)) (i j : ℕ) → IsOrdered names → i < length names → j < length names → slice_cmp nat_cmp (get_or names i []) (get_or names j []) ≡ Less → i < j
before_by_bytes names i j ordered hi hj less = by_cases (cases_lt i j)
  where
    never : j < i → ⊥
    never g =
        let back : slice_cmp nat_cmp (get_or names j []) (get_or names i []) ≡ Less = Less-from_sorted (slice_cmp nat_cmp) names j i [] ordered g hi in
        never_before_itself (get_or names j []) (nat_list_cmp_total.trans (get_or names j []) (get_or names i []) (get_or names j []) back less)

    apart : i ≡ j → ⊥
    apart e = never_before_itself (get_or names j []) (subst (λ n. slice_cmp nat_cmp (get_or names n []) (get_or names j []) ≡ Less) e less)

    by_cases : (i < j) ⊎ (j ≤ i) → i < j
    by_cases (inl l) = l
    by_cases (inr g) = elim (eq-or-lt_of_le g) [ inl e ↦ absurd (apart (sym e)) | inr l ↦ absurd (never l) ]

-- a name that encloses another has a lesser place
pub enclosing_before : (names : List (List ℕ)) (i j : ℕ) → IsOrdered names → i < length names → j < length names → encloses (get_or names i []) (get_or names j []) ≡ true → i < j
enclosing_before names i j ordered hi hj t =
    let e = encloses_of_test (get_or names i []) (get_or names j []) t in
    before_by_bytes names i j ordered hi hj (prefix_before _ _ e.prefix e.shorter)

-- a directory that encloses a name encloses the name at the place too, where that doesn't enclose it
still_enclosing : (directory name between : List ℕ) → encloses directory name ≡ true → starts_with nat_eq between directory ≡ true → encloses between name ≡ false → Encloses directory between
still_enclosing directory name between t s f =
    let e = encloses_of_test directory name t in
    let prefix = prefix_of_test directory between s in
    by_length prefix (cases_lt (length directory) (length between))
  where
    by_length : IsPrefix directory between → (length directory < length between) ⊎ (length between ≤ length directory) → Encloses directory between
    by_length prefix (inl l) = record { is_directory = (encloses_of_test directory name t).is_directory; prefix = prefix; shorter = l }
    by_length prefix (inr g) = let same : directory ≡ between = whole_prefix directory between prefix g in cc

module _ (names : List (List ℕ)) (name : List ℕ) (place : ℕ) where
  -- the name at the place is the longest that encloses, where it encloses
  pub nearest_here : (first : ℕ) → first ≤ length names → Includes names first name place → encloses (get_or names place []) name ≡ true → IsNearest names name place
  nearest_here first few h t =
      let within : place < first = h.within in
      record {
        within = omega arith;
        enclosing = t;
        longest = λ k d l e. prefix_length (get_or names k d) (get_or names place []) (prefix_of_test _ _ (h.through k d l e));
      }

  -- else one goes on to the longest name that encloses the one at the place
  pub reaches_outer : (first : ℕ) (outer : Option ℕ) → first ≤ length names → IsOrdered names → Includes names first name place → encloses (get_or names place []) name ≡ false
      → IsOuter names (get_or names place []) outer → Reaches names first name outer
  reaches_outer first None few ordered h f o = λ k d l. apart_of_test (get_or names k d) name (λ e.
      let inner = still_enclosing (get_or names k d) name (get_or names place []) (test_of_encloses _ _ e) (h.through k d l (test_of_encloses _ _ e)) f in
      let t : encloses (get_or names k d) (get_or names place []) ≡ true = test_of_encloses _ _ inner in
      let n : encloses (get_or names k d) (get_or names place []) ≡ false = o k d l in
      cc)
  reaches_outer first (Some up) few ordered h f o =
      let within : place < first = h.within in
      let there : place < length names = omega arith in
      let before : up < place = enclosing_before names up place ordered o.within there o.enclosing in
      record {
        within = omega arith;
        through = λ k d l e.
            (let inner = still_enclosing (get_or names k d) name (get_or names place []) e (h.through k d l e) f in
            let longest = o.longest k d l (test_of_encloses _ _ inner) in
            let up_prefix = (encloses_of_test _ _ o.enclosing).prefix in
            test_of_prefix _ _ (shorter_prefix (get_or names k d) (get_or names up []) (get_or names place []) inner.prefix up_prefix longest));
      }

-- ---- where one begins

-- The names before a place are less than a name, and none from there on encloses it.
pub record IsAbove (names : List (List ℕ)) (name : List ℕ) (place : ℕ) : Type 0 where
  pub within : place ≤ length names
  pub less : AllWithin (λ listed. slice_cmp nat_cmp listed name ≡ Less) names 0 place
  pub apart : AllWithin (λ listed. encloses listed name ≡ false) names place (length names)

pub above_search : (names : List (List ℕ)) (name : List ℕ) (place : ℕ) → IsAfter names name place → IsAbove names name place
above_search names name place h = record {
  within = h.within;
  less = h.less;
  apart = λ k d low high. apart_of_test (get_or names k d) name (λ e.
      let greater : slice_cmp nat_cmp (get_or names k d) name ≡ Greater = h.greater k d low high in
      let less : slice_cmp nat_cmp (get_or names k d) name ≡ Less = prefix_before (get_or names k d) name e.prefix e.shorter in
      cc);
}

pub above_itself : (names : List (List ℕ)) (place : ℕ) → IsOrdered names → place < length names → IsAbove names (get_or names place []) place
above_itself names place ordered there = record {
  within = omega arith;
  less = λ k d low high.
      (let short : k < length names = omega arith in
      let same = get_or_default names k d [] short in
      rw same (Less-from_sorted (slice_cmp nat_cmp) names k place [] ordered high there));
  apart = λ k d low high. apart_of_test (get_or names k d) (get_or names place []) (λ e.
      let same = get_or_default names k d [] high in
      let t : encloses (get_or names k []) (get_or names place []) ≡ true = rw (← same) (test_of_encloses _ _ e) in
      let before : k < place = enclosing_before names k place ordered high there t in
      absurd (omega arith));
}

-- a name that encloses comes before the place
enclosing_below : (names : List (List ℕ)) (name : List ℕ) (place k : ℕ) (d : List ℕ) → IsAbove names name place → k < length names → encloses (get_or names k d) name ≡ true → k < place
enclosing_below names name place k d h l e = by_cases (cases_lt k place)
  where
    by_cases : (k < place) ⊎ (place ≤ k) → k < place
    by_cases (inl below) = below
    by_cases (inr above) = let apart : encloses (get_or names k d) name ≡ false = h.apart k d above l in cc

pub reaches_before : (names : List (List ℕ)) (name : List ℕ) (place first : ℕ) → IsOrdered names → IsAbove names name place → place ≤ first → Reaches names first name (before place)
reaches_before names name zero first ordered h few = λ k d l. h.apart k d (omega arith) l
reaches_before names name (suc p) first ordered h few = record {
  within = omega arith;
  through = λ k d l e. (let below : k < suc p = enclosing_below names name (suc p) k d h l e in through k d l e (eq-or-lt_of_le {n = k} {m = p} (omega arith)));
}
  where
    through : (k : ℕ) (d : List ℕ) → k < length names → encloses (get_or names k d) name ≡ true → (k ≡ p) ⊎ (k < p) → starts_with nat_eq (get_or names p []) (get_or names k d) ≡ true
    through k d l e (inl same) =
        let is : get_or names k d ≡ get_or names p [] = get_or_default names k d [] l ∙ ap (λ n. get_or names n []) same in
        rw is (test_of_prefix _ _ (sym (take_all (length (get_or names p [])) (get_or names p []) (omega arith))))
    through k d l e (inr lower) =
        let there : p < length names = omega (arith, h.within) in
        let encloser = encloses_of_test (get_or names k d) name e in
        let first_less : slice_cmp nat_cmp (get_or names k d) (get_or names p []) ≡ Less = rw (get_or_default names k d [] l) (Less-from_sorted (slice_cmp nat_cmp) names k p [] ordered lower there) in
        let then_less : slice_cmp nat_cmp (get_or names p []) name ≡ Less = h.less p [] (omega arith) (omega arith) in
        test_of_prefix _ _ (between_prefix (get_or names k d) (get_or names p []) name encloser.prefix first_less then_less)

-- ---- the places of all that enclose

pub AreOuter-nil : (names : List (List ℕ)) → AreOuter names []
AreOuter-nil names = record { long = omega arith; each = λ place l. absurd (omega arith) }

pub AreOuter-push : (names : List (List ℕ)) (outer : List (Option ℕ)) (found : Option ℕ) → AreOuter names outer → length outer < length names
    → IsOuter names (get_or names (length outer) []) found → AreOuter names (outer ++ found ∷ [])
AreOuter-push names outer found h l o = record {
  long = rw length_push (omega arith);
  each = λ place below. by_cases place (eq-or-lt_of_le {n = place} {m = length outer} (omega (arith, rw length_push at below)));
}
  where
    by_cases : (place : ℕ) → (place ≡ length outer) ⊎ (place < length outer) → IsOuter names (get_or names place []) (get_or (outer ++ found ∷ []) place None)
    by_cases place (inl same) = rw (same, get_or_push outer found None (length outer) refl) o
    by_cases place (inr lower) = rw (get_or_append_left outer (found ∷ []) None place lower) (h.each place lower)

-- ---- the way up

-- the length of the name at a place, more where there is one
abbrev pub length_at : List (List ℕ) → Option ℕ → ℕ
length_at names None = 0
length_at names (Some place) = length (get_or names place []) + 1

-- what encloses a name is shorter
pub shorter_up : (names : List (List ℕ)) (name : List ℕ) (outer : Option ℕ) → IsOuter names name outer → length_at names outer < length name + 1
shorter_up names name None h = omega arith
shorter_up names name (Some up) h = omega (arith, (encloses_of_test (get_or names up []) name h.enclosing).shorter)

-- each name has one place
pub same_place : (names : List (List ℕ)) (i j : ℕ) → IsOrdered names → i < length names → j < length names → get_or names i [] ≡ get_or names j [] → i ≡ j
same_place names i j ordered hi hj e = by_cases (cases_lt i j)
  where
    never : (i j : ℕ) → i < j → j < length names → get_or names i [] ≡ get_or names j [] → ⊥
    never i j l hj e = never_before_itself (get_or names j []) (subst (λ n. slice_cmp nat_cmp n (get_or names j []) ≡ Less) e (Less-from_sorted (slice_cmp nat_cmp) names i j [] ordered l hj))

    by_cases : (i < j) ⊎ (j ≤ i) → i ≡ j
    by_cases (inl l) = absurd (never i j l hj e)
    by_cases (inr g) = elim (eq-or-lt_of_le g) [ inl same ↦ sym same | inr l ↦ absurd (never j i l hi (sym e)) ]

pub outer_within : (names : List (List ℕ)) (name : List ℕ) (outer : Option ℕ) → IsOuter names name outer → IfSome outer (λ place. place < length names)
outer_within names name None h = tt
outer_within names name (Some up) h = h.within
