-- The region of a path, as it is found: by the path's own place, or by the longest name that encloses it.
use Rattle.std.proofs.Common.{◌≡◌, ℕ, ◌<◌, ◌≤◌, Bool, true, false, ◌&&◌, cond, nat_eq, nat_lt, List, [], ◌∷◌, length, take, take_all, filter, bytes_eq, Option, None, Some, arith, refl, sym, ◌∙◌, ap, ◌⊎◌, inl, inr, All, Contains, get_or, subst}
use Rattle.std.specs.Cmp.Lexicographic.{slice_cmp, bytes_decides, texts_ties}
use Rattle.std.specs.List.{starts_with}
use Rattle.std.specs.Ordering.{nat_cmp, is_eq}
use Rattle.std.proofs.lemmas.Bool.{and_parts}
use Rattle.std.proofs.lemmas.Map.Keys.{Less-from_sorted}
use Rattle.std.proofs.lemmas.List.Elements.{All-head, All-tail, All-contains, All-filter, filter_passes, Contains-get_or}
use Rattle.vr_base.specs.Names.{covers, names_directory, IsPath}
use Rattle.vr_rights.specs.Regions.{longest_name, region_of, place_of, region_number, encloses, IsOuter}
use Rattle.vr_rights.specs.Ordered.{IsOrdered, IsAt, IsAfter}
use Rattle.vr_rights.proofs.PrefixLemmas.{IsPrefix, prefix_length, encloses_of_test}
use Rattle.vr_rights.proofs.LongestLemmas.{never_in_nothing, Contains-filter, Contains-from_filter, longest_is, longest_cases}
use Rattle.vr_base.proofs.Places.{first_passes}
use Rattle.vr_rights.proofs.PathLemmas.{path_no_directory}
use Rattle.vr_rights.proofs.SearchLemmas.{not_after}

-- what covers a path is the path, or encloses it
pub covers_cases : (name path : List ℕ) → covers name path ≡ true → (name ≡ path) ⊎ (encloses name path ≡ true)
covers_cases name path t = by_test (names_directory name) refl t
  where
    by_test : (b : Bool) → names_directory name ≡ b → cond b (starts_with nat_eq path name && nat_lt (length name) (length path)) (bytes_eq name path) ≡ true → (name ≡ path) ⊎ (encloses name path ≡ true)
    by_test true e h = inr (rw e h)
    by_test false e h = inl ((bytes_decides name path).0 h)

pub covers_enclosing : (name path : List ℕ) → encloses name path ≡ true → covers name path ≡ true
covers_enclosing name path t =
    let both = and_parts (names_directory name) _ t in
    rw both.0 both.1

pub covers_itself : (path : List ℕ) → names_directory path ≡ false → covers path path ≡ true
covers_itself path e = rw e ((bytes_decides path path).1 refl)

pub covers_prefix : (name path : List ℕ) → covers name path ≡ true → IsPrefix name path
covers_prefix name path t = by_cases (covers_cases name path t)
  where
    by_cases : (name ≡ path) ⊎ (encloses name path ≡ true) → IsPrefix name path
    by_cases (inl same) = subst (λ n. IsPrefix n path) (sym same) (sym (take_all (length path) path (omega arith)))
    by_cases (inr e) = (encloses_of_test name path e).prefix

-- two names of one length that cover a path are one
same_covering : (a b path : List ℕ) → covers a path ≡ true → covers b path ≡ true → length a ≡ length b → a ≡ b
same_covering a b path h k l = covers_prefix a path h ∙ ap (λ n. take n path) l ∙ sym (covers_prefix b path k)

abbrev covering : List (List ℕ) → List ℕ → List (List ℕ)
covering names path = filter (λ name. covers name path) names

-- the name that covers the path, where none that does is longer
pub region_is : (names : List (List ℕ)) (path name : List ℕ) → Contains names name → covers name path ≡ true
    → All (λ other. covers other path ≡ true → length other ≤ length name) names → region_of names path ≡ Some name
region_is names path name there covering_it longest =
    let passes = filter_passes (λ other. covers other path) names in
    longest_is (λ (n : List ℕ). length n) (covering names path) name
    (Contains-filter (λ other. covers other path) names name there covering_it)
    (λ k d l. All-filter (λ other. covers other path) (λ other. covers other path ≡ true → length other ≤ length name) names longest k d l (passes k d l))
    (λ k d l e. same_covering (get_or (covering names path) k d) name path (passes k d l) covering_it e)

pub filter_none : {X : Type 0} (p : X → Bool) (xs : List X) → All (λ x. p x ≡ false) xs → filter p xs ≡ []
filter_none p [] h = refl
filter_none p (x ∷ xs) h = rw (All-head (λ y. p y ≡ false) x xs h) (filter_none p xs (All-tail (λ y. p y ≡ false) x xs h))

pub region_none : (names : List (List ℕ)) (path : List ℕ) → All (λ name. covers name path ≡ false) names → region_of names path ≡ None
region_none names path h = ap longest_name (filter_none (λ name. covers name path) names h)

-- a region is one of the names, it covers the path, and none that does is longer
pub region_has : (names : List (List ℕ)) (path name : List ℕ) → region_of names path ≡ Some name
    → Contains names name × (covers name path ≡ true) × All (λ other. covers other path ≡ true → length other ≤ length name) names
region_has names path name e = by_cases (longest_cases (λ (n : List ℕ). length n) (covering names path))
  where
    passes : All (λ other. covers other path ≡ true) (covering names path)
    passes = filter_passes (λ other. covers other path) names

    by_cases : (covering names path ≡ []) ⊎ ((x : List ℕ) × Contains (covering names path) x × All (λ y. length y ≤ length x) (covering names path))
        → Contains names name × (covers name path ≡ true) × All (λ other. covers other path ≡ true → length other ≤ length name) names
    by_cases (inl none) = let absent : region_of names path ≡ None = ap longest_name none in cc
    by_cases (inr (x, there, most)) =
        let covering_it : covers x path ≡ true = All-contains (λ other. covers other path ≡ true) (covering names path) x passes there in
        let found : region_of names path ≡ Some x = longest_is (λ (n : List ℕ). length n) (covering names path) x there most (λ k d l e. same_covering (get_or (covering names path) k d) x path (passes k d l) covering_it e) in
        let same : x ≡ name = cc in
        let among = (Contains-from_filter (λ other. covers other path) names x there).0 in
        let longest : All (λ other. covers other path ≡ true → length other ≤ length x) names = λ k d l t. All-contains (λ y. length y ≤ length x) (covering names path) (get_or names k d) most (Contains-filter (λ other. covers other path) names (get_or names k d) (Contains-get_or names k d l) t) in
        subst (λ n. Contains names n × (covers n path ≡ true) × All (λ other. covers other path ≡ true → length other ≤ length n) names) same (among, covering_it, longest)

-- a path without a region is covered by no name
pub none_covers : (names : List (List ℕ)) (path : List ℕ) → region_of names path ≡ None → All (λ name. covers name path ≡ false) names
none_covers names path e = λ k d l. by_test (get_or names k d) (Contains-get_or names k d l) (covers (get_or names k d) path) refl (longest_cases (λ (n : List ℕ). length n) (covering names path))
  where
    by_test : (name : List ℕ) → Contains names name → (t : Bool) → covers name path ≡ t → (covering names path ≡ []) ⊎ ((x : List ℕ) × Contains (covering names path) x × All (λ y. length y ≤ length x) (covering names path)) → covers name path ≡ false
    by_test name there false t cases = t
    by_test name there true t (inl none) = absurd (never_in_nothing name (subst (λ ns. Contains ns name) none (Contains-filter (λ other. covers other path) names name there t)))
    by_test name there true t (inr (x, among, most)) =
        let passes = filter_passes (λ other. covers other path) names in
        let covering_it : covers x path ≡ true = All-contains (λ other. covers other path ≡ true) (covering names path) x passes among in
        let found : region_of names path ≡ Some x = longest_is (λ (n : List ℕ). length n) (covering names path) x among most (λ k d l e. same_covering (get_or (covering names path) k d) x path (passes k d l) covering_it e) in
        cc

-- ---- places

pub place_is : (names : List (List ℕ)) (place : ℕ) → IsOrdered names → place < length names → place_of names (get_or names place []) ≡ Some place
place_is names place ordered there =
    let name = get_or names place [] in
    let here : bytes_eq name name ≡ true = (bytes_decides name name).1 refl in
    first_passes (λ listed. bytes_eq listed name) names place [] there here (λ j below.
    texts_ties (get_or names j []) name ∙ ap is_eq (Less-from_sorted (slice_cmp nat_cmp) names j place [] ordered below there))

-- the region of a path that is a name is the path
pub region_here : (names : List (List ℕ)) (path : List ℕ) (place : ℕ) → IsOrdered names → IsPath path → IsAt names path place → region_number names path ≡ Some place
region_here names path place ordered is_path h =
    let there : Contains names path = subst (Contains names) h.here (Contains-get_or names place [] h.within) in
    let region = region_is names path path there (covers_itself path (path_no_directory path is_path)) (λ k d l e. prefix_length (get_or names k d) path (covers_prefix (get_or names k d) path e)) in
    rw region (subst (λ n. place_of names n ≡ Some place) h.here (place_is names place ordered h.within))

-- the region of a path that is none is the longest name that encloses it
pub region_outer : (names : List (List ℕ)) (path : List ℕ) (place : ℕ) (outer : Option ℕ) → IsOrdered names → IsAfter names path place → IsOuter names path outer → region_number names path ≡ outer
region_outer names path place None ordered h o = rw (region_none names path (λ k d l. not_covering (get_or names k d) (Contains-get_or names k d l) (o k d l))) refl
  where
    not_covering : (name : List ℕ) → Contains names name → encloses name path ≡ false → covers name path ≡ false
    not_covering name there apart = by_test (covers name path) refl
      where
        by_case : (name ≡ path) ⊎ (encloses name path ≡ true) → ⊥
        by_case (inl same) = not_after names path place h (subst (Contains names) same there)
        by_case (inr e) = cc apart

        by_test : (t : Bool) → covers name path ≡ t → covers name path ≡ false
        by_test false t = t
        by_test true t = absurd (by_case (covers_cases name path t))
region_outer names path place (Some up) ordered h o =
    let name = get_or names up [] in
    let there : Contains names name = Contains-get_or names up [] o.within in
    let region = region_is names path name there (covers_enclosing name path o.enclosing) (λ k d l e. by_case k d l (covers_cases (get_or names k d) path e)) in
    rw region (place_is names up ordered o.within)
  where
    by_case : (k : ℕ) (d : List ℕ) → k < length names → (get_or names k d ≡ path) ⊎ (encloses (get_or names k d) path ≡ true) → length (get_or names k d) ≤ length (get_or names up [])
    by_case k d l (inl same) = absurd (not_after names path place h (subst (Contains names) same (Contains-get_or names k d l)))
    by_case k d l (inr e) = o.longest k d l e
