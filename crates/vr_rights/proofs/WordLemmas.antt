-- The word of a holder in a region: that of the grant on the region's name, or else that in the longest name that
-- encloses it; and it is the holder's word on each path of the region.
use Rattle.std.proofs.Common.{◌≡◌, ◌≢◌, ℕ, ◌<◌, ◌≤◌, Bool, true, false, cond, nat_eq, List, [], length, take, take_all, bytes_eq, Option, None, Some, option_map, unwrap_or, arith, refl, sym, ◌∙◌, ap, ◌⊎◌, inl, inr, All, Contains, get_or, subst}
use Rattle.std.specs.Cmp.Lexicographic.{bytes_decides}
use Rattle.std.specs.List.{starts_with}
use Rattle.std.proofs.Math.Nat.{eq-or-lt_of_le}
use Rattle.std.proofs.lemmas.List.Elements.{All-contains, filter_passes, Contains-get_or}
use Rattle.vr_base.specs.Names.{covers, names_directory}
use Rattle.vr_base.specs.Rights.{longest_grant, word_on}
use Rattle.vr_rights.specs.Regions.{region_of, includes, encloses, IsNearest}
use Rattle.vr_rights.specs.Words.{including_grants, word_in}
use Rattle.vr_rights.specs.Holders.{HasOneOfEach}
use Rattle.vr_rights.proofs.PrefixLemmas.{IsPrefix, prefix_of_test, test_of_prefix, prefix_length, shorter_prefix, prefix_trans, whole_prefix, Encloses, encloses_of_test, test_of_encloses}
use Rattle.vr_rights.proofs.LongestLemmas.{Contains-filter, Contains-from_filter, filter_same, longest_is, longest_cases, never_in_nothing}
use Rattle.vr_rights.proofs.RegionLemmas.{filter_none, covers_cases, covers_enclosing, covers_itself, covers_prefix, region_has, none_covers}

itself_prefix : (name : List ℕ) → IsPrefix name name
itself_prefix name = sym (take_all (length name) name (omega arith))

-- what includes a region is the region's name, or encloses it
pub includes_cases : (name region : List ℕ) → includes name region ≡ true → (name ≡ region) ⊎ (encloses name region ≡ true)
includes_cases name region t = by_test (names_directory name) refl t
  where
    by_length : names_directory name ≡ true → IsPrefix name region → (length name ≡ length region) ⊎ (length name < length region) → (name ≡ region) ⊎ (encloses name region ≡ true)
    by_length e h (inl same) = inl (whole_prefix name region h (omega arith))
    by_length e h (inr shorter) = inr (test_of_encloses name region (record { is_directory = e; prefix = h; shorter = shorter }))

    by_test : (b : Bool) → names_directory name ≡ b → cond b (starts_with nat_eq region name) (bytes_eq name region) ≡ true → (name ≡ region) ⊎ (encloses name region ≡ true)
    by_test true e h = let prefix = prefix_of_test name region h in by_length e prefix (eq-or-lt_of_le {n = length name} {m = length region} (prefix_length name region prefix))
    by_test false e h = inl ((bytes_decides name region).0 h)

pub includes_itself : (region : List ℕ) → includes region region ≡ true
includes_itself region = by_test (names_directory region)
  where
    by_test : (b : Bool) → cond b (starts_with nat_eq region region) (bytes_eq region region) ≡ true
    by_test true = test_of_prefix region region (itself_prefix region)
    by_test false = (bytes_decides region region).1 refl

pub includes_enclosing : (name region : List ℕ) → encloses name region ≡ true → includes name region ≡ true
includes_enclosing name region t =
    let e = encloses_of_test name region t in
    rw e.is_directory (test_of_prefix name region e.prefix)

pub includes_prefix : (name region : List ℕ) → includes name region ≡ true → IsPrefix name region
includes_prefix name region t = by_cases (includes_cases name region t)
  where
    by_cases : (name ≡ region) ⊎ (encloses name region ≡ true) → IsPrefix name region
    by_cases (inl same) = subst (λ n. IsPrefix n region) (sym same) (itself_prefix region)
    by_cases (inr e) = (encloses_of_test name region e).prefix

-- a directory that is a prefix of a region includes it
includes_directory : (name region : List ℕ) → names_directory name ≡ true → IsPrefix name region → includes name region ≡ true
includes_directory name region e h = rw e (test_of_prefix name region h)

-- ---- the word of the longest

abbrev IsLongestIn : List ℕ → List (List ℕ × ℕ) → List ℕ × ℕ → Type 0
IsLongestIn region grants grant = Contains grants grant × (includes grant.0 region ≡ true) × All (λ other. includes other.0 region ≡ true → length other.0 ≤ length grant.0) grants

found_longest : (region : List ℕ) (grants : List (List ℕ × ℕ)) (grant : List ℕ × ℕ) → HasOneOfEach grants → IsLongestIn region grants grant → longest_grant (including_grants region grants) ≡ Some grant
found_longest region grants grant one (there, including, longest) =
    let test = λ (other : List ℕ × ℕ). includes other.0 region in
    let passes = filter_passes test grants in
    longest_is (λ (g : List ℕ × ℕ). length g.0) (including_grants region grants) grant
    (Contains-filter test grants grant there including)
    (λ k d l.
    let among = Contains-get_or (including_grants region grants) k d l in
    All-contains (λ (other : List ℕ × ℕ). includes other.0 region ≡ true → length other.0 ≤ length grant.0) grants (get_or (including_grants region grants) k d) longest (Contains-from_filter test grants (get_or (including_grants region grants) k d) among).0 (passes k d l))
    (λ k d l e.
    let other = get_or (including_grants region grants) k d in
    let among = (Contains-from_filter test grants other (Contains-get_or (including_grants region grants) k d l)).0 in
    one other grant among there (same_including other.0 grant.0 region (passes k d l) including e))
  where
    same_including : (a b region : List ℕ) → includes a region ≡ true → includes b region ≡ true → length a ≡ length b → a ≡ b
    same_including a b region h k l = includes_prefix a region h ∙ ap (λ n. take n region) l ∙ sym (includes_prefix b region k)

abbrev word_of_found : Option (List ℕ × ℕ) → ℕ
word_of_found found = unwrap_or (option_map (λ grant. grant.1) found) 0

-- the word in a region is that of the longest grant that includes it
pub word_is : (region : List ℕ) (grants : List (List ℕ × ℕ)) (grant : List ℕ × ℕ) → HasOneOfEach grants → IsLongestIn region grants grant → word_in region grants ≡ grant.1
word_is region grants grant one h = ap word_of_found (found_longest region grants grant one h)

-- and 0 where none does
pub word_none : (region : List ℕ) (grants : List (List ℕ × ℕ)) → All (λ grant. includes grant.0 region ≡ false) grants → word_in region grants ≡ 0
word_none region grants h = ap (λ gs. word_of_found (longest_grant gs)) (filter_none (λ (g : List ℕ × ℕ). includes g.0 region) grants h)

longest_cases_in : (region : List ℕ) (grants : List (List ℕ × ℕ)) → All (λ grant. includes grant.0 region ≡ false) grants ⊎ ((grant : List ℕ × ℕ) × IsLongestIn region grants grant)
longest_cases_in region grants = by_cases (longest_cases (λ (g : List ℕ × ℕ). length g.0) (including_grants region grants))
  where
    by_cases : (including_grants region grants ≡ []) ⊎ ((grant : List ℕ × ℕ) × Contains (including_grants region grants) grant × All (λ other. length other.0 ≤ length grant.0) (including_grants region grants))
        → All (λ grant. includes grant.0 region ≡ false) grants ⊎ ((grant : List ℕ × ℕ) × IsLongestIn region grants grant)
    by_cases (inl none) = inl (λ k d l. by_test (get_or grants k d) (Contains-get_or grants k d l) (includes (get_or grants k d).0 region) refl)
      where
        by_test : (grant : List ℕ × ℕ) → Contains grants grant → (t : Bool) → includes grant.0 region ≡ t → includes grant.0 region ≡ false
        by_test grant there false t = t
        by_test grant there true t = absurd (never_in_nothing grant (subst (λ gs. Contains gs grant) none (Contains-filter (λ other. includes other.0 region) grants grant there t)))
    by_cases (inr (grant, there, most)) =
        let among = Contains-from_filter (λ other. includes other.0 region) grants grant there in
        inr (grant, (among.0, among.1, (λ k d l t. All-contains (λ other. length other.0 ≤ length grant.0) (including_grants region grants) (get_or grants k d) most (Contains-filter (λ other. includes other.0 region) grants (get_or grants k d) (Contains-get_or grants k d l) t))))

-- the order of the grants doesn't count
pub word_same : (region : List ℕ) (xs ys : List (List ℕ × ℕ)) → HasOneOfEach xs → HasOneOfEach ys → All (Contains ys) xs → All (Contains xs) ys → word_in region xs ≡ word_in region ys
word_same region xs ys one other h k = by_cases (longest_cases_in region xs)
  where
    by_cases : All (λ grant. includes grant.0 region ≡ false) xs ⊎ ((grant : List ℕ × ℕ) × IsLongestIn region xs grant) → word_in region xs ≡ word_in region ys
    by_cases (inl none) = word_none region xs none ∙ sym (word_none region ys (λ j d l. All-contains (λ grant. includes grant.0 region ≡ false) xs (get_or ys j d) none (k j d l)))
    by_cases (inr (grant, (there, including, longest))) =
        word_is region xs grant one (there, including, longest) ∙ sym (word_is region ys grant other (
          All-contains (Contains ys) xs grant h there,
          including,
          (λ j d l. All-contains (λ other. includes other.0 region ≡ true → length other.0 ≤ length grant.0) xs (get_or ys j d) longest (k j d l)),
        ))

-- ---- from a region to the longest name that encloses it

-- a grant on the region's name is the longest
pub word_here : (region : List ℕ) (grants : List (List ℕ × ℕ)) (word : ℕ) → HasOneOfEach grants → Contains grants (region, word) → word_in region grants ≡ word
word_here region grants word one there = word_is region grants (region, word) one (there, includes_itself region, (λ k d l t. prefix_length (get_or grants k d).0 region (includes_prefix (get_or grants k d).0 region t)))

same_tests : (a b : Bool) → (a ≡ true → b ≡ true) → (b ≡ true → a ≡ true) → a ≡ b
same_tests true b h k = sym (h refl)
same_tests false true h k = k refl
same_tests false false h k = refl

enclosing_trans : (a b name : List ℕ) → encloses a b ≡ true → IsPrefix b name → encloses a name ≡ true
enclosing_trans a b name t h =
    let e = encloses_of_test a b t in
    let short : length a < length b = e.shorter in
    let long : length b ≤ length name = prefix_length b name h in
    test_of_encloses a name (record { is_directory = e.is_directory; prefix = prefix_trans a b name e.prefix h; shorter = omega arith })

-- without a grant on its name, the grants that include a region are those that include the longest name enclosing it
pub word_outer : (names : List (List ℕ)) (region : List ℕ) (place : ℕ) (grants : List (List ℕ × ℕ)) → All (λ grant. Contains names grant.0) grants → All (λ grant. grant.0 ≢ region) grants
    → IsNearest names region place → word_in region grants ≡ word_in (get_or names place []) grants
word_outer names region place grants known apart nearest = ap (λ gs. word_of_found (longest_grant gs)) (filter_same (λ (g : List ℕ × ℕ). includes g.0 region) (λ (g : List ℕ × ℕ). includes g.0 up) grants (λ k d l.
    same_tests (includes (get_or grants k d).0 region) (includes (get_or grants k d).0 up) (inward (get_or grants k d).0 (known k d l) (apart k d l)) (outward (get_or grants k d).0)))
  where
    up : List ℕ
    up = get_or names place []

    encloser : Encloses up region
    encloser = encloses_of_test up region nearest.enclosing

    inward : (name : List ℕ) → Contains names name → name ≢ region → includes name region ≡ true → includes name up ≡ true
    inward name there other t = by_cases (includes_cases name region t)
      where
        by_cases : (name ≡ region) ⊎ (encloses name region ≡ true) → includes name up ≡ true
        by_cases (inl same) = absurd (other same)
        by_cases (inr e) =
            let enclosing = encloses_of_test name region e in
            let shorter = All-contains (λ directory. encloses directory region ≡ true → length directory ≤ length up) names name nearest.longest there e in
            includes_directory name up enclosing.is_directory (shorter_prefix name up region enclosing.prefix encloser.prefix shorter)

    outward : (name : List ℕ) → includes name up ≡ true → includes name region ≡ true
    outward name t = by_cases (includes_cases name up t)
      where
        by_cases : (name ≡ up) ⊎ (encloses name up ≡ true) → includes name region ≡ true
        by_cases (inl same) = includes_enclosing name region (subst (λ n. encloses n region ≡ true) (sym same) nearest.enclosing)
        by_cases (inr e) = includes_enclosing name region (enclosing_trans name up region e encloser.prefix)

pub word_outermost : (names : List (List ℕ)) (region : List ℕ) (grants : List (List ℕ × ℕ)) → All (λ grant. Contains names grant.0) grants → All (λ grant. grant.0 ≢ region) grants
    → All (λ directory. encloses directory region ≡ false) names → word_in region grants ≡ 0
word_outermost names region grants known apart none = word_none region grants (λ k d l. by_test (get_or grants k d).0 (known k d l) (apart k d l) (includes (get_or grants k d).0 region) refl)
  where
    by_case : (name : List ℕ) → Contains names name → name ≢ region → (name ≡ region) ⊎ (encloses name region ≡ true) → ⊥
    by_case name there other (inl same) = other same
    by_case name there other (inr e) = let f : encloses name region ≡ false = All-contains (λ directory. encloses directory region ≡ false) names name none there in cc e

    by_test : (name : List ℕ) → Contains names name → name ≢ region → (t : Bool) → includes name region ≡ t → includes name region ≡ false
    by_test name there other false t = t
    by_test name there other true t = absurd (by_case name there other (includes_cases name region t))

-- ---- the law: one word in each region

pub law_inside : (names : List (List ℕ)) (path region : List ℕ) (grants : List (List ℕ × ℕ)) → All (λ grant. Contains names grant.0) grants → region_of names path ≡ Some region → word_on path grants ≡ word_in region grants
law_inside names path region grants known e = ap (λ gs. word_of_found (longest_grant gs)) (filter_same (λ (g : List ℕ × ℕ). covers g.0 path) (λ (g : List ℕ × ℕ). includes g.0 region) grants (λ k d l.
    same_tests (covers (get_or grants k d).0 path) (includes (get_or grants k d).0 region) (inward (get_or grants k d).0 (known k d l)) (outward (get_or grants k d).0)))
  where
    has : Contains names region × (covers region path ≡ true) × All (λ other. covers other path ≡ true → length other ≤ length region) names
    has = region_has names path region e

    prefix : IsPrefix region path
    prefix = covers_prefix region path has.1

    inward : (name : List ℕ) → Contains names name → covers name path ≡ true → includes name region ≡ true
    inward name there t = by_cases (covers_cases name path t)
      where
        shorter : length name ≤ length region
        shorter = All-contains (λ other. covers other path ≡ true → length other ≤ length region) names name has.2 there t

        by_cases : (name ≡ path) ⊎ (encloses name path ≡ true) → includes name region ≡ true
        by_cases (inl same) =
            let long : length path ≤ length region = subst (λ n. length n ≤ length region) same shorter in
            let is : region ≡ path = whole_prefix region path prefix long in
            subst (λ n. includes n region ≡ true) (is ∙ sym same) (includes_itself region)
        by_cases (inr h) =
            let enclosing = encloses_of_test name path h in
            includes_directory name region enclosing.is_directory (shorter_prefix name region path enclosing.prefix prefix shorter)

    outward : (name : List ℕ) → includes name region ≡ true → covers name path ≡ true
    outward name t = by_cases (includes_cases name region t)
      where
        by_cases : (name ≡ region) ⊎ (encloses name region ≡ true) → covers name path ≡ true
        by_cases (inl same) = subst (λ n. covers n path ≡ true) (sym same) has.1
        by_cases (inr h) = covers_enclosing name path (enclosing_trans name region path h prefix)

pub law_outside : (names : List (List ℕ)) (path : List ℕ) (grants : List (List ℕ × ℕ)) → All (λ grant. Contains names grant.0) grants → region_of names path ≡ None → word_on path grants ≡ 0
law_outside names path grants known e = ap (λ gs. word_of_found (longest_grant gs)) (filter_none (λ (g : List ℕ × ℕ). covers g.0 path) grants (λ k d l. All-contains (λ name. covers name path ≡ false) names (get_or grants k d).0 (none_covers names path e) (known k d l)))

-- what a holder may do on a path that is a name is what it may do in the path's region
pub word_on_path : (path : List ℕ) (grants : List (List ℕ × ℕ)) → names_directory path ≡ false → word_on path grants ≡ word_in path grants
word_on_path path grants file = ap (λ gs. word_of_found (longest_grant gs)) (filter_same (λ (g : List ℕ × ℕ). covers g.0 path) (λ (g : List ℕ × ℕ). includes g.0 path) grants (λ k d l.
    same_tests (covers (get_or grants k d).0 path) (includes (get_or grants k d).0 path) (inward (get_or grants k d).0) (outward (get_or grants k d).0)))
  where
    inward : (name : List ℕ) → covers name path ≡ true → includes name path ≡ true
    inward name t = elim (covers_cases name path t) [
      | inl same ↦ subst (λ n. includes n path ≡ true) (sym same) (includes_itself path)
      | inr e ↦ includes_enclosing name path e
    ]

    outward : (name : List ℕ) → includes name path ≡ true → covers name path ≡ true
    outward name t = elim (includes_cases name path t) [
      | inl same ↦ subst (λ n. covers n path ≡ true) (sym same) (covers_itself path file)
      | inr e ↦ covers_enclosing name path e
    ]
