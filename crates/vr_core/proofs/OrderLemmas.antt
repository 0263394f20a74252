-- The regions' names by their numbers are those of the policy in their order.
use Rattle.std.proofs.Common.{◌≡◌, ℕ, Bool, true, false, cond, ◌&&◌, T, List, [], ◌∷◌, map, Option, None, Some, All, Contains, ◌⊎◌, inl, inr, refl, sym, ap, ◌∙◌, subst}
use Rattle.std.specs.Cmp.Lexicographic.{bytes_decides, texts_ties}
use Rattle.std.specs.FinMap.{entries, entries_sorted, find, from_entries, get-entries, get-from_entries, is_sorted}
use Rattle.std.specs.FinMap.Entries.{below_all, same_entries}
use Rattle.std.specs.List.{AllByRecursion}
use Rattle.std.specs.List.Sorted.{IsStrictlySortedBy}
use Rattle.std.specs.Ordering.{eq_by_cmp, is_lt}
use Rattle.std.specs.declared.cmp.Ordering.TheVariants.{Less}
use Rattle.std.proofs.lemmas.List.Elements.{All-contains}
use Rattle.vr_files.proofs.EntryLemmas.{paths_total, one_path}
use Rattle.vr_files.specs.FileMaps.{path_cmp}
use Rattle.vr_policy_check.specs.Rules.{CheckedData}
use Rattle.vr_rights.proofs.LongestLemmas.{Contains-cons_cases, Contains-head, Contains-tail, never_in_nothing}
use Rattle.vr_rights.specs.Ordered.{IsOrdered}
use Rattle.vr_rights.specs.Tables.{IsRegionsOf, RegionsData, names_of}
use Rattle.vr_core.specs.Quotas.{in_order, named, region_names}

pub tied : (name : List ℕ) → eq_by_cmp path_cmp name name ≡ true
tied name = sym (texts_ties name name) ∙ (bytes_decides name name).1 refl

pub same_name : (a b : List ℕ) → eq_by_cmp path_cmp a b ≡ true → a ≡ b
same_name a b h = (bytes_decides a b).0 (texts_ties a b ∙ h)

-- a name that is listed is found
pub found : (names : List (List ℕ)) (name : List ℕ) → Contains names name → find path_cmp name (named names) ≡ Some tt
found [] name h = absurd (never_in_nothing name h)
found (n ∷ names) name h = by_cases (Contains-cons_cases n names name h) (found names name)
  where
    at : (b : Bool) → find path_cmp name (named names) ≡ Some tt → cond b (Some tt) (find path_cmp name (named names)) ≡ Some tt
    at true k = refl
    at false k = k

    by_cases : (n ≡ name) ⊎ Contains names name → (Contains names name → find path_cmp name (named names) ≡ Some tt) → find path_cmp name (named (n ∷ names)) ≡ Some tt
    by_cases (inl same) rest =
        ap (λ b. cond b (Some tt) (find path_cmp name (named names))) (ap (eq_by_cmp path_cmp name) same ∙ tied name)
    by_cases (inr there) rest = at (eq_by_cmp path_cmp name n) (rest there)

-- and one that is found is listed
pub listed : (names : List (List ℕ)) (name : List ℕ) (mark : Unit {0}) → find path_cmp name (named names) ≡ Some mark → Contains names name
listed [] name mark h = cc
listed (n ∷ names) name mark h = by_test (eq_by_cmp path_cmp name n) refl h (listed names name mark)
  where
    by_test : (b : Bool) → eq_by_cmp path_cmp name n ≡ b → cond b (Some tt) (find path_cmp name (named names)) ≡ Some mark
        → (find path_cmp name (named names) ≡ Some mark → Contains names name) → Contains (n ∷ names) name
    by_test true e k rest = subst (λ x. Contains (n ∷ names) x) (sym (same_name name n e)) (Contains-head n names)
    by_test false e k rest = Contains-tail n names name (rest k)

-- two lists of the same names find the same
same_found : (xs ys : List (List ℕ)) → All (Contains ys) xs → All (Contains xs) ys → (name : List ℕ)
    → find path_cmp name (named xs) ≡ find path_cmp name (named ys)
same_found xs ys only all name = by_cases (find path_cmp name (named xs)) (find path_cmp name (named ys)) refl refl
  where
    by_cases : (a b : Option (Unit {0})) → find path_cmp name (named xs) ≡ a → find path_cmp name (named ys) ≡ b → a ≡ b
    by_cases None None e k = refl
    by_cases (Some u) (Some v) e k = refl
    by_cases (Some u) None e k =
        let there : find path_cmp name (named ys) ≡ Some tt = found ys name (All-contains (Contains ys) xs name only (listed xs name u e)) in
        let none : None ≡ Some tt = sym k ∙ there in cc
    by_cases None (Some v) e k =
        let there : find path_cmp name (named xs) ≡ Some tt = found xs name (All-contains (Contains xs) ys name all (listed ys name v k)) in
        let none : None ≡ Some tt = sym e ∙ there in cc

both : (a b : Bool) → T a → T b → T (a && b)
both true b h k = k
both false b h k = absurd h

holds : (b : Bool) → b ≡ true → T b
holds true h = tt
holds false h = cc

below : (name : List ℕ) (names : List (List ℕ)) → AllByRecursion (λ other. path_cmp name other ≡ Less) names → T (below_all path_cmp name (named names))
below name [] h = tt
below name (n ∷ names) h =
    both (is_lt (path_cmp name n)) (below_all path_cmp name (named names)) (holds (is_lt (path_cmp name n)) (ap is_lt h.0)) (below name names h.1)

sorted : (names : List (List ℕ)) → IsOrdered names → T (is_sorted path_cmp (named names))
unfolding IsStrictlySortedBy
sorted [] h = tt
sorted (n ∷ names) h = both (below_all path_cmp n (named names)) (is_sorted path_cmp (named names)) (below n names h.0) (sorted names h.1)

names_of_named : (names : List (List ℕ)) → map (λ (e : List ℕ × Unit {0}). e.0) (named names) ≡ names
names_of_named [] = refl
names_of_named (n ∷ names) = ap (λ ns. n ∷ ns) (names_of_named names)

-- names in their order, each once, are determined by which they are
ordered_names : (names all : List (List ℕ)) → IsOrdered names → All (Contains all) names → All (Contains names) all → names ≡ in_order all
ordered_names names all ordered only every =
    let m = from_entries {R = path_cmp} (named all) in
    let same : named names ≡ entries m = same_entries path_cmp paths_total one_path (named names) (entries m) (sorted names ordered) (entries_sorted m) (λ q.
    same_found names all only every q ∙ sym (get-from_entries paths_total (named all) q) ∙ get-entries m q) in
    sym (names_of_named names) ∙ ap (λ (es : List (List ℕ × Unit {0})). map (λ e. e.0) es) same

-- the names of a policy's regions are those by their numbers
pub numbered_names : (policy : CheckedData) (table : RegionsData) → IsRegionsOf policy table → table.names ≡ region_names policy
numbered_names policy table are = ordered_names table.names (names_of policy) are.ordered are.only are.all
