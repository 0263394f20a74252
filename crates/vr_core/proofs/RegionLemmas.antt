-- The names of a policy's regions by their numbers are regions of the policy.
use Rattle.std.proofs.Common.{◌≡◌, ℕ, Bool, true, false, cond, ◌&&◌, T, List, [], ◌∷◌, map, Some, All, Contains, ◌⊎◌, inl, inr, refl, sym, ap, ◌∙◌, subst, get_or}
use Rattle.std.specs.FinMap.{entries, entries_sorted, find, from_entries, get-entries, get-from_entries, is_sorted}
use Rattle.std.specs.FinMap.Entries.{below_all}
use Rattle.std.specs.List.{AllByRecursion}
use Rattle.std.specs.List.Sorted.{IsStrictlySortedBy}
use Rattle.std.specs.Ordering.{eq_by_cmp, is_lt}
use Rattle.std.specs.declared.cmp.Ordering.{Ordering}
use Rattle.std.specs.declared.cmp.Ordering.TheVariants.{Less, Equal, Greater}
use Rattle.std.proofs.lemmas.List.Elements.{Contains-get_or}
use Rattle.vr_files.proofs.EntryLemmas.{paths_total}
use Rattle.vr_files.specs.FileMaps.{path_cmp}
use Rattle.vr_policy_check.specs.Rules.{CheckedData}
use Rattle.vr_rights.proofs.LongestLemmas.{Contains-cons_cases, Contains-head, Contains-tail, never_in_nothing}
use Rattle.vr_rights.specs.Ordered.{IsOrdered}
use Rattle.vr_rights.specs.Tables.{IsRegionsOf, names_of, tables_over}
use Rattle.vr_core.specs.Quotas.{in_order, named, region_names}
use Rattle.vr_core.proofs.OrderLemmas.{found, listed, same_name, tied}

abbrev Marks : Type 0
Marks = List (List ℕ × Unit {0})

first_two : (a b : Bool) → T (a && b) → T a × T b
first_two true b h = (tt, h)
first_two false b h = absurd h

less : (o : Ordering) → T (is_lt o) → o ≡ Less
less Less h = refl
less Equal h = absurd h
less Greater h = absurd h

all_above : (name : List ℕ) (es : Marks) → T (below_all path_cmp name es) → AllByRecursion (λ other. path_cmp name other ≡ Less) (map (λ e. e.0) es)
all_above name [] h = tt
all_above name (e ∷ es) h =
    let parts = first_two (is_lt (path_cmp name e.0)) (below_all path_cmp name es) h in
    (less (path_cmp name e.0) parts.0, all_above name es parts.1)

keys_ordered : (es : Marks) → T (is_sorted path_cmp es) → IsOrdered (map (λ e. e.0) es)
unfolding IsStrictlySortedBy
keys_ordered [] h = tt
keys_ordered (e ∷ es) h =
    let parts = first_two (below_all path_cmp e.0 es) (is_sorted path_cmp es) h in
    (all_above e.0 es parts.0, keys_ordered es parts.1)

-- a key that is found is one of the keys
key_there : (es : Marks) (name : List ℕ) (mark : Unit {0}) → find path_cmp name es ≡ Some mark → Contains (map (λ e. e.0) es) name
key_there [] name mark h = cc
key_there (e ∷ es) name mark h = by_test (eq_by_cmp path_cmp name e.0) refl h (key_there es name mark)
  where
    by_test : (b : Bool) → eq_by_cmp path_cmp name e.0 ≡ b → cond b (Some e.1) (find path_cmp name es) ≡ Some mark
        → (find path_cmp name es ≡ Some mark → Contains (map (λ f. f.0) es) name) → Contains (map (λ f. f.0) (e ∷ es)) name
    by_test true t k rest = subst (λ x. Contains (map (λ (f : List ℕ × Unit {0}). f.0) (e ∷ es)) x) (sym (same_name name e.0 t)) (Contains-head e.0 (map (λ f. f.0) es))
    by_test false t k rest = Contains-tail e.0 (map (λ f. f.0) es) name (rest k)

-- and one of the keys is found
found_key : (es : Marks) (name : List ℕ) → Contains (map (λ e. e.0) es) name → find path_cmp name es ≡ Some tt
found_key [] name h = absurd (never_in_nothing name h)
found_key (e ∷ es) name h = by_cases (Contains-cons_cases e.0 (map (λ f. f.0) es) name h) (found_key es name)
  where
    at : (b : Bool) → find path_cmp name es ≡ Some tt → cond b (Some e.1) (find path_cmp name es) ≡ Some tt
    at true k = refl
    at false k = k

    by_cases : (e.0 ≡ name) ⊎ Contains (map (λ f. f.0) es) name → (Contains (map (λ f. f.0) es) name → find path_cmp name es ≡ Some tt) → find path_cmp name (e ∷ es) ≡ Some tt
    by_cases (inl same) rest = ap (λ b. cond b (Some e.1) (find path_cmp name es)) (ap (eq_by_cmp path_cmp name) same ∙ tied name)
    by_cases (inr there) rest = at (eq_by_cmp path_cmp name e.0) (rest there)

module _ (all : List (List ℕ)) where
  -- names in their order are found where they are listed
  in_order_found : (name : List ℕ) → find path_cmp name (entries (from_entries {R = path_cmp} (named all))) ≡ find path_cmp name (named all)
  in_order_found name = sym (get-entries (from_entries {R = path_cmp} (named all)) name) ∙ get-from_entries paths_total (named all) name

  every_name : All (Contains (in_order all)) all
  every_name = λ k d l.
      key_there (entries (from_entries {R = path_cmp} (named all))) (get_or all k d) tt
      (in_order_found (get_or all k d) ∙ found all (get_or all k d) (Contains-get_or all k d l))

  no_other : All (Contains all) (in_order all)
  no_other = λ k d l.
      listed all (get_or (in_order all) k d) tt
      (sym (in_order_found (get_or (in_order all) k d)) ∙ found_key (entries (from_entries {R = path_cmp} (named all))) (get_or (in_order all) k d) (Contains-get_or (in_order all) k d l))

-- the tables over these names are the policy's
pub own_regions : (policy : CheckedData) → IsRegionsOf policy (tables_over (region_names policy) policy)
own_regions policy = record {
  ordered = keys_ordered (entries (from_entries {R = path_cmp} (named (names_of policy)))) (entries_sorted (from_entries {R = path_cmp} (named (names_of policy))));
  all = every_name (names_of policy);
  only = no_other (names_of policy);
  tables = refl;
}
