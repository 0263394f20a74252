-- The totals of files, where one of them is replaced, made or taken out.
use Rattle.std.proofs.Common.{◌≡◌, ℕ, ◌+◌, ◌*◌, ◌<◌, ◌≤◌, Bool, true, false, cond, eqb, ◌&&◌, T, List, [], ◌∷◌, length, set, get_or, Option, None, Some, Ordering, refl, sym, ap, ◌∙◌, arith, All, length-set}
use Rattle.std.proofs.Math.Nat.{mul-suc}
use Rattle.std.specs.Prelude.{not, sum_by, bytes_eq, slice_get, Contains, option_and_then}
use Rattle.std.proofs.lemmas.Option.{slice_get-get_or}
use Rattle.std.proofs.lemmas.List.{get_or-set_same, get_or-set_other}
use Rattle.std.proofs.lemmas.List.Elements.{All-cons, All-filter, All-head, All-tail, All-nil}
use Rattle.std.proofs.lemmas.List.Sums.{sum_by-cons}
use Rattle.std.specs.Cmp.Lexicographic.{nat_list_cmp_total, bytes_decides, texts_ties}
use Rattle.std.specs.Ordering.{eq_by_cmp, is_lt, is_eq}
use Rattle.std.specs.declared.cmp.Ordering.TheVariants.{Less, Equal, Greater}
use Rattle.std.specs.FinMap.{put, find, is_sorted, entries, entries_sorted, entries-insert, get, get-entries, get-insert, get-remove, insert, remove, same_map}
use Rattle.std.specs.FinMap.Entries.{by_order, below_all, is_sorted-where_key, same_entries}
use Rattle.vr_files.specs.Changes.{changed}
use Rattle.vr_files.specs.Entries.{without}
use Rattle.vr_files.specs.FileMaps.{FileMap, path_cmp}
use Rattle.vr_files.proofs.EntryLemmas.{paths_total, one_path}
use Rattle.vr_files.proofs.MapLemmas.{find-without}
use Rattle.vr_policy_check.specs.Rules.{CheckedData}
use Rattle.std.proofs.lemmas.Bool.Decides.{nat_tests}
use Rattle.std.specs.Prelude.{MatchOption}
use Rattle.std.proofs.lemmas.List.Elements.{All-contains}
use Rattle.vr_base.specs.Names.{covers}
use Rattle.vr_rights.specs.Ordered.{IsOrdered}
use Rattle.vr_rights.specs.Regions.{region_of, region_number, place_of}
use Rattle.vr_rights.specs.Tables.{RegionsData, IsRegionsOf, names_of}
use Rattle.vr_rights.proofs.RegionLemmas.{place_is, region_is, region_has, region_none, none_covers}
use Rattle.vr_core.specs.Quotas.{size_where, total_where, is_in, region, total_of, AreTotals}

both : (a b : Bool) → T (a && b) → T a × T b
both true b h = (tt, h)
both false b h = absurd h

less : (r : Ordering) → T (is_lt r) → r ≡ Less
less Less h = refl
less Equal h = absurd h
less Greater h = absurd h

-- a path that comes before all of the entries has none of them
none_before : (k x : List ℕ) (es : List (List ℕ × List ℕ)) → path_cmp k x ≡ Less → T (below_all path_cmp x es) → find path_cmp k es ≡ None
none_before k x [] p h = refl
none_before k x (e ∷ es) p h =
    let parts = both (is_lt (path_cmp x e.0)) (below_all path_cmp x es) h in
    ap (λ (r : Ordering). cond (is_eq r) (Some e.1) (find path_cmp k es)) (nat_list_cmp_total.trans k x e.0 p (less _ parts.0))
    ∙ none_before k x es p parts.1

tied : (path : List ℕ) → eq_by_cmp path_cmp path path ≡ true
tied path = sym (texts_ties path path) ∙ (bytes_decides path path).1 refl

twice : (b : Bool) (body old : Option (List ℕ)) → cond b body (cond b None old) ≡ cond b body old
twice true body old = refl
twice false body old = refl

-- a file that is taken out and then put there
put_back : (files : FileMap) (path body : List ℕ) → insert (remove files path) path body ≡ insert files path body
put_back files path body = same_map paths_total one_path _ _ (λ q.
    get-insert paths_total (remove files path) path body q
    ∙ ap (cond (eq_by_cmp path_cmp q path) (Some body)) (get-remove paths_total files path q)
    ∙ twice (eq_by_cmp path_cmp q path) (Some body) (get files q)
    ∙ sym (get-insert paths_total files path body q))

-- the entries without a file
entries-remove : (files : FileMap) (path : List ℕ) → entries (remove files path) ≡ without path (entries files)
entries-remove files path =
    same_entries path_cmp paths_total one_path (entries (remove files path)) (without path (entries files)) (entries_sorted (remove files path))
    (is_sorted-where_key path_cmp (λ p. not (eq_by_cmp path_cmp path p)) (entries files) (entries_sorted files))
    (λ q. sym (get-entries (remove files path) q) ∙ get-remove paths_total files path q
    ∙ ap (cond (eq_by_cmp path_cmp q path) None) (get-entries files q) ∙ sym (find-without path q (entries files)))

module _ (test : List ℕ → Bool) where
  -- what a path's file counts, where there is one
  abbrev pub size_at : List ℕ → Option (List ℕ) → ℕ
  size_at path None = 0
  size_at path (Some body) = size_where test (path, body)

  sizes : List (List ℕ × List ℕ) → ℕ
  sizes es = sum_by (size_where test) es

  sizes-put : (k v : List ℕ) (es : List (List ℕ × List ℕ)) → T (is_sorted path_cmp es)
      → sizes (put path_cmp k v es) + size_at k (find path_cmp k es) ≡ sizes es + size_where test (k, v)
  unfolding sizes
  sizes-put k v [] h = omega arith
  sizes-put k v (e ∷ es) h =
      let parts = both (below_all path_cmp e.0 es) (is_sorted path_cmp es) h in
      let f = size_where test in
      elim (path_cmp k e.0) as (λ r. path_cmp k e.0 ≡ r →
      sizes (by_order r ((k, v) ∷ e ∷ es) ((e.0, v) ∷ es) (e ∷ put path_cmp k v es)) + size_at k (cond (is_eq r) (Some e.1) (find path_cmp k es))
      ≡ sizes (e ∷ es) + size_where test (k, v)) [
        | Less ↦ λ p. rw (none_before k e.0 es p parts.0) (omega (arith, sum_by-cons f (k, v) (e ∷ es)))
        | Equal ↦ λ p. let same : k ≡ e.0 = one_path k e.0 p in
            omega (arith, sum_by-cons f (e.0, v) es, sum_by-cons f e es, ap (λ (q : List ℕ). f (q, v)) same, ap (λ (q : List ℕ). f (q, e.1)) same)
        | Greater ↦ λ p. omega (arith, sum_by-cons f e (put path_cmp k v es), sum_by-cons f e es, sizes-put k v es parts.1)
      ] refl

  -- the total after a file was replaced or made
  pub total-insert : (files : FileMap) (path body : List ℕ)
      → total_where test (insert files path body) + size_at path (get files path) ≡ total_where test files + size_where test (path, body)
  unfolding sizes
  total-insert files path body =
      rw (entries-insert nat_list_cmp_total files path body, get-entries files path)
      (sizes-put path body (entries files) (entries_sorted files))

  -- the total after a file was taken out, which putting it back shows
  total-remove : (files : FileMap) (path : List ℕ) → total_where test (remove files path) + size_at path (get files path) ≡ total_where test files
  total-remove files path =
      let gone : get (remove files path) path ≡ None = get-remove paths_total files path path ∙ ap (λ b. cond b None (get files path)) (tied path) in
      let back : insert (remove files path) path [] ≡ insert files path [] = put_back files path [] in
      let again = total-insert (remove files path) path [] in
      let whole = total-insert files path [] in
      let same : total_where test (insert (remove files path) path []) ≡ total_where test (insert files path []) = ap (λ (m : FileMap). total_where test m) back in
      let none : size_at path (get (remove files path) path) ≡ 0 = ap (size_at path) gone in
      omega (arith, again, whole, same, none)

  -- the total after a change
  pub total-changed : (files : FileMap) (path : List ℕ) (body : Option (List ℕ))
      → total_where test (changed files path body) + size_at path (get files path) ≡ total_where test files + size_at path body
  total-changed files path (Some body) = total-insert files path body
  total-changed files path None = let e = total-remove files path in omega (arith, e)

  counted : (b : Bool) (n : ℕ) → cond b n 0 ≤ n
  counted true n = omega arith
  counted false n = omega arith

  -- no more than so many times the size of the largest
  pub total_most : (most : ℕ) (es : List (List ℕ × List ℕ)) → All (λ file. length file.1 ≤ most) es → sum_by (size_where test) es ≤ most * length es
  total_most most [] h = omega arith
  total_most most (e ∷ es) h =
      let head = All-head (λ (file : List ℕ × List ℕ). length file.1 ≤ most) e es h in
      let rest = total_most most es (All-tail (λ (file : List ℕ × List ℕ). length file.1 ≤ most) e es h) in
      rw (mul-suc most (length es)) (omega (arith, sum_by-cons (size_where test) e es, counted (test e.0) (length e.1), head, rest))

-- how many bytes a file has, 0 where there is none
abbrev pub size_of : Option (List ℕ) → ℕ
size_of None = 0
size_of (Some bytes) = length bytes

-- files that are small stay so where a small one is put among them
small-put : (most : ℕ) (k v : List ℕ) (es : List (List ℕ × List ℕ)) → All (λ file. length file.1 ≤ most) es → length v ≤ most
    → All (λ file. length file.1 ≤ most) (put path_cmp k v es)
small-put most k v [] h small = All-cons (λ (file : List ℕ × List ℕ). length file.1 ≤ most) (k, v) [] small (All-nil _)
small-put most k v (e ∷ es) h small =
    let P : List ℕ × List ℕ → Type 0 = λ file. length file.1 ≤ most in
    elim (path_cmp k e.0) as (λ r. All P (by_order r ((k, v) ∷ e ∷ es) ((e.0, v) ∷ es) (e ∷ put path_cmp k v es))) [
      | Less ↦ All-cons P (k, v) (e ∷ es) small h
      | Equal ↦ All-cons P (e.0, v) es small (All-tail P e es h)
      | Greater ↦ All-cons P e (put path_cmp k v es) (All-head P e es h) (small-put most k v es (All-tail P e es h) small)
    ]

pub small-insert : (most : ℕ) (files : FileMap) (path body : List ℕ) → All (λ file. length file.1 ≤ most) (entries files) → length body ≤ most
    → All (λ file. length file.1 ≤ most) (entries (insert files path body))
small-insert most files path body h small = rw (entries-insert nat_list_cmp_total files path body) (small-put most path body (entries files) h small)

-- no change makes a file of files that are small larger than its body
pub small-changed : (most : ℕ) (files : FileMap) (path : List ℕ) (body : Option (List ℕ)) → All (λ file. length file.1 ≤ most) (entries files) → size_of body ≤ most
    → All (λ file. length file.1 ≤ most) (entries (changed files path body))
small-changed most files path (Some body) h small = small-insert most files path body h small
small-changed most files path None h small =
    rw (entries-remove files path) (All-filter (λ (e : List ℕ × List ℕ). not (eq_by_cmp path_cmp path e.0)) (λ (file : List ℕ × List ℕ). length file.1 ≤ most) (entries files) h)

-- ---- the totals of regions

module _ (policy : CheckedData) (names : List (List ℕ)) (ordered : IsOrdered names) (files : FileMap) (path : List ℕ) (body : Option (List ℕ)) where
  abbrev pub after : FileMap
  after = changed files path body

  outside_size : (name : List ℕ) (file : Option (List ℕ)) → is_in policy name path ≡ false → size_at (is_in policy name) path file ≡ 0
  outside_size name None out = refl
  outside_size name (Some bytes) out = rw out refl

  inside_size : (name : List ℕ) (file : Option (List ℕ)) → is_in policy name path ≡ true → size_at (is_in policy name) path file ≡ size_of file
  inside_size name None inside = refl
  inside_size name (Some bytes) inside = rw inside refl

  not_in : (name : List ℕ) → is_in policy name path ≡ false → total_of policy after name ≡ total_of policy files name
  not_in name out =
      let sum = total-changed (is_in policy name) files path body in
      let old = outside_size name (get files path) out in
      let new = outside_size name body out in
      omega (arith, sum, old, new)

  pub in_region : (name : List ℕ) → is_in policy name path ≡ true
      → total_of policy after name + size_of (get files path) ≡ total_of policy files name + size_of body
  in_region name inside =
      let sum = total-changed (is_in policy name) files path body in
      let old = inside_size name (get files path) inside in
      let new = inside_size name body inside in
      omega (arith, sum, old, new)

  one_name : (i j : ℕ) → i < length names → j < length names → get_or names i [] ≡ get_or names j [] → i ≡ j
  one_name i j h k e =
      let at_i = place_is names i ordered h in
      let at_j = place_is names j ordered k in
      let at_e = rw e at at_i in
      cc

  pub in_itself : (name : List ℕ) → region policy path ≡ Some name → is_in policy name path ≡ true
  in_itself name e = rw e ((bytes_decides name name).1 refl)

  in_no_other : (name other : List ℕ) → region policy path ≡ Some other → (name ≡ other → ⊥) → is_in policy name path ≡ false
  in_no_other name other e apart = rw e (by_test (bytes_eq name other) (bytes_decides name other).0)
    where
      by_test : (b : Bool) → (b ≡ true → name ≡ other) → b ≡ false
      by_test true h = absurd (apart (h refl))
      by_test false h = refl

  in_none : (name : List ℕ) → region policy path ≡ None → is_in policy name path ≡ false
  in_none name e = rw e refl

  -- the totals with that of the path's region changed
  pub totals_here : (totals : List ℕ) (place new : ℕ) → AreTotals policy names files totals → place < length names
      → region policy path ≡ Some (get_or names place []) → new + size_of (get files path) ≡ get_or totals place 0 + size_of body
      → AreTotals policy names after (set totals place new)
  totals_here totals place new are within here sums = record {
    all = length-set totals place new ∙ are.all;
    each = λ p inside. by_place p inside (eqb p place) refl;
  }
    where
      by_place : (p : ℕ) → p < length names → (b : Bool) → eqb p place ≡ b → get_or (set totals place new) p 0 ≡ total_of policy after (get_or names p [])
      by_place p inside true e =
          let same : p ≡ place = grind (arith, nat_tests, e) in
          let total = in_region (get_or names place []) (in_itself (get_or names place []) here) in
          let before = are.each place within in
          let written = get_or-set_same totals place new 0 (omega (arith, are.all)) in
          rw same (written ∙ omega (arith, total, before, sums))
      by_place p inside false e =
          let apart : p ≡ place → ⊥ = λ same. grind (arith, nat_tests, e) in
          get_or-set_other totals place p new 0 apart ∙ are.each p inside
          ∙ sym (not_in (get_or names p []) (in_no_other (get_or names p []) (get_or names place []) here (λ same. apart (one_name p place inside within same))))

  -- the totals, where the path has no region
  pub totals_nowhere : (totals : List ℕ) → AreTotals policy names files totals → region policy path ≡ None → AreTotals policy names after totals
  totals_nowhere totals are none = record {
    all = are.all;
    each = λ p inside. are.each p inside ∙ sym (not_in (get_or names p []) (in_none (get_or names p []) none));
  }

-- ---- the region of a path by its number

module _ (policy : CheckedData) (table : RegionsData) (are : IsRegionsOf policy table) (path : List ℕ) where
  region_cases : (found : Option (List ℕ)) → region_of table.names path ≡ found → MatchOption (option_and_then (place_of table.names) found)
      (region policy path ≡ None) (λ place. (place < length table.names) × (region policy path ≡ Some (get_or table.names place [])))
  region_cases None e = region_none (names_of policy) path (λ k d l.
      All-contains (λ name. covers name path ≡ false) table.names (get_or (names_of policy) k d) (none_covers table.names path e) (are.all k d l))
  region_cases (Some name) e =
      let has = region_has table.names path name e in
      let k = has.0.0 in
      let first : slice_get table.names k ≡ Some (get_or table.names k []) = slice_get-get_or table.names k [] has.0.1 in
      let second : slice_get table.names k ≡ Some (get_or table.names k name) = slice_get-get_or table.names k name has.0.1 in
      let here : get_or table.names k [] ≡ name = let same : get_or table.names k name ≡ name = has.0.2 in cc in
      let found : place_of table.names name ≡ Some k = rw here at (place_is table.names k are.ordered has.0.1) in
      let whole : region policy path ≡ Some name = region_is (names_of policy) path name
      (All-contains (Contains (names_of policy)) table.names name are.only has.0) has.1
      (λ j d l t. All-contains (λ other. covers other path ≡ true → length other ≤ length name) table.names (get_or (names_of policy) j d) has.2 (are.all j d l) t) in
      rw found (has.0.1, whole ∙ ap Some (sym here))

  -- the path's region, or that it has none
  pub region_at : MatchOption (region_number table.names path)
      (region policy path ≡ None) (λ place. (place < length table.names) × (region policy path ≡ Some (get_or table.names place [])))
  region_at = region_cases (region_of table.names path) refl
