-- Files after changes of different paths, one after the other, and their totals.
use Rattle.std.proofs.Common.{◌≡◌, ℕ, ◌+◌, ◌-◌, ◌*◌, ◌^◌, ◌<◌, ◌≤◌, Bool, true, false, cond, add-one, List, [], ◌∷◌, length, map, take, get_or, Option, None, Some, All, refl, sym, ap, ◌∙◌, subst, arith}
use Rattle.std.specs.Prelude.{bytes_eq, unwrap_or}
use Rattle.std.specs.Cmp.{eq_by_cmp_equiv}
use Rattle.std.specs.Cmp.Lexicographic.{texts_ties}
use Rattle.std.specs.FinMap.{get, get-insert, get-remove, len, len-insert, len-remove, contains_key}
use Rattle.std.specs.Ordering.{eq_by_cmp}
use Rattle.std.proofs.lemmas.List.{get_or-map, get_or-take, length-map, length-take-le}
use Rattle.std.proofs.lemmas.List.Elements.{All-head, All-tail}
use Rattle.std.proofs.lemmas.Map.Keys.{apart_from_distinct}
use Rattle.std.proofs.Math.Seq.{take-suc}
use Rattle.vr_files.proofs.ChangeLemmas.{applied-push}
use Rattle.vr_files.proofs.EntryLemmas.{paths_total}
use Rattle.vr_files.specs.Changes.{AreDistinct, Change, applied, changed}
use Rattle.vr_files.specs.FileMaps.{FileMap, path_cmp}
use Rattle.vr_policy_check.specs.Rules.{CheckedData}
use Rattle.vr_rights.specs.Regions.{region_number}
use Rattle.vr_rights.specs.Tables.{RegionsData}
use Rattle.vr_core.specs.Files.{KeepsTotals}
use Rattle.vr_core.specs.Machine.{bytes_at}
use Rattle.vr_core.specs.Quotas.{HasRoomIn, total_changed}
use Rattle.vr_core.proofs.QuotaLemmas.{has_room, keeps_changed}

get-changed : (files : FileMap) (path : List ℕ) (body : Option (List ℕ)) (q : List ℕ) → get (changed files path body) q ≡ cond (eq_by_cmp path_cmp q path) body (get files q)
get-changed files path None q = get-remove paths_total files path q
get-changed files path (Some body) q = get-insert paths_total files path body q

apart : (a b : List ℕ) → bytes_eq a b ≡ false → eq_by_cmp path_cmp b a ≡ false
apart a b h = (eq_by_cmp_equiv paths_total).symm b a ∙ sym (texts_ties a b) ∙ h

-- a path that has no change has the same file
pub untouched : (files : FileMap) (changes : List Change) (path : List ℕ) → All (λ change. bytes_eq change.0 path ≡ false) changes → get (applied files changes) path ≡ get files path
untouched files [] path h = refl
untouched files (c ∷ changes) path h =
    let P : Change → Type 0 = λ change. bytes_eq change.0 path ≡ false in
    untouched (changed files c.0 c.1) changes path (All-tail P c changes h)
    ∙ get-changed files c.0 c.1 path ∙ ap (λ b. cond b c.1 (get files path)) (apart c.0 path (All-head P c changes h))

one_more : (b : Bool) (n : ℕ) → cond b n (n + 1) ≤ n + 1
one_more b n = elim b as (λ t. cond t n (n + 1) ≤ n + 1) [ true ↦ omega arith | false ↦ omega arith ]

one_less : (b : Bool) (n : ℕ) → cond b (n - 1) n ≤ n + 1
one_less b n = elim b as (λ t. cond t (n - 1) n ≤ n + 1) [ true ↦ omega arith | false ↦ omega arith ]

len-changed : (files : FileMap) (path : List ℕ) (body : Option (List ℕ)) → len (changed files path body) ≤ len files + 1
len-changed files path (Some body) = rw (len-insert paths_total files path body) (one_more (contains_key files path) (len files))
len-changed files path None = rw (len-remove paths_total files path) (one_less (contains_key files path) (len files))

-- changes make no more files than they are
pub len-applied : (files : FileMap) (changes : List Change) → len (applied files changes) ≤ len files + length changes
len-applied files [] = omega arith
len-applied files (c ∷ changes) =
    let rest = len-applied (changed files c.0 c.1) changes in
    let first = len-changed files c.0 c.1 in
    omega (arith, rest, first)

module _ (files : FileMap) (changes : List Change) (distinct : AreDistinct changes) (k : ℕ) (d : Change) (l : k < length changes) where
  abbrev here : Change
  here = get_or changes k d

  before_apart : All (λ change. bytes_eq change.0 here.0 ≡ false) (take k changes)
  before_apart = λ i e m.
      let below : i < k = rw (length-take-le k changes (omega (arith, l))) at m in
      let there : (get_or (take k changes) i e).0 ≡ get_or (map (λ (c : Change). c.0) changes) i [] =
      ap (λ (c : Change). c.0) (get_or-take k changes i e below) ∙ sym (get_or-map (λ (c : Change). c.0) changes i e [] (omega (arith, below, l))) in
      let itself : get_or (map (λ (c : Change). c.0) changes) k [] ≡ here.0 = get_or-map (λ (c : Change). c.0) changes k d [] l in
      rw (there, ← itself) (apart_from_distinct bytes_eq (map (λ (c : Change). c.0) changes) i k [] distinct below (rw length-map l))

  -- at its turn a change finds the file of its path as it was
  pub as_before : get (applied files (take k changes)) here.0 ≡ get files here.0
  as_before = untouched files (take k changes) here.0 before_apart

  -- and makes its own
  pub one_further : applied files (take (k + 1) changes) ≡ changed (applied files (take k changes)) here.0 here.1
  one_further = rw (add-one, take-suc changes k d l) (applied-push files (take k changes) here.0 here.1)

-- ---- the totals at the turn of a change

module _ (policy : CheckedData) (table : RegionsData) (files : FileMap) (changes : List Change) (distinct : AreDistinct changes) (sums : List ℕ) (k : ℕ) (item : Change)
    (keeps : KeepsTotals policy table (applied files (take k changes)) sums) (l : k < length changes) (is : item ≡ get_or changes k item) where
  same_bytes : bytes_at (applied files (take k changes)) item.0 ≡ bytes_at files item.0
  same_bytes =
      let before : get (applied files (take k changes)) (get_or changes k item).0 ≡ get files (get_or changes k item).0 = as_before files changes distinct k item l in
      ap (λ (o : Option (List ℕ)). unwrap_or o []) (subst (λ (c : Change). get (applied files (take k changes)) c.0 ≡ get files c.0) (sym is) before)

  few_files : 16777216 * (len files + length changes) < 2 ^ 127 → 16777216 * len (applied files (take k changes)) < 2 ^ 127
  few_files few =
      let made = len-applied files (take k changes) in
      let taken = length-take-le k changes (omega (arith, l)) in
      omega (arith, made, taken, few, l)

  pub turn_room : 16777216 * (len files + length changes) < 2 ^ 127 → (place size : ℕ) → region_number table.names item.0 ≡ Some place → size ≤ 16777216
      → HasRoomIn sums place (length (bytes_at files item.0)) size
  turn_room few place size e small =
      subst (λ (bytes : List ℕ). HasRoomIn sums place (length bytes) size) same_bytes
      (has_room policy table (applied files (take k changes)) sums keeps item.0 place size e small (few_files few))

  after_turn : applied files (take (k + 1) changes) ≡ changed (applied files (take k changes)) item.0 item.1
  after_turn = subst (λ (c : Change). applied files (take (k + 1) changes) ≡ changed (applied files (take k changes)) c.0 c.1) (sym is) (one_further files changes distinct k item l)

  pub turn_keeps : length (unwrap_or item.1 []) ≤ 16777216
      → KeepsTotals policy table (applied files (take (k + 1) changes)) (total_changed sums (region_number table.names item.0) (length (bytes_at files item.0)) (length (unwrap_or item.1 [])))
  turn_keeps small =
      let kept = keeps_changed policy table (applied files (take k changes)) sums keeps item.0 item.1 small in
      let here = subst (λ (bytes : List ℕ). KeepsTotals policy table (changed (applied files (take k changes)) item.0 item.1)
      (total_changed sums (region_number table.names item.0) (length bytes) (length (unwrap_or item.1 [])))) same_bytes kept in
      subst (λ (m : FileMap). KeepsTotals policy table m (total_changed sums (region_number table.names item.0) (length (bytes_at files item.0)) (length (unwrap_or item.1 [])))) (sym after_turn) here
