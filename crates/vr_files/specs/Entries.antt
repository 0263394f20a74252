-- Lists of paths with values, in the order of the paths.
use Rattle.std.specs.Prelude.{◌≡◌, ℕ, suc, ◌<◌, ◌≤◌, List, length, take, drop, not, IsTrue}
use Rattle.std.specs.List.{AllByRecursion, HoldsAt}
use Rattle.std.specs.declared.cmp.Ordering.TheVariants.{Less, Greater}
use Rattle.std.specs.FinMap.{is_sorted}
use Rattle.std.specs.FinMap.Entries.{where_key}
use Rattle.std.specs.Ordering.{eq_by_cmp}
use Rattle.vr_files.specs.FileMaps.{path_cmp}

-- one entry for each path that has a value, in the order of the paths
abbrev pub AreSorted : {V : Type 0} → List (List ℕ × V) → Type 0
AreSorted entries = IsTrue (is_sorted path_cmp entries)

-- the entries without a path
abbrev pub without : {V : Type 0} → List ℕ → List (List ℕ × V) → List (List ℕ × V)
without path entries = where_key path_cmp (λ p. not (eq_by_cmp path_cmp path p)) entries

-- the entries' paths are below this one
abbrev pub AreBelow : {V : Type 0} → List ℕ → List (List ℕ × V) → Type 0
AreBelow path entries = AllByRecursion (λ e. path_cmp path e.0 ≡ Greater) entries

-- the entries' paths are above this one
abbrev pub AreAbove : {V : Type 0} → List ℕ → List (List ℕ × V) → Type 0
AreAbove path entries = AllByRecursion (λ e. path_cmp path e.0 ≡ Less) entries

-- the path stands there, between those below it and those above it
pub record IsAt {V : Type 0} (path : List ℕ) (entries : List (List ℕ × V)) (i : ℕ) : Type 0 where
  pub within : i < length entries
  pub here : HoldsAt (λ e. e.0 ≡ path) entries i
  pub below : AreBelow path (take i entries)
  pub above : AreAbove path (drop (suc i) entries)

-- the path would stand there
pub record IsGap {V : Type 0} (path : List ℕ) (entries : List (List ℕ × V)) (i : ℕ) : Type 0 where
  pub within : i ≤ length entries
  pub below : AreBelow path (take i entries)
  pub above : AreAbove path (drop i entries)
