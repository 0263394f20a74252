-- The sizes of files, and what the quota of a region lets pass.
use Rattle.std.specs.Prelude.{ℕ, Bool, false, ◌&&◌, nat_lt, List, [], ◌∷◌, length, map, bytes_eq, sum_by, Option, None, Some, option_and_then, if◌then◌else◌, slice_index_or, slice_set, ◌≡◌, ◌<◌, ◌≤◌, ◌+◌, ◌-◌, ◌^◌}
use Rattle.std.specs.FinMap.{entries, from_entries, keys}
use Rattle.std.specs.Option.{option_map_or, option_or}
use Rattle.vr_base.specs.Checks.{fault_if}
use Rattle.vr_base.specs.declared.calls.Reply.{Reply}
use Rattle.vr_base.specs.declared.calls.Reply.TheVariants.{QuotaReached}
use Rattle.vr_files.specs.FileMaps.{FileMap, path_cmp}
use Rattle.vr_policy_check.specs.Rules.{CheckedData}
use Rattle.vr_rights.specs.Quotas.{quota_of}
use Rattle.vr_rights.specs.Regions.{region_of}
use Rattle.vr_rights.specs.Tables.{names_of}

-- what a file counts whose path has to pass a test: its size, or nothing
abbrev pub size_where : (List ℕ → Bool) → List ℕ × List ℕ → ℕ
size_where test file = if test file.0 then length file.1 else 0

-- the sizes of the files at the paths that pass a test, together
abbrev pub total_where : (List ℕ → Bool) → FileMap → ℕ
total_where test files = sum_by (size_where test) (entries files)

-- the region of a path under a policy, by its name
abbrev pub region : CheckedData → List ℕ → Option (List ℕ)
region policy path = region_of (names_of policy) path

-- whether a path lies in the region of this name
abbrev pub is_in : CheckedData → List ℕ → List ℕ → Bool
is_in policy name path = option_map_or (bytes_eq name) (region policy path) false

-- the sizes of the files of a region, together
abbrev pub total_of : CheckedData → FileMap → List ℕ → ℕ
total_of policy files name = total_where (is_in policy name) files

-- a total passes a quota, and is more than it was
abbrev pub is_over : ℕ → ℕ → ℕ → Bool
is_over quota old new = nat_lt quota new && nat_lt old new

-- the quota that a new total of the region of a name would reach, where it has one
abbrev pub total_fault : Option ℕ → List ℕ → ℕ → ℕ → Option Reply
total_fault quota name old new =
    option_and_then (λ most. fault_if (is_over most old new) (QuotaReached name new)) quota

-- the quota that files of a region would reach, where they become others
abbrev pub region_fault : CheckedData → FileMap → FileMap → List ℕ → Option Reply
region_fault policy old new name =
    total_fault (quota_of name policy.policy.quotas) name
    (total_of policy old name) (total_of policy new name)

-- the quota that the region of a path would reach; a path without a region has none
abbrev pub quota_fault : CheckedData → FileMap → FileMap → List ℕ → Option Reply
quota_fault policy old new path = option_and_then (region_fault policy old new) (region policy path)

-- names as entries with nothing to them
abbrev pub named : List (List ℕ) → List (List ℕ × Unit {0})
named names = map (λ name. (name, tt)) names

-- names in the order of their bytes, each once
abbrev pub in_order : List (List ℕ) → List (List ℕ)
in_order names = keys (from_entries {R = path_cmp} (named names))

-- the names of a policy's regions by their numbers: each name that it writes once, in the order of their bytes
abbrev pub region_names : CheckedData → List (List ℕ)
region_names policy = in_order (names_of policy)

-- the quota that files would reach in the first of the regions where they would reach one
abbrev pub first_fault : CheckedData → FileMap → FileMap → List (List ℕ) → Option Reply
first_fault policy old new [] = None
first_fault policy old new (name ∷ names) =
    option_or (region_fault policy old new name) (first_fault policy old new names)

-- the same of all regions, by their numbers
abbrev pub quotas_fault : CheckedData → FileMap → FileMap → Option Reply
quotas_fault policy old new = first_fault policy old new (region_names policy)

-- The totals are those of the regions with these names, in their order.
pub record AreTotals (policy : CheckedData) (names : List (List ℕ)) (files : FileMap)
    (totals : List ℕ) : Type 0 where
  pub all : length totals ≡ length names
  pub each : (place : ℕ) → place < length names
      → slice_index_or totals place 0 ≡ total_of policy files (slice_index_or names place [])

-- the totals after the file of a path in the region at a place got another size; no region has none
abbrev pub total_changed : List ℕ → Option ℕ → ℕ → ℕ → List ℕ
total_changed totals None old new = totals
total_changed totals (Some place) old new =
    slice_set totals place (slice_index_or totals place 0 - old + new)

-- There is a total at the place, which counts the old size and has room for the new one.
pub record HasRoomIn (totals : List ℕ) (place old new : ℕ) : Type 0 where
  pub within : place < length totals
  pub counted : old ≤ slice_index_or totals place 0
  pub room : slice_index_or totals place 0 + new < 2 ^ 128
