-- What the regions of a policy tell, as tables over its names.
use Rattle.std.specs.Prelude.{◌≡◌, ℕ, ◌<◌, List, [], ◌++◌, length, map, All, Contains, Option, None, Some, slice_get, slice_index_or}
use Rattle.std.specs.List.{flat_map}
use Rattle.vr_base.specs.Rights.{word_on}
use Rattle.vr_policy_read.specs.declared.entries.Identity.{Identity}
use Rattle.vr_policy_read.specs.declared.entries.Program.{Program}
use Rattle.vr_pipe.specs.declared.trees.Tree.{Tree}
use Rattle.vr_pipe.specs.Trees.{pipe_tree, programs_of, tests_of}
use Rattle.vr_policy_check.specs.Rules.{CheckedData, grant_names, program_names, pin_paths}
use Rattle.vr_rights.specs.Ordered.{IsOrdered}
use Rattle.vr_rights.specs.Quotas.{quota_of}
use Rattle.vr_rights.specs.Regions.{region_number}
use Rattle.vr_rights.specs.Words.{word_in, missing_program}

-- the names that pipelines write: of their programs and tests
abbrev pub names_of_pipes : List Tree → List (List ℕ)
names_of_pipes pipes =
    flat_map (λ pipe. programs_of (pipe_tree pipe) ++ tests_of (pipe_tree pipe)) pipes

-- the names that a policy writes: of grants, programs, pinned files, the programs
-- and tests of pipelines, quotas
abbrev pub names_of : CheckedData → List (List ℕ)
names_of checked =
    flat_map (λ identity. grant_names identity.grants) checked.policy.identities
    ++ (flat_map (λ program. grant_names program.grants) checked.policy.programs
    ++ (program_names checked.policy
    ++ (pin_paths checked.policy
    ++ (names_of_pipes checked.pipes
    ++ map (λ quota. quota.name) checked.policy.quotas))))

-- The names of the regions in their order. For each identity and for each program its word in each
-- region. For each identity and each pipeline the first of the pipeline's program places that the
-- identity may not execute. For each region its quota.
pub record RegionsData : Type 0 where
  pub names : List (List ℕ)
  pub identities : List (List ℕ)
  pub programs : List (List ℕ)
  pub missing : List (List (Option ℕ))
  pub quotas : List (Option ℕ)

-- what a policy says over these names
abbrev pub tables_over : List (List ℕ) → CheckedData → RegionsData
tables_over names checked = record {
  names = names;
  identities =
      map (λ identity. map (λ name. word_in name identity.grants) names) checked.policy.identities;
  programs =
      map (λ program. map (λ name. word_in name program.grants) names) checked.policy.programs;
  missing =
      map (λ identity. map (λ pipe. missing_program identity.grants (pipe_tree pipe)) checked.pipes)
      checked.policy.identities;
  quotas = map (λ name. quota_of name checked.policy.quotas) names;
}

-- The regions of a policy: each of its names once, in the order of their
-- bytes, and what it says over them.
pub record IsRegionsOf (checked : CheckedData) (regions : RegionsData) : Type 0 where
  pub ordered : IsOrdered regions.names
  pub all : All (Contains regions.names) (names_of checked)
  pub only : All (Contains (names_of checked)) regions.names
  pub tables : regions ≡ tables_over regions.names checked

-- the entry of a table in a row and a column
abbrev pub entry_of : {A : Type 0} → List (List A) → ℕ → ℕ → A → A
entry_of table row column absent = slice_index_or (slice_index_or table row []) column absent

-- The table has the row, and the row has the column.
pub record HasEntry {A : Type 0} (table : List (List A)) (row column : ℕ) : Type 0 where
  pub in_table : row < length table
  pub in_row : column < length (slice_index_or table row [])

-- the word in a row at a region, or 0 where there is no region
abbrev pub word_at : List ℕ → Option ℕ → ℕ
word_at row None = 0
word_at row (Some region) = slice_index_or row region 0

-- The law of one word in each region: the word of a holder on a path is its word in the path's
-- region, and 0 where the path has no region.
pub record HasOneWord (checked : CheckedData) (regions : RegionsData) : Type 0 where
  pub identities : (place : ℕ) (identity : Identity) (path : List ℕ)
      → slice_get checked.policy.identities place ≡ Some identity
      → word_on path identity.grants
      ≡ word_at (slice_index_or regions.identities place []) (region_number regions.names path)
  pub programs : (place : ℕ) (program : Program) (path : List ℕ)
      → slice_get checked.policy.programs place ≡ Some program
      → word_on path program.grants
      ≡ word_at (slice_index_or regions.programs place []) (region_number regions.names path)
