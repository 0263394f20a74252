-- Files under a policy, with the totals of its regions.
use Rattle.std.specs.Prelude.{ℕ, ◌<◌, ◌≤◌, List, length, All}
use Rattle.std.specs.FinMap.{entries}
use Rattle.vr_files.specs.FileMaps.{FileMap, FileTable}
use Rattle.vr_policy_check.specs.Rules.{CheckedData}
use Rattle.vr_rights.specs.Tables.{RegionsData, IsRegionsOf}
use Rattle.vr_exec.specs.Loaded.{HasProgramFiles}
use Rattle.vr_core.specs.Quotas.{AreTotals}

-- a policy, and files under it
pub record PolicyFilesData : Type 0 where
  pub policy : CheckedData
  pub files : FileTable

-- What the files of a policy keep: its regions, their totals, and that no file is larger than one may be.
pub record KeepsTotals (policy : CheckedData) (table : RegionsData) (files : FileMap)
    (sums : List ℕ) : Type 0 where
  pub regions : IsRegionsOf policy table
  pub totals : AreTotals policy table.names files sums
  pub small : All (λ file. length file.1 ≤ 16777216) (entries files)

-- The run of the pipeline at a place may start: the policy lists it, and its program files are there.
pub record IsReady (policy : CheckedData) (files : FileMap) (place : ℕ) : Type 0 where
  pub listed : place < length policy.policy.pipelines
  pub there : HasProgramFiles policy place files
