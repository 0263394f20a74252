-- When a run starts, and what the code's checks of a run answer, for the pipeline at a place of the policy.
use Rattle.std.specs.Prelude.{◌≡◌, ◌↔◌, ℕ, Some, Ok, IsOk, IsTrue, slice_get}
use Rattle.vr_base.specs.declared.calls.Call.{Call}
use Rattle.vr_base.specs.declared.calls.Call.TheVariants.{Run}
use Rattle.vr_exec.specs.Starts.{MayStart}
use Rattle.vr_files.specs.FileMaps.{FileMap}
use Rattle.vr_pipe.specs.declared.trees.Tree.{Tree}
use Rattle.vr_pipe.specs.Trees.{pipe_tree, programs_of}
use Rattle.vr_policy_check.specs.Rules.{CheckedData}
use Rattle.vr_policy_read.specs.declared.entries.Identity.{Identity}
use Rattle.vr_rights.specs.Flows.{may_run}
use Rattle.vr_core.specs.Machine.{Checked, Listed, execute_check, identity_at, identity_of, pipeline_of, run_place, start_check}
use Rattle.vr_core.specs.Replies.{Gives}

-- the answer is whether the identity at one place may execute each program of the pipeline at another
abbrev pub MayExecute : CheckedData → ℕ → ℕ → Checked (Unit {0}) → Type 0
MayExecute policy caller place answer =
    (identity : Identity) (tree : Tree) → identity_at policy caller ≡ Some identity
    → slice_get policy.pipes place ≡ Some tree
    → Gives answer (execute_check identity (programs_of (pipe_tree tree)))

-- the answer is whether the run of the pipeline at a place may start
abbrev pub MayStartAt : CheckedData → ℕ → FileMap → Checked (Unit {0}) → Type 0
MayStartAt policy place files answer =
    (tree : Tree) → slice_get policy.pipes place ≡ Some tree
    → Gives answer (start_check policy (pipe_tree tree) files)

-- ---- when a run starts

-- The run of the pipeline with an id starts for a caller: the caller is an identity, the pipeline is listed, the identity
-- may execute each of its programs, and its files are as they have to be.
pub record Starts (policy : CheckedData) (files : FileMap) (who id : ℕ) : Type 0 where
  pub identity : Identity
  pub is_caller : identity_of policy who ≡ Ok identity
  pub listed : Listed
  pub is_listed : pipeline_of policy id ≡ Ok listed
  pub executes : IsTrue (may_run identity listed.pipe)
  pub ready : MayStart policy listed.pipe files

-- the checks let a run be made exactly where it starts
abbrev pub RunsWhereItStarts : CheckedData → FileMap → ℕ → ℕ → Type 0
RunsWhereItStarts policy files who id =
    IsOk (run_place policy files who id) ↔ Starts policy files who id

-- the same of a call, where it is one for a run
abbrev pub StartsRightly : CheckedData → FileMap → ℕ → Call → Type 0
StartsRightly policy files who (Run id) = RunsWhereItStarts policy files who id
StartsRightly policy files who call = Unit {0}
