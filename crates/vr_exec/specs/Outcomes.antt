-- What the run of a pipeline comes to. Its programs are looked at in the order of the text before the first of them runs.
use Rattle.std.specs.Prelude.{◌≡◌, ℕ, Bool, false, IsTrue, List, [], ◌∷◌, ◌++◌, All, Some, slice_get}
use Rattle.std.specs.Option.{option_map_or}
use Rattle.std.specs.FinMap.{get}
use Rattle.vr_base.specs.declared.calls.Why.{Why}
use Rattle.vr_files.specs.Changes.{AreDifferences}
use Rattle.vr_files.specs.FileMaps.{FileMap}
use Rattle.vr_pipe.specs.declared.trees.Tree.{Tree}
use Rattle.vr_pipe.specs.Trees.{PipeTree, pipe_tree, programs_of}
use Rattle.vr_policy_check.specs.Rules.{CheckedData}
use Rattle.vr_policy_read.specs.PolicyData.{PolicyData}
use Rattle.vr_rights.specs.Flows.{pipeline_modifies}
use Rattle.vr_rights.specs.Regions.{region_of}
use Rattle.vr_rights.specs.Tables.{names_of}
use Rattle.vr_exec.specs.declared.outcome.Outcome.{Outcome}
use Rattle.vr_exec.specs.declared.outcome.Outcome.TheVariants.{Ended, BadProgram, Trapped, OutOfFuel}
use Rattle.vr_exec.specs.Programs.{Executable, HasProgram, HasNoProgram}
use Rattle.vr_exec.specs.Runs.{End, ended, trapped, exhausted, Runs}
use Rattle.vr_exec.specs.Starts.{observes_path}

-- the file of a path is there and is a program
abbrev pub HasSomeProgram : ℕ → FileMap → List ℕ → Type 0
HasSomeProgram pages files path = (executable : Executable) × HasProgram pages files path executable

-- each of these paths has a program
abbrev pub HavePrograms : ℕ → FileMap → List (List ℕ) → Type 0
HavePrograms pages files paths = All (HasSomeProgram pages files) paths

-- The first of the paths whose file is no program, and why.
pub record IsFirstBad (pages : ℕ) (files : FileMap) (paths : List (List ℕ)) (path : List ℕ)
    (why : Why) : Type 0 where
  pub before : List (List ℕ)
  pub after : List (List ℕ)
  pub place : paths ≡ before ++ path ∷ after
  pub fine : HavePrograms pages files before
  pub bad : HasNoProgram pages files path why

-- the run of a pipeline from these files on, with an empty input
abbrev pub RunsFrom : PolicyData → PipeTree → FileMap → ℕ → End → Type 0
RunsFrom policy pipe files fuel end =
    HavePrograms policy.pages files (programs_of pipe)
    × Runs (record { policy = policy; opening = files }) pipe files [] fuel end

-- The run of a pipeline over these files comes to this: a bad program, before any of them ran; or how it ended, with the
-- paths at which the files differ then.
abbrev pub ComesTo : PolicyData → PipeTree → FileMap → ℕ → Outcome → Type 0
ComesTo policy pipe files fuel (BadProgram path why) =
    IsFirstBad policy.pages files (programs_of pipe) path why
ComesTo policy pipe files fuel (Trapped path kind) =
    RunsFrom policy pipe files fuel (trapped path kind)
ComesTo policy pipe files fuel (OutOfFuel path) =
    RunsFrom policy pipe files fuel (exhausted path)
ComesTo policy pipe files fuel (Ended code output changes) =
    (after : FileMap) × (left : ℕ) × RunsFrom policy pipe files fuel (ended code output after left)
    × AreDifferences files after changes

-- the same of the pipeline at a place of the policy
abbrev pub PipelineComesTo : CheckedData → ℕ → FileMap → ℕ → Outcome → Type 0
PipelineComesTo checked place files fuel outcome =
    (tree : Tree) × (slice_get checked.pipes place ≡ Some tree)
    × ComesTo checked.policy (pipe_tree tree) files fuel outcome

-- ---- what a pipeline can't learn, and can't change

-- two maps have the same files in each region that a pipeline observes
abbrev pub AgreeFor : CheckedData → PipeTree → FileMap → FileMap → Type 0
AgreeFor checked pipe files others =
    (path : List ℕ) → IsTrue (observes_path checked pipe path) → get others path ≡ get files path

-- whether a pipeline modifies the region of a path
abbrev pub modifies_path : CheckedData → PipeTree → List ℕ → Bool
modifies_path checked pipe path =
    option_map_or (pipeline_modifies checked.policy pipe) (region_of (names_of checked) path) false

-- each change is in a region that the pipeline modifies; a run that did not end with a code has no changes
abbrev pub ChangesWithin : CheckedData → PipeTree → Outcome → Type 0
ChangesWithin checked pipe (Ended code output changes) =
    All (λ change. IsTrue (modifies_path checked pipe change.0)) changes
ChangesWithin checked pipe outcome = Unit {0}

-- The outcome is the same over all files that agree with these in the regions that the pipeline observes, and it changes
-- files only in those that the pipeline modifies.
pub record IsIsolated (checked : CheckedData) (pipe : PipeTree) (files : FileMap) (fuel : ℕ)
    (outcome : Outcome) : Type 0 where
  pub same : (others : FileMap) → AgreeFor checked pipe files others
      → ComesTo checked.policy pipe others fuel outcome
  pub within : ChangesWithin checked pipe outcome

-- the same of the pipeline at a place of the policy
abbrev pub PipelineIsIsolated : CheckedData → ℕ → FileMap → ℕ → Outcome → Type 0
PipelineIsIsolated checked place files fuel outcome =
    (tree : Tree) → slice_get checked.pipes place ≡ Some tree
    → IsIsolated checked (pipe_tree tree) files fuel outcome
