-- The programs of a run as they are kept, and what is left where a part of it has run.
use Rattle.std.specs.Prelude.{◌≡◌, ℕ, List, All, Contains, Some, Ok, slice_get}
use Rattle.vr_base.specs.declared.calls.Why.{Why}
use Rattle.vr_files.specs.FileMaps.{FileMap}
use Rattle.vr_pipe.specs.declared.trees.Tree.{Tree}
use Rattle.vr_pipe.specs.Trees.{pipe_tree, programs_of}
use Rattle.vr_policy_check.specs.Rules.{CheckedData}
use Rattle.vr_wasi_calls.specs.Functions.{finds}
use Rattle.vr_wasm_ast.specs.declared.tree.Module.{Module}
use Rattle.vr_wasm_ast.specs.Limits.{HasCodeForEach, MeetsLimits}
use Rattle.vr_wasm_ast.specs.Modules.{IsModule}
use Rattle.vr_wasm_link.specs.Opening.{Opening, opening_of}
use Rattle.vr_wasm_valid.specs.Parts.{IsTyped}
use Rattle.vr_exec.specs.declared.loading.Loaded.{Loaded}
use Rattle.vr_exec.specs.declared.loading.NoProgram.{NoProgram}
use Rattle.vr_exec.specs.declared.loading.NoProgram.TheVariants as reading
use Rattle.vr_exec.specs.declared.loading.NotLoaded.{NotLoaded}
use Rattle.vr_exec.specs.declared.loading.NotLoaded.TheVariants as loading
use Rattle.vr_exec.specs.declared.outcome.Outcome.{Outcome}
use Rattle.vr_exec.specs.declared.outcome.Outcome.TheVariants.{BadProgram}
use Rattle.vr_exec.specs.Programs.{Executable, IsProgram, HasProgram}
use Rattle.vr_exec.specs.Starts.{HaveFiles}

-- ---- one program

-- a fact of the reason that is told; where memory ran out none is
abbrev pub IfReason : NoProgram → (Why → Type 0) → Type 0
IfReason (reading.Because why) P = P why
IfReason reading.OutOfMemory P = Unit {0}

-- the bytes spell this module, within the limits
pub record IsRead (bytes : List ℕ) (tree : Module) : Type 0 where
  pub spelled : IsModule bytes tree
  pub limits : MeetsLimits tree
  pub codes : HasCodeForEach tree

-- the bytes spell this module, which is valid
pub record IsChecked (bytes : List ℕ) (tree : Module) : Type 0 where
  pub spelled : IsModule bytes tree
  pub typed : IsTyped tree

-- the module can be linked, where a run may have so many pages
abbrev pub IsLinkable : ℕ → Module → Type 0
IsLinkable pages tree = (opening : Opening) × (opening_of finds tree pages ≡ Ok opening)

-- this module and what it opens with
abbrev pub executable : Module → Opening → Executable
executable tree opening = record { tree = tree; opening = opening }

-- the bytes are a program of this module
abbrev pub IsProgramOf : ℕ → List ℕ → Module → Type 0
IsProgramOf pages bytes tree = (opening : Opening) × IsProgram pages bytes (executable tree opening)

-- ---- the programs of a pipeline

-- the file of its path is a program of its module
pub record IsLoaded (pages : ℕ) (files : FileMap) (loaded : Loaded) : Type 0 where
  pub opening : Opening
  pub has : HasProgram pages files loaded.path (executable loaded.tree opening)

-- one of the programs has the path
abbrev pub IsAmong : List Loaded → List ℕ → Type 0
IsAmong programs path =
    (loaded : Loaded) × Contains programs loaded × (loaded.path ≡ path)

-- each of the programs is one, and each of the paths is that of one
pub record AreLoaded (pages : ℕ) (files : FileMap) (paths : List (List ℕ)) (programs : List Loaded)
    : Type 0 where
  pub are_programs : All (IsLoaded pages files) programs
  pub all : All (IsAmong programs) paths

-- a fact of the file that is no program; where memory ran out there is none
abbrev pub IfBad : NotLoaded → (List ℕ → Why → Type 0) → Type 0
IfBad (loading.Bad path why) P = P path why
IfBad loading.OutOfMemory P = Unit {0}

-- the outcome tells of the file that is no program
abbrev pub IsToldBad : NotLoaded → Outcome → Type 0
IsToldBad (loading.Bad path why) outcome = outcome ≡ BadProgram path why
IsToldBad loading.OutOfMemory outcome = ⊥

-- each program of the pipeline at a place of the policy has a file
abbrev pub HasProgramFiles : CheckedData → ℕ → FileMap → Type 0
HasProgramFiles checked place files = (tree : Tree) → slice_get checked.pipes place ≡ Some tree
    → HaveFiles files (programs_of (pipe_tree tree))
