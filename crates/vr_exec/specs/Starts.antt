-- When the run of a pipeline may start: each of its program files is there, and each pinned file of a region that it
-- observes is there and has the pinned hash.
use Rattle.std.specs.Prelude.{◌≡◌, ℕ, Bool, false, not, bytes_eq, is_none, List, [], ◌∷◌, find, Option, Some, None, option_map, slice_get, Result, All, IsSome, IsTrue, if◌then◌else◌}
use Rattle.std.specs.FinMap.{get}
use Rattle.std.specs.Option.{option_map_or, option_or}
use Rattle.vr_base.specs.Checks.{◌>>◌, Told, nothing, exactly, GivesBy, fault_if, unless_fault}
use Rattle.vr_digests.specs.Digests.{digits_of}
use Rattle.vr_files.specs.FileMaps.{FileMap}
use Rattle.vr_pipe.specs.declared.trees.Tree.{Tree}
use Rattle.vr_pipe.specs.Trees.{PipeTree, pipe_tree, programs_of}
use Rattle.vr_policy_check.specs.Rules.{CheckedData}
use Rattle.vr_policy_read.specs.declared.entries.Pin.{Pin}
use Rattle.vr_rights.specs.Flows.{pipeline_observes}
use Rattle.vr_rights.specs.Regions.{region_of}
use Rattle.vr_rights.specs.Tables.{names_of}
use Rattle.vr_exec.specs.declared.starts.NotReady.{NotReady}
use Rattle.vr_exec.specs.declared.starts.NotReady.TheVariants.{NoSuchFile, PinMissing, PinMismatch, OutOfMemory}

-- ---- program files

-- the first of the paths that has no file
abbrev pub missing_file : List (List ℕ) → FileMap → Option NotReady
missing_file paths files = option_map NoSuchFile (find (λ path. is_none (get files path)) paths)

-- each of the paths has a file
abbrev pub HaveFiles : FileMap → List (List ℕ) → Type 0
HaveFiles files paths = All (λ path. IsSome (get files path)) paths

-- ---- pinned files

-- whether a pipeline observes the region of a path
abbrev pub observes_path : CheckedData → PipeTree → List ℕ → Bool
observes_path checked pipe path =
    option_map_or (pipeline_observes checked.policy pipe) (region_of (names_of checked) path) false

-- what is wrong with the bytes of a pinned file, where it is there
abbrev pub bytes_fault : Pin → Option (List ℕ) → Option NotReady
bytes_fault pin None = Some (PinMissing pin.path)
bytes_fault pin (Some bytes) =
    fault_if (not (bytes_eq (digits_of bytes) pin.hash)) (PinMismatch pin.path (digits_of bytes))

-- what is wrong with a pinned file, where the pipeline observes it
abbrev pub pin_fault : CheckedData → PipeTree → FileMap → Pin → Option NotReady
pin_fault checked pipe files pin =
    if observes_path checked pipe pin.path then bytes_fault pin (get files pin.path) else None

-- what is wrong with the first pinned file that is not as it has to be
abbrev pub first_pin_fault : CheckedData → PipeTree → FileMap → List Pin → Option NotReady
first_pin_fault checked pipe files [] = None
first_pin_fault checked pipe files (pin ∷ pins) =
    option_or (pin_fault checked pipe files pin) (first_pin_fault checked pipe files pins)

-- the file of a pin is there and has its hash
abbrev pub HasPinnedHash : FileMap → Pin → Type 0
HasPinnedHash files pin =
    (bytes : List ℕ) × (get files pin.path ≡ Some bytes) × (digits_of bytes ≡ pin.hash)

-- ---- both

-- nothing, where the run may start, or the first fault: of a program file, then of a pinned one in the policy's order
abbrev pub ready_answer : CheckedData → PipeTree → FileMap → Result (Unit {0}) NotReady
ready_answer checked pipe files =
    unless_fault (missing_file (programs_of pipe) files) (tt {0})
    >> unless_fault (first_pin_fault checked pipe files checked.policy.pins) (tt {0})

-- what an answer of the code tells
abbrev pub told : NotReady → Told NotReady
told OutOfMemory = nothing
told fault = exactly fault

-- A call returned the answer, or memory ran out.
abbrev pub Gives : Result (Unit {0}) NotReady → Result (Unit {0}) NotReady → Type 0
Gives result answer = GivesBy told result answer

-- a call returned the answer for the pipeline at a place of the policy, or memory ran out
abbrev pub GivesAt : CheckedData → ℕ → FileMap → Result (Unit {0}) NotReady → Type 0
GivesAt checked place files result =
    (tree : Tree) → slice_get checked.pipes place ≡ Some tree
    → Gives result (ready_answer checked (pipe_tree tree) files)

-- The run of a pipeline over these files may start.
pub record MayStart (checked : CheckedData) (pipe : PipeTree) (files : FileMap) : Type 0 where
  pub programs : HaveFiles files (programs_of pipe)
  pub pins : All (λ pin. IsTrue (observes_path checked pipe pin.path) → HasPinnedHash files pin)
      checked.policy.pins

-- the run of the pipeline at a place of the policy may start
abbrev pub MayStartAt : CheckedData → ℕ → FileMap → Type 0
MayStartAt checked place files =
    (tree : Tree) → slice_get checked.pipes place ≡ Some tree
    → MayStart checked (pipe_tree tree) files
