-- The policy machine: what one call of one identity is answered, and the files after it; and what a list of calls comes
-- to. A call meets its checks in this order, and the first that fails is its answer.
--   1 The name is a path.
--   2 The caller is an identity of the policy.
--   3 The pipeline is listed.
--   4 The caller has the rights that the call needs; for a run, to execute each of its programs, in the order of the text.
--   5 The file is there; for a run, each program file.
--   6 Each pinned file that the pipeline observes is there, and has the pinned hash.
--   7 The file's new size is no more than a file may have.
--   8 The region's new total is no more than its quota, or than it was; for a run that ended with a code, that of each
--     region.
-- A run is made once checks 2 to 6 pass, and what it comes to is a relation. So the step of a run is one too, and that
-- of each other call is computed.
use Rattle.std.specs.Prelude.{◌≡◌, ℕ, ◌-◌, ◌^◌, ◌==◌, min, nat_lt, List, [], ◌∷◌, ◌++◌, length, find, slice_get, Option, option_map, option_and_then, unwrap_or, Result, Ok, Err}
use Rattle.std.specs.FinMap.{get, insert}
use Rattle.vr_base.specs.Checks.{◌>>=◌, ◌>>◌, or_fault, unless_fault, fault_if, result_map_err}
use Rattle.vr_base.specs.Names.{path_of}
use Rattle.vr_base.specs.Rights.{word_on, missing_right, read_rights, write_rights, append_rights, execute_rights}
use Rattle.vr_base.specs.declared.calls.Call.{Call}
use Rattle.vr_base.specs.declared.calls.Call.TheVariants as calls
use Rattle.vr_base.specs.declared.calls.Reply.{Reply}
use Rattle.vr_base.specs.declared.calls.Reply.TheVariants.{Stored, Read, Ended, PolicyHash, NoSuchFile, NoSuchPipeline, Denied, PinMissing, PinMismatch, TooLarge, BadProgram, Trapped, OutOfFuel, BadPath, OutOfMemory, Unkeyed}
use Rattle.vr_pipe.specs.Trees.{PipeTree, pipe_tree, programs_of}
use Rattle.vr_policy_check.specs.Checked.{pipeline_place}
use Rattle.vr_policy_check.specs.Rules.{CheckedData}
use Rattle.vr_files.specs.Changes.{Change, applied}
use Rattle.vr_files.specs.FileMaps.{FileMap}
use Rattle.vr_files.specs.declared.pages.TheConstants.{MOST_BYTES}
use Rattle.vr_policy_read.specs.declared.entries.Identity.{Identity}
use Rattle.vr_exec.specs.declared.outcome.Outcome.{Outcome}
use Rattle.vr_exec.specs.declared.outcome.Outcome.TheVariants as runs
use Rattle.vr_exec.specs.declared.starts.NotReady.{NotReady}
use Rattle.vr_exec.specs.declared.starts.NotReady.TheVariants as starts
use Rattle.vr_exec.specs.Outcomes.{PipelineComesTo}
use Rattle.vr_exec.specs.Starts.{ready_answer}
use Rattle.vr_core.specs.Quotas.{quota_fault, quotas_fault}

-- Where the machine begins: the policy, the hash of its file in 64 digits, the steps that all programs of a run may make
-- together, and the files.
pub record Origin : Type 0 where
  pub policy : CheckedData
  pub hash : List ℕ
  pub fuel : ℕ
  pub opening : FileMap

-- ---- the checks, each of which lets a value pass or has the reply of its failure

-- a value, or the reply of the check that fails
abbrev pub Checked : Type 0 → Type 0
Checked A = Result A Reply

-- the path that the name stands for
abbrev pub path_named : List ℕ → Checked (List ℕ)
path_named name = result_map_err BadPath (path_of name)

-- the identity at a place of the policy
abbrev pub identity_at : CheckedData → ℕ → Option Identity
identity_at policy place = slice_get policy.policy.identities place

-- the identity that calls
abbrev pub identity_of : CheckedData → ℕ → Checked Identity
identity_of policy who =
    or_fault Unkeyed (find (λ identity. identity.id == who) policy.policy.identities)

-- A pipeline that the policy lists: its place there, and what its text spells.
pub record Listed : Type 0 where
  pub place : ℕ
  pub pipe : PipeTree

-- the pipeline at a place of the policy
abbrev pub listed_at : CheckedData → ℕ → Option Listed
listed_at policy place =
    option_map (λ tree. record { place = place; pipe = pipe_tree tree })
    (slice_get policy.pipes place)

-- the pipeline with this id
abbrev pub pipeline_of : CheckedData → ℕ → Checked Listed
pipeline_of policy id =
    or_fault (NoSuchPipeline id)
    (option_and_then (listed_at policy) (pipeline_place policy.policy id))

-- nothing, where the identity has each needed right on the path; the refusal names the lowest that is missing
abbrev pub rights_check : Identity → List ℕ → ℕ → Checked (Unit {0})
rights_check identity path needed =
    unless_fault
    (option_map (λ right. Denied path right) (missing_right (word_on path identity.grants) needed))
    tt

-- nothing, where the identity may execute each of the programs; the refusal names the first that it may not
abbrev pub execute_check : Identity → List (List ℕ) → Checked (Unit {0})
execute_check identity [] = Ok tt
execute_check identity (path ∷ paths) =
    rights_check identity path execute_rights >> execute_check identity paths

-- the reply to a run that may not start
abbrev pub start_refusal : NotReady → Reply
start_refusal (starts.NoSuchFile path) = NoSuchFile path
start_refusal (starts.PinMissing path) = PinMissing path
start_refusal (starts.PinMismatch path found) = PinMismatch path found
start_refusal starts.OutOfMemory = OutOfMemory

-- nothing, where the program files and the pinned files are as they have to be for the run to start
abbrev pub start_check : CheckedData → PipeTree → FileMap → Checked (Unit {0})
start_check policy pipe files = result_map_err start_refusal (ready_answer policy pipe files)

-- the body of the file at the path
abbrev pub body_at : FileMap → List ℕ → Checked (List ℕ)
body_at files path = or_fault (NoSuchFile path) (get files path)

-- nothing, where a file may have this size
abbrev pub size_check : ℕ → Checked (Unit {0})
size_check size =
    unless_fault (fault_if (nat_lt MOST_BYTES size) (TooLarge (min size (2 ^ 64 - 1)))) tt

-- nothing, where the quota of a path's region lets the files become others
abbrev pub quota_check : CheckedData → FileMap → FileMap → List ℕ → Checked (Unit {0})
quota_check policy old new path = unless_fault (quota_fault policy old new path) tt

-- nothing, where the quota of each region does; the refusal is that of the first region, by their numbers, whose doesn't
abbrev pub quotas_check : CheckedData → FileMap → FileMap → Checked (Unit {0})
quotas_check policy old new = unless_fault (quotas_fault policy old new) tt

-- ---- what each call asks for

-- the path of a name on which the caller has the needed rights
abbrev pub path_for : CheckedData → ℕ → List ℕ → ℕ → Checked (List ℕ)
path_for policy who name needed = do
  path ← path_named name  -- first, so that a bad name is told to callers without a key too
  identity ← identity_of policy who
  rights_check identity path needed
  Ok path

-- the body that a read answers; the right is tested before the file, so that nobody learns what he may not read
abbrev pub body_for : Origin → FileMap → ℕ → List ℕ → Checked (List ℕ)
body_for origin files who name = do
  path ← path_for origin.policy who name read_rights
  body_at files path

-- the bytes at a path, none where there is no file
abbrev pub bytes_at : FileMap → List ℕ → List ℕ
bytes_at files path = unwrap_or (get files path) []

-- the files with a body kept at a path, where its size and the quota of its region let that be
abbrev pub files_with : Origin → FileMap → List ℕ → List ℕ → Checked FileMap
files_with origin files path body = do
  size_check (length body)
  quota_check origin.policy files (insert files path body) path
  Ok (insert files path body)

-- the place of the pipeline that the caller asks to run, where the run may be made; the rights are tested before the
-- files, so that nobody learns what is there
abbrev pub run_place : CheckedData → FileMap → ℕ → ℕ → Checked ℕ
run_place policy files who id = do
  identity ← identity_of policy who
  listed ← pipeline_of policy id
  execute_check identity (programs_of listed.pipe)
  start_check policy listed.pipe files
  Ok listed.place

-- ---- what a call comes to

-- What a call comes to: its reply, and the files after it.
pub record Effect : Type 0 where
  pub reply : Reply
  pub files : FileMap

abbrev pub effect : Reply → FileMap → Effect
effect reply files = record { reply = reply; files = files }

-- ---- calls whose step is computed

-- what the checks let pass; a refused call changes nothing
abbrev pub effect_of : FileMap → Checked Effect → Effect
effect_of files (Ok after) = after
effect_of files (Err refusal) = effect refusal files

-- a read
abbrev pub read_effect : Origin → FileMap → ℕ → List ℕ → Checked Effect
read_effect origin files who name = do
  body ← body_for origin files who name
  Ok (effect (Read body) files)

-- a write, which replaces the file or makes it
abbrev pub write_effect : Origin → FileMap → ℕ → List ℕ → List ℕ → Checked Effect
write_effect origin files who name body = do
  path ← path_for origin.policy who name write_rights
  after ← files_with origin files path body
  Ok (effect Stored after)

-- an append, which makes the file where there is none
abbrev pub append_effect : Origin → FileMap → ℕ → List ℕ → List ℕ → Checked Effect
append_effect origin files who name piece = do
  path ← path_for origin.policy who name append_rights
  after ← files_with origin files path (bytes_at files path ++ piece)
  Ok (effect Stored after)

-- a call for the policy's hash
abbrev pub hash_effect : Origin → FileMap → ℕ → Checked Effect
hash_effect origin files who = do
  identity_of origin.policy who
  Ok (effect (PolicyHash origin.hash) files)

-- ---- runs

-- a run that ended with a code keeps its changes, where the quotas of all regions let them be
abbrev pub ended_effect : CheckedData → FileMap → ℕ → List ℕ → List Change → Checked Effect
ended_effect policy files code out changes = do
  quotas_check policy files (applied files changes)
  Ok (effect (Ended code out) (applied files changes))

-- what the outcome of a run comes to; one that did not end with a code changes nothing
abbrev pub outcome_effect : CheckedData → FileMap → Outcome → Checked Effect
outcome_effect policy files (runs.Ended code out changes) =
    ended_effect policy files code out changes
outcome_effect policy files (runs.BadProgram path why) = Err (BadProgram path why)
outcome_effect policy files (runs.Trapped path kind) = Err (Trapped path kind)
outcome_effect policy files (runs.OutOfFuel path) = Err (OutOfFuel path)

-- The run of the pipeline at a place comes to this: an outcome of it does.
pub record IsRunEffect (origin : Origin) (files : FileMap) (place : ℕ)
    (next : Effect) : Type 0 where
  pub outcome : Outcome
  pub comes : PipelineComesTo origin.policy place files origin.fuel outcome
  pub next_is : next ≡ effect_of files (outcome_effect origin.policy files outcome)

-- what a run comes to whose checks let a place pass; a refused one changes nothing
abbrev pub IsRunStep : Origin → FileMap → Checked ℕ → Effect → Type 0
IsRunStep origin files (Ok place) next = IsRunEffect origin files place next
IsRunStep origin files (Err refusal) next = next ≡ effect refusal files

-- ---- one step

-- One step of the machine: what a call comes to.
abbrev pub IsStep : Origin → FileMap → ℕ → Call → Effect → Type 0
IsStep origin files who (calls.Read name) next =
    next ≡ effect_of files (read_effect origin files who name)
IsStep origin files who (calls.Write name body) next =
    next ≡ effect_of files (write_effect origin files who name body)
IsStep origin files who (calls.Append name piece) next =
    next ≡ effect_of files (append_effect origin files who name piece)
IsStep origin files who (calls.Run id) next =
    IsRunStep origin files (run_place origin.policy files who id) next
IsStep origin files who calls.Hash next = next ≡ effect_of files (hash_effect origin files who)

-- the files after a step of the machine
abbrev pub IsNextFiles : Origin → FileMap → ℕ → Call → FileMap → Type 0
IsNextFiles origin files who call after =
    (reply : Reply) × IsStep origin files who call (effect reply after)

-- ---- what a list of calls comes to

-- What a list of calls comes to: a reply to each, in order, and the files after the last.
pub record Replay : Type 0 where
  pub replies : List Reply
  pub files : FileMap

-- the replay of no calls
abbrev pub no_calls : FileMap → Replay
no_calls files = record { replies = []; files = files }

-- the replay with a reply before its own
abbrev pub after_reply : Reply → Replay → Replay
after_reply reply rest = record { replies = reply ∷ rest.replies; files = rest.files }

-- A list of calls, each with its identity, comes to this replay from these files on: one step after another.
abbrev pub Replays : Origin → FileMap → List (ℕ × Call) → Replay → Type 0
Replays origin files [] replay = replay ≡ no_calls files
Replays origin files (asked ∷ others) replay =
    (next : Effect) × IsStep origin files asked.0 asked.1 next
    × (rest : Replay) × Replays origin next.files others rest
    × (replay ≡ after_reply next.reply rest)
