-- How a command ends: what each status says of the text that was to be written, and what made it.
use Rattle.std.specs.Prelude.{◌≡◌, ◌⊎◌, ℕ, ◌≤◌, List, Option, Result, Ok, Err, IfErr, IfSome, MatchResult}
use Rattle.std.specs.Io.KnownBytes.{Appends, Keeps}
use Rattle.vr_base.specs.Causes.{Rose}
use Rattle.vr_base.specs.Checks.{Told, nothing, exactly, never, GivesBy}
use Rattle.vr_base.specs.Outside.{FolderCounts, AppendsPrefix}
use Rattle.vr_report.specs.Flows.{IsFlowText}
use Rattle.vr_words.specs.Grammar.{Task}
use Rattle.vr_cli.specs.FileWords.{IfAbsent, IsFileOf, IsPlaceOf}
use Rattle.vr_cli.specs.Gathering.{PutsOne, PutsPrefixOfOne}
use Rattle.vr_cli.specs.Outputs.{Tested, NamedFiles, Output, text, flows_under, replay_of, summary_under, files_for, output_of}
use Rattle.vr_cli.specs.Replays.{IsReplaySoFar, IsReplayText}
use Rattle.vr_cli.specs.Statuses.{exit_code}
use Rattle.vr_cli.specs.Summaries.{IsSummary}
use Rattle.vr_cli.specs.declared.status.Status.{Status}
use Rattle.vr_cli.specs.declared.status.Status.TheVariants.{Usage, PolicyRefused, ScriptRefused, Absent, ReadFault, WriteFault, WantOfMemory, ListenFault, KeeperFault, KeysRefused, StoreRefused}
use Rattle.vr_cli.specs.declared.status.Status.TheVariants as statuses

-- ---- while files are read

-- what a status tells of the answer: a refusal is the answer, and the outside and want of memory tell nothing
abbrev pub told : Status → Told Status
told ReadFault = nothing
told WantOfMemory = nothing
told (Absent word) = exactly (Absent word)
told (PolicyRefused stage rule index) = exactly (PolicyRefused stage rule index)
told (ScriptRefused line) = exactly (ScriptRefused line)
told status = never

-- What was returned is the answer, unless a read failed or memory ran out.
abbrev pub Gives : {A : Type 0} → Tested A → Tested A → Type 0
Gives result answer = GivesBy told result answer

-- Where the folder tells its files, what was returned is the answer over them.
abbrev pub GivesOver : {A : Type 0}
    → Option NamedFiles → Tested A → (NamedFiles → Tested A) → Type 0
GivesOver files result answer = IfSome files (λ fs. Gives result (answer fs))

-- of a status while files are read: an absent file and a failed read come only where their count rose
abbrev pub HasCount : FolderCounts → FolderCounts → Status → Type 0
HasCount old new (Absent word) = Rose old.absences new.absences
HasCount old new ReadFault = Rose old.faults new.faults
HasCount old new WriteFault = ⊥
HasCount old new (Usage index) = ⊥
HasCount old new ListenFault = ⊥
HasCount old new KeeperFault = ⊥
HasCount old new (KeysRefused line) = ⊥
HasCount old new (StoreRefused row) = ⊥
HasCount old new status = Unit {0}

-- No count of the folder fell, and an absent file and a failed read were answered only where theirs rose.
pub record HasReadCause {A : Type 0} (old new : FolderCounts) (result : Tested A) : Type 0 where
  pub absences : old.absences ≤ new.absences
  pub faults : old.faults ≤ new.faults
  pub counted : IfErr result (HasCount old new)

-- what was read is refused, or memory ran out
abbrev pub IsRefusal : Status → Type 0
IsRefusal (PolicyRefused stage rule index) = Unit {0}
IsRefusal (ScriptRefused line) = Unit {0}
IsRefusal WantOfMemory = Unit {0}
IsRefusal status = ⊥

-- ---- while a command runs

-- what may come in place of a refusal: a read failed, or memory ran out
abbrev pub IsBeforeText : Status → Type 0
IsBeforeText ReadFault = Unit {0}
IsBeforeText WantOfMemory = Unit {0}
IsBeforeText status = ⊥

-- what may come in place of a text: a read or a write failed, or memory ran out
abbrev pub IsOutside : Status → Type 0
IsOutside WriteFault = Unit {0}
IsOutside status = IsBeforeText status

-- a status with which nothing is written: what was asked for is refused, or a file could not be read
abbrev pub IsQuiet : Status → Type 0
IsQuiet statuses.Ok = ⊥
IsQuiet WriteFault = ⊥
IsQuiet WantOfMemory = ⊥
IsQuiet status = Unit {0}

-- all of an output was written
abbrev pub PutsAll : Option (List ℕ) → Option (List ℕ) → Output → Type 0
PutsAll old new (text bytes) = Appends old new bytes
PutsAll old new (flows_under checked) = PutsOne old new (IsFlowText checked)
PutsAll old new (replay_of origin script) = PutsOne old new (IsReplayText origin script)
PutsAll old new (summary_under made origin script) =
    PutsOne old new (IsSummary made origin script)

-- A prefix of an output was written; of a replay that was cut off, of what the calls came to that were made.
abbrev pub PutsPrefix : Option (List ℕ) → Option (List ℕ) → Output → Type 0
PutsPrefix old new (text bytes) = AppendsPrefix old new bytes
PutsPrefix old new (flows_under checked) = PutsPrefixOfOne old new (IsFlowText checked)
PutsPrefix old new (replay_of origin script) = PutsPrefixOfOne old new (IsReplaySoFar origin script)
PutsPrefix old new (summary_under made origin script) =
    PutsPrefixOfOne old new (IsSummary made origin script)

-- a prefix of an output was written before memory ran out, and of flows and a summary nothing
abbrev pub PutsSome : Option (List ℕ) → Option (List ℕ) → Output → Type 0
PutsSome old new (flows_under checked) = Keeps old new
PutsSome old new (summary_under made origin script) = Keeps old new
PutsSome old new output = PutsPrefix old new output

-- the answer is an output, and all of it was written
abbrev pub IsWritten : Tested Output → Option (List ℕ) → Option (List ℕ) → Type 0
IsWritten answer old new = MatchResult answer (PutsAll old new) (λ _. ⊥)

-- the answer is an output, and a prefix of it was written
abbrev pub IsCut : Tested Output → Option (List ℕ) → Option (List ℕ) → Type 0
IsCut answer old new = MatchResult answer (PutsPrefix old new) (λ _. ⊥)

-- of an answer that is an output a prefix was written, and of a refusal nothing
abbrev pub IsAtMostBegun : Tested Output → Option (List ℕ) → Option (List ℕ) → Type 0
IsAtMostBegun answer old new = MatchResult answer (PutsSome old new) (λ _. Keeps old new)

-- what a status says of the answer and of what was written; the words are accepted
abbrev pub SaysOf : Status → Tested Output → Option (List ℕ) → Option (List ℕ) → Type 0
SaysOf statuses.Ok answer old new = IsWritten answer old new
SaysOf WriteFault answer old new = IsCut answer old new
SaysOf WantOfMemory answer old new = IsAtMostBegun answer old new
SaysOf ReadFault answer old new = Unit {0}
SaysOf (Usage index) answer old new = ⊥
SaysOf refusal answer old new = answer ≡ Err refusal

-- where the folder tells its files, what a status says of the answer over them
abbrev pub SaysOver : Option NamedFiles → Status → (NamedFiles → Tested Output)
    → Option (List ℕ) → Option (List ℕ) → Type 0
SaysOver files status answer old new = IfSome files (λ fs. SaysOf status (answer fs) old new)

-- what the outside makes comes only where its count rose; the words are accepted
abbrev pub IsCaused : Status → FolderCounts → FolderCounts → ℕ → ℕ → Type 0
IsCaused (Usage index) old new before after = ⊥
IsCaused WriteFault old new before after = Rose before after
IsCaused status old new before after = HasCount old new status

-- Neither a count of the folder nor the sink's count of faults fell.
pub record NoneFell (old new : FolderCounts) (before after : ℕ) : Type 0 where
  pub absences : old.absences ≤ new.absences
  pub reads : old.faults ≤ new.faults
  pub writes : before ≤ after

-- the status of what ended so
abbrev pub status_of : Result (Unit {0}) Status → Status
status_of (Ok _) = statuses.Ok
status_of (Err status) = status

-- ---- how a task ends

-- What surrounds a task, as far as it is told: the folder's files and its counts, and the sink's bytes and its faults.
pub record Surroundings : Type 0 where
  pub files : Option NamedFiles
  pub counts : FolderCounts
  pub written : Option (List ℕ)
  pub faults : ℕ

-- these surroundings
abbrev pub around : Option NamedFiles → FolderCounts → Option (List ℕ) → ℕ → Surroundings
around files counts written faults =
    record { files = files; counts = counts; written = written; faults = faults }

-- How a task ended, by what surrounds it before and after.
pub record EndsTask (task : Task) (status : Status) (old new : Surroundings) : Type 0 where
  -- the files of the folder stay
  pub same : new.files ≡ old.files
  -- what the status says of the task's output over the files, and of what was written
  pub says : SaysOver (files_for task old.files) status (output_of task) old.written new.written
  -- what the outside makes comes only where its count rose
  pub caused : IsCaused status old.counts new.counts old.faults new.faults
  -- and no count fell
  pub later : NoneFell old.counts new.counts old.faults new.faults
  -- a refusal and a fault of reading leave the sink as it was, whether the folder tells its files or not
  pub quiet : IsQuiet status → Keeps old.written new.written
  -- a file that isn't there is one that a word of the task names
  pub blamed : IfAbsent status (IsPlaceOf (IsFileOf task))

-- ---- how a command ends

-- How a command ended whose output, or refusal, is the answer, where a sink had the old bytes and has the new ones.
pub record Ends
    (answer : Tested Output) (status : Status) (old new : Option (List ℕ)) : Type 0 where
  -- at Ok the whole text was written
  pub done : status ≡ statuses.Ok → IsWritten answer old new
  -- a refusal is the answer
  pub policy_refused : (stage rule index : ℕ) → status ≡ PolicyRefused stage rule index
      → answer ≡ Err (PolicyRefused stage rule index)
  pub script_refused : (line : ℕ) → status ≡ ScriptRefused line → answer ≡ Err (ScriptRefused line)
  pub not_there : (word : ℕ) → status ≡ Absent word → answer ≡ Err (Absent word)
  -- an answer that is a refusal is the status, unless a read failed or memory ran out
  pub refused : (refusal : Status) → answer ≡ Err refusal → (status ≡ refusal) ⊎ IsBeforeText status
  -- an output is written whole, unless the outside failed or memory ran out
  pub complete : (output : Output) → answer ≡ Ok output → (status ≡ statuses.Ok) ⊎ IsOutside status
  -- a write fails only where the answer is an output, and a prefix of it was written
  pub cut_off : status ≡ WriteFault → IsCut answer old new
  -- where memory ran out a prefix of the output was written, and of a refusal, of flows and of a summary nothing
  pub out_of_memory : status ≡ WantOfMemory → IsAtMostBegun answer old new

-- What made the status of a command, by the folder's counts and the sink's count of faults, each before and after.
pub record HasCauses (status : Status) (old new : FolderCounts) (before after : ℕ) : Type 0 where
  -- no count fell, whatever the status
  pub later : NoneFell old new before after
  -- a file was not there
  pub absent : (word : ℕ) → status ≡ Absent word → Rose old.absences new.absences
  -- a read failed
  pub read_fault : status ≡ ReadFault → Rose old.faults new.faults
  -- a write failed
  pub write_fault : status ≡ WriteFault → Rose before after
  -- it is none of the statuses of a server
  pub code : exit_code status ≤ 7
