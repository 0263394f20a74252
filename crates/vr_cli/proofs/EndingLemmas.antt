-- How a command ends, from what its parts returned.
use Rattle.std.proofs.Common.{◌≡◌, ℕ, List, [], Option, None, Some, Ok, Err, ◌⊎◌, inl, inr, refl, subst, ◌≤◌, arith}
use Rattle.std.specs.Prelude.{IfSome}
use Rattle.std.specs.Io.KnownBytes.{Keeps}
use Rattle.vr_base.proofs.Written.{AppendsPrefix-none}
use Rattle.vr_base.specs.Checks.{◌>>=◌}
use Rattle.vr_base.specs.Outside.{FolderCounts}
use Rattle.vr_cli.specs.Endings.{Gives, GivesOver, HasCount, HasReadCause, SaysOf, SaysOver, IsAtMostBegun, IsBeforeText, IsOutside, IsCaused, IsRefusal, EndsTask, Ends, NoneFell, around}
use Rattle.vr_cli.specs.FileWords.{BlamesOnly, IfAbsent, IsFileOf, IsPlaceOf}
use Rattle.vr_cli.specs.Outputs.{Tested, NamedFiles, in_file, origin_under, policy_from, script_in, Output, text, flows_under, replay_of, summary_under, files_for, output_of, usual_fuel}
use Rattle.vr_policy_check.specs.Rules.{CheckedData}
use Rattle.vr_policy_read.specs.Limits.{most_policy}
use Rattle.vr_generator.specs.Generator.{policy_text, script_text}
use Rattle.vr_report.specs.Script.{most_script}
use Rattle.vr_report.specs.declared.script.Line.{Line}
use Rattle.vr_words.specs.Grammar.{Task, make, replay}
use Rattle.vr_words.specs.Options.{Placed}
use Rattle.vr_cli.specs.declared.status.Status.{Status}
use Rattle.vr_cli.specs.declared.status.Status.TheVariants.{Usage, PolicyRefused, ScriptRefused, Absent, ReadFault, WriteFault, WantOfMemory, ListenFault, KeeperFault, KeysRefused, StoreRefused}
use Rattle.vr_cli.specs.declared.status.Status.TheVariants as statuses
use Rattle.vr_cli.proofs.FileLemmas.{blames_named, told_more}
use Rattle.vr_cli.proofs.ReplayLemmas.{replay_none}

Keeps-same : (o : Option (List ℕ)) → Keeps o o
Keeps-same None = tt
Keeps-same (Some bytes) = refl

-- a sink that was not touched
pub unchanged : (old new : Option (List ℕ)) → old ≡ new → Keeps old new
unchanged old new e = subst (λ (o : Option (List ℕ)). Keeps old o) e (Keeps-same old)

-- ---- a task that ended with a status

nothing_written : (o : Option (List ℕ)) (answer : Tested Output) → IsAtMostBegun answer o o
nothing_written o (Ok (text bytes)) = AppendsPrefix-none o bytes
nothing_written o (Ok (flows_under checked)) = Keeps-same o
nothing_written o (Ok (replay_of origin script)) = replay_none origin script o
nothing_written o (Ok (summary_under made origin script)) = Keeps-same o
nothing_written o (Err status) = Keeps-same o

-- memory ran out before anything was written
pub nothing_yet : (files : Option NamedFiles) (answer : NamedFiles → Tested Output) (o : Option (List ℕ)) → SaysOver files WantOfMemory answer o o
nothing_yet None answer o = tt
nothing_yet (Some fs) answer o = nothing_written o (answer fs)

-- what refuses a part of the text refuses the text
says_before : {A : Type 0} (status : Status) (part : Tested A) (rest : A → Tested Output) (o : Option (List ℕ)) → Gives {A = A} (Err status) part → SaysOf status (part >>= rest) o o
says_before statuses.Ok part rest o h = absurd h
says_before (Usage index) part rest o h = absurd h
says_before (PolicyRefused stage rule index) part rest o h = rw h refl
says_before (ScriptRefused line) part rest o h = rw h refl
says_before (Absent word) part rest o h = rw h refl
says_before ReadFault part rest o h = tt
says_before WriteFault part rest o h = absurd h
says_before WantOfMemory part rest o h = nothing_written o (part >>= rest)
says_before ListenFault part rest o h = absurd h
says_before KeeperFault part rest o h = absurd h
says_before (KeysRefused line) part rest o h = absurd h
says_before (StoreRefused row) part rest o h = absurd h

-- what refuses a part of an output refuses the output, where the files are told
pub part_says : {A : Type 0} (files : Option NamedFiles) (status : Status) (part : NamedFiles → Tested A) (rest : NamedFiles → A → Tested Output) (o : Option (List ℕ))
    → GivesOver {A = A} files (Err status) part → SaysOver files status (λ fs. part fs >>= rest fs) o o
part_says None status part rest o h = tt
part_says (Some fs) status part rest o h = says_before status (part fs) (rest fs) o h

-- a replay whose script is refused
pub script_says : (files : Option NamedFiles) (fuel : ℕ) (policy script : Placed) (said : CheckedData × List ℕ) (status : Status) (o : Option (List ℕ))
    → GivesOver files (Ok said) (in_file (policy_from most_policy) policy) → GivesOver {A = List Line} files (Err status) (in_file (script_in most_script) script)
    → SaysOver files status (output_of (replay fuel policy script)) o o
script_says None fuel policy script said status o h k = tt
script_says (Some fs) fuel policy script said status o h k =
    rw h (says_before status (in_file (script_in most_script) script fs) (λ calls. Ok (replay_of (origin_under fuel said.0 said.1) calls)) o k)

later_count : (status : Status) (old between new : FolderCounts) → old.absences ≤ between.absences → old.faults ≤ between.faults → HasCount between new status → HasCount old new status
later_count statuses.Ok old between new a f h = h
later_count (Usage index) old between new a f h = h
later_count (PolicyRefused stage rule index) old between new a f h = h
later_count (ScriptRefused line) old between new a f h = h
later_count (Absent word) old between new a f h = omega (arith, h)
later_count ReadFault old between new a f h = omega (arith, h)
later_count WriteFault old between new a f h = h
later_count WantOfMemory old between new a f h = h
later_count ListenFault old between new a f h = h
later_count KeeperFault old between new a f h = h
later_count (KeysRefused line) old between new a f h = h
later_count (StoreRefused row) old between new a f h = h

-- what came while files were read
pub counted_is_caused : {A : Type 0} (status : Status) (old new : FolderCounts) (before after : ℕ) → HasReadCause {A = A} old new (Err status) → IsCaused status old new before after
counted_is_caused statuses.Ok old new before after h = tt
counted_is_caused (Usage index) old new before after h = absurd h.counted
counted_is_caused (PolicyRefused stage rule index) old new before after h = tt
counted_is_caused (ScriptRefused line) old new before after h = tt
counted_is_caused (Absent word) old new before after h = h.counted
counted_is_caused ReadFault old new before after h = h.counted
counted_is_caused WriteFault old new before after h = absurd h.counted
counted_is_caused WantOfMemory old new before after h = tt
counted_is_caused ListenFault old new before after h = absurd h.counted
counted_is_caused KeeperFault old new before after h = absurd h.counted
counted_is_caused (KeysRefused line) old new before after h = absurd h.counted
counted_is_caused (StoreRefused row) old new before after h = absurd h.counted

-- a cause after other reads
pub later_cause : {A B : Type 0} (old between new : FolderCounts) (value : B) (result : Tested A) → HasReadCause {A = B} old between (Ok value) → HasReadCause between new result → HasReadCause old new result
later_cause old between new value (Ok x) h k = record { absences = omega (arith, h.absences, k.absences); faults = omega (arith, h.faults, k.faults); counted = tt }
later_cause old between new value (Err status) h k =
    record { absences = omega (arith, h.absences, k.absences); faults = omega (arith, h.faults, k.faults); counted = later_count status old between new h.absences h.faults k.counted }

-- reads leave no count lower, and the sink as it was
read_later : {A : Type 0} (old new : FolderCounts) (faults : ℕ) (result : Tested A) → HasReadCause {A = A} old new result → NoneFell old new faults faults
read_later old new faults result h = record { absences = h.absences; reads = h.faults; writes = omega arith }

-- counts that stay don't fall
pub none_fell : (counts : FolderCounts) (faults : ℕ) → NoneFell counts counts faults faults
none_fell counts faults = record { absences = omega arith; reads = omega arith; writes = omega arith }

-- ---- how a task ends

module _ (task : Task) (files after : Option NamedFiles) (old new : FolderCounts) (written : Option (List ℕ)) (faults : ℕ) where
  -- memory ran out before anything was written
  pub ends_starved : {A : Type 0} (value : A) → after ≡ files → HasReadCause {A = A} old new (Ok value)
      → EndsTask task WantOfMemory (around files old written faults) (around after new written faults)
  ends_starved value same cause = record {
    same = same;
    says = nothing_yet (files_for task files) (output_of task) written;
    caused = tt;
    later = read_later old new faults (Ok value) cause;
    quiet = λ quiet. absurd quiet;
    blamed = tt;
  }

  -- a file was not read, or what it says is refused
  pub ends_unread : {A : Type 0} (status : Status) (word : Placed) → after ≡ files → SaysOver (files_for task files) status (output_of task) written written
      → HasReadCause {A = A} old new (Err status) → IsFileOf task word → BlamesOnly word status
      → EndsTask task status (around files old written faults) (around after new written faults)
  ends_unread status word same says cause named blames = record {
    same = same;
    says = says;
    caused = counted_is_caused status old new faults faults cause;
    later = read_later old new faults (Err status) cause;
    quiet = λ _. Keeps-same written;
    blamed = blames_named status word (IsFileOf task) named blames;
  }

refusal_is_caused : (status : Status) (counts : FolderCounts) (faults : ℕ) → IsRefusal status → IsCaused status counts counts faults faults
refusal_is_caused (PolicyRefused stage rule index) counts faults h = tt
refusal_is_caused (ScriptRefused line) counts faults h = tt
refusal_is_caused WantOfMemory counts faults h = tt
refusal_is_caused status counts faults h = absurd h

blames_nobody : (status : Status) (Named : ℕ → Type 0) → IsRefusal status → IfAbsent status Named
blames_nobody (Absent word) Named h = absurd h
blames_nobody status Named h = tt

-- the made script is refused under the made policy
pub made_says : (count : ℕ) (status : Status) (said : CheckedData × List ℕ) (policy_bytes script_bytes : List ℕ) (o : Option (List ℕ)) → policy_bytes ≡ policy_text
    → script_bytes ≡ script_text count → policy_from most_policy policy_bytes ≡ Ok said → Gives {A = List Line} (Err status) (script_in most_script script_bytes)
    → SaysOf status (output_of (make count) []) o o
made_says count status said policy_bytes script_bytes o is_policy is_script read refused =
    let policy : policy_from most_policy policy_text ≡ Ok said = subst (λ (bytes : List ℕ). policy_from most_policy bytes ≡ Ok said) is_policy read in
    let script = subst (λ (bytes : List ℕ). Gives {A = List Line} (Err status) (script_in most_script bytes)) is_script refused in
    rw policy (says_before status (script_in most_script (script_text count)) (λ calls. Ok (summary_under count (origin_under usual_fuel said.0 said.1) calls)) o script)

-- a text that was made is refused
pub ends_refused : (count : ℕ) (status : Status) (files : Option NamedFiles) (counts : FolderCounts) (written : Option (List ℕ)) (faults : ℕ) → IsRefusal status
    → SaysOf status (output_of (make count) []) written written → EndsTask (make count) status (around files counts written faults) (around files counts written faults)
ends_refused count status files counts written faults refusal says = record {
  same = refl;
  says = says;
  caused = refusal_is_caused status counts faults refusal;
  later = none_fell counts faults;
  quiet = λ _. Keeps-same written;
  blamed = blames_nobody status (IsPlaceOf (IsFileOf (make count))) refusal;
}

-- ---- what each status of a command says

module _ (answer : Tested Output) (status : Status) (old new : Option (List ℕ)) (h : SaysOf status answer old new) where
  says_as : (named : Status) → status ≡ named → SaysOf named answer old new
  says_as named e = subst (λ (s : Status). SaysOf s answer old new) e h

says_refused : (status refusal : Status) (answer : Tested Output) (old new : Option (List ℕ)) → SaysOf status answer old new → answer ≡ Err refusal → (status ≡ refusal) ⊎ IsBeforeText status
says_refused statuses.Ok refusal answer old new h e = absurd (rw e at h)
says_refused (Usage index) refusal answer old new h e = absurd h
says_refused (PolicyRefused stage rule index) refusal answer old new h e = inl (cc (h, e))
says_refused (ScriptRefused line) refusal answer old new h e = inl (cc (h, e))
says_refused (Absent word) refusal answer old new h e = inl (cc (h, e))
says_refused ReadFault refusal answer old new h e = inr tt
says_refused WriteFault refusal answer old new h e = absurd (rw e at h)
says_refused WantOfMemory refusal answer old new h e = inr tt
says_refused ListenFault refusal answer old new h e = inl (cc (h, e))
says_refused KeeperFault refusal answer old new h e = inl (cc (h, e))
says_refused (KeysRefused line) refusal answer old new h e = inl (cc (h, e))
says_refused (StoreRefused row) refusal answer old new h e = inl (cc (h, e))

says_complete : (status : Status) (output : Output) (answer : Tested Output) (old new : Option (List ℕ)) → SaysOf status answer old new → answer ≡ Ok output → (status ≡ statuses.Ok) ⊎ IsOutside status
says_complete statuses.Ok output answer old new h e = inl refl
says_complete (Usage index) output answer old new h e = absurd h
says_complete (PolicyRefused stage rule index) output answer old new h e = cc (h, e)
says_complete (ScriptRefused line) output answer old new h e = cc (h, e)
says_complete (Absent word) output answer old new h e = cc (h, e)
says_complete ReadFault output answer old new h e = inr tt
says_complete WriteFault output answer old new h e = inr tt
says_complete WantOfMemory output answer old new h e = inr tt
says_complete ListenFault output answer old new h e = cc (h, e)
says_complete KeeperFault output answer old new h e = cc (h, e)
says_complete (KeysRefused line) output answer old new h e = cc (h, e)
says_complete (StoreRefused row) output answer old new h e = cc (h, e)

ends : (answer : Tested Output) (status : Status) (old new : Option (List ℕ)) → SaysOf status answer old new → Ends answer status old new
ends answer status old new h = record {
  done = says_as answer status old new h statuses.Ok;
  policy_refused = λ stage rule index. says_as answer status old new h (PolicyRefused stage rule index);
  script_refused = λ line. says_as answer status old new h (ScriptRefused line);
  not_there = λ word. says_as answer status old new h (Absent word);
  refused = λ refusal. says_refused status refusal answer old new h;
  complete = λ output. says_complete status output answer old new h;
  cut_off = says_as answer status old new h WriteFault;
  out_of_memory = says_as answer status old new h WantOfMemory;
}

pub ends_over : (files : Option NamedFiles) (answer : NamedFiles → Tested Output) (status : Status) (old new : Option (List ℕ)) → SaysOver files status answer old new
    → IfSome files (λ fs. Ends (answer fs) status old new)
ends_over files answer status old new h =
    told_more files (λ fs. SaysOf status (answer fs) old new) (λ fs. Ends (answer fs) status old new) (λ fs. ends (answer fs) status old new) h

-- a status that has a cause is none of the words
pub never_usage : (status : Status) (old new : FolderCounts) (before after : ℕ) → IsCaused status old new before after → (place : ℕ) → status ≡ Usage place → ⊥
never_usage status old new before after h place e = subst (λ (s : Status). IsCaused s old new before after) e h
