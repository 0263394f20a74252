-- Which replies are the machine's, and which of the checks' refusals a reply of the code tells.
use Rattle.std.specs.Prelude.{◌≢◌, ℕ, Bool, true, false, Ok, Err}
use Rattle.vr_base.specs.Causes.{Rose}
use Rattle.vr_base.specs.Checks.{Told, nothing, exactly, never, GivesBy}
use Rattle.vr_base.specs.declared.calls.Reply.{Reply}
use Rattle.vr_base.specs.declared.calls.Reply.TheVariants.{Stored, Ended, Unavailable, OutOfMemory}
use Rattle.vr_files.specs.FileMaps.{FileMap}
use Rattle.vr_core.specs.Machine.{Checked, Effect, effect}

-- memory did not run out, so that the reply is the machine's
abbrev pub has_memory : Reply → Bool
has_memory OutOfMemory = false
has_memory _ = true

-- What a refusal of the code tells of the checks: nothing where memory ran out. No check asks the keeper, and none refuses
-- by the reply of what was done.
abbrev pub told : Reply → Told Reply
told OutOfMemory = nothing
told Unavailable = never
told Stored = never
told (Ended code out) = never
told refusal = exactly refusal

-- What was returned is what the checks let pass or refuse, unless memory ran out.
abbrev pub Gives : {A : Type 0} → Checked A → Checked A → Type 0
Gives result answer = GivesBy told result answer

-- a fact of what a refusal tells; where memory ran out there is none
abbrev pub IfRefused : Told Reply → (Reply → Type 0) → Type 0
IfRefused nothing P = Unit {0}
IfRefused (exactly refusal) P = P refusal
IfRefused never P = ⊥

-- What was returned is a step of the machine, where a refusal leaves these files, unless memory ran out.
abbrev pub GivesStep : (Effect → Type 0) → FileMap → Checked Effect → Type 0
GivesStep IsNext files (Ok next) = IsNext next
GivesStep IsNext files (Err refusal) =
    IfRefused (told refusal) (λ reply. IsNext (effect reply files))

-- a reply of a write or an append, or of a run, where it has changes
abbrev pub KeepsChanges : Reply → Type 0 → Type 0
KeepsChanges Stored has_changes = Unit {0}
KeepsChanges (Ended code out) has_changes = has_changes
KeepsChanges reply has_changes = ⊥

-- The keeper is asked before a call is answered so: for each write and append, and for a run that ended with other files.
abbrev pub IsKept : FileMap → Effect → Type 0
IsKept files next = KeepsChanges next.reply (next.files ≢ files)

-- Why a call is answered that the keeper failed: the machine changes files in it, for which the keeper was asked, and the
-- keeper's count of faults rose.
pub record IsUnkept (IsNext : Effect → Type 0) (files : FileMap) (before now : ℕ) : Type 0 where
  pub next : Effect
  pub is_next : IsNext next
  pub asked : IsKept files next
  pub rose : Rose before now
