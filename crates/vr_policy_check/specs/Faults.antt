-- The faults of the rules on a policy, and what an error of a call that
-- checks one tells of the answer.
use Rattle.std.specs.Prelude.{ℕ, Result}
use Rattle.vr_base.specs.Checks.{Told, nothing, exactly, GivesBy}
use Rattle.vr_policy_check.specs.declared.faults.CheckKind.{CheckKind}
use Rattle.vr_policy_check.specs.declared.faults.CheckKind.TheVariants.{NoIdentity, SameIdentity, SameProgram, SamePipeline, SamePin, GrantTwice, DirectoryAsProgram, PipeRefused, UnlistedProgram, OutOfMemory}
use Rattle.vr_policy_check.specs.declared.faults.CheckFault.{CheckFault}

-- a rule that fails at an index
abbrev pub fault_at : CheckKind → ℕ → CheckFault
fault_at kind at = record { kind = kind; at = at }

-- what a fault of a kind tells: itself, and nothing where memory ran out
abbrev pub told_by_kind : {F : Type 0} → CheckKind → F → Told F
told_by_kind OutOfMemory fault = nothing
told_by_kind kind fault = exactly fault

-- what a fault of the code tells of the policy
abbrev pub told : CheckFault → Told CheckFault
told fault = told_by_kind fault.kind fault

-- What was returned is the answer, unless memory ran out.
abbrev pub Gives : {A : Type 0} → Result A CheckFault → Result A CheckFault → Type 0
Gives result answer = GivesBy told result answer

-- the number of a rule in reports; of memory that ran out 0
abbrev pub kind_number : CheckKind → ℕ
kind_number NoIdentity = 1
kind_number SameIdentity = 2
kind_number SameProgram = 3
kind_number SamePipeline = 4
kind_number SamePin = 5
kind_number GrantTwice = 6
kind_number DirectoryAsProgram = 7
kind_number (PipeRefused fault) = 8
kind_number UnlistedProgram = 9
kind_number OutOfMemory = 0
