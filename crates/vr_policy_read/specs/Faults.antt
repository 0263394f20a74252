-- The faults of a policy file, and what an error of a call that reads one tells of the answer.
use Rattle.std.specs.Prelude.{ℕ, Result}
use Rattle.vr_base.specs.Checks.{Told, nothing, exactly, GivesBy, result_map_err}
use Rattle.vr_base.specs.declared.names.PathFault.{PathFault}
use Rattle.vr_base.specs.declared.names.PathFault.TheVariants as names
use Rattle.vr_policy_read.specs.declared.faults.ReadKind.{ReadKind}
use Rattle.vr_policy_read.specs.declared.faults.ReadKind.TheVariants.{TooLong, NotJson, Missing, WrongKind, BadName, BadRights, BadHash, TooMany, OutOfMemory}
use Rattle.vr_policy_read.specs.declared.faults.ReadFault.{ReadFault}

-- a fault of this kind at this index
abbrev pub fault_at : ReadKind → ℕ → ReadFault
fault_at kind at = record { kind = kind; at = at }

-- the answer, with its fault at this index
abbrev pub answer_at : {A : Type 0} → ℕ → Result A ReadKind → Result A ReadFault
answer_at at answer = result_map_err (λ kind. fault_at kind at) answer

-- the answer, with its fault's kind alone
abbrev pub kind_answer : {A : Type 0} → Result A ReadFault → Result A ReadKind
kind_answer answer = result_map_err (λ fault. fault.kind) answer

-- what a fault of a kind tells: itself, and nothing where memory ran out
abbrev pub told : {F : Type 0} → ReadKind → F → Told F
told OutOfMemory fault = nothing
told kind fault = exactly fault

-- What was returned is the answer, unless memory ran out.
abbrev pub Gives : {A : Type 0} → Result A ReadFault → Result A ReadFault → Type 0
Gives result answer = GivesBy (λ fault. told fault.kind fault) result answer

-- The same of an answer whose fault has no index.
abbrev pub GivesKind : {A : Type 0} → Result A ReadKind → Result A ReadKind → Type 0
GivesKind result answer = GivesBy (λ kind. told kind kind) result answer

-- the kind for a fault of a name
abbrev pub kind_of_name_fault : PathFault → ReadKind
kind_of_name_fault names.OutOfMemory = OutOfMemory
kind_of_name_fault _ = BadName

-- the number of a kind in reports; of memory that ran out 0
abbrev pub kind_number : ReadKind → ℕ
kind_number TooLong = 1
kind_number NotJson = 2
kind_number (Missing member) = 3
kind_number (WrongKind member) = 4
kind_number BadName = 5
kind_number BadRights = 6
kind_number BadHash = 7
kind_number (TooMany member) = 8
kind_number OutOfMemory = 0
