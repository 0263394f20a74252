-- The checks of a call, in the order written: each lets a value pass or has the error number of its
-- failure.
use Rattle.std.specs.Prelude.{◌≡◌, Bool, Result, Ok, Err}
use Rattle.vr_base.specs.Checks.{unless_fault, fault_if, Told, nothing, exactly, Tells, GivesBy}
use Rattle.vr_wasi_calls.specs.declared.errno.Errno.{Errno}
use Rattle.vr_wasi_calls.specs.declared.errno.Refusal.{Refusal}
use Rattle.vr_wasi_calls.specs.declared.errno.Refusal.TheVariants.{Check, NoMemory}
pub use Rattle.vr_base.specs.Checks.{◌>>=◌, ◌>>◌, or_fault}

-- a value, or the error number of the check that fails
abbrev pub Checked : Type 0 → Type 0
Checked A = Result A Errno

-- nothing, unless the test finds the fault
abbrev pub refuse_if : Bool → Errno → Checked (Unit {0})
refuse_if test errno = unless_fault (fault_if test errno) tt

-- ---- what the code tells of a check

-- what a refusal tells of the answer
abbrev pub told : Refusal → Told Errno
told (Check errno) = exactly errno
told NoMemory = nothing

-- A call returned the answer, or memory ran out.
abbrev pub Gives : {A : Type 0} → Result A Refusal → Checked A → Type 0
Gives result answer = GivesBy told result answer

-- A check that wants no memory returned the answer.
abbrev pub Finds : {A : Type 0} → Result A Errno → Checked A → Type 0
Finds result answer = GivesBy exactly result answer

-- A call changed a value to the answer. Where it was refused the value is as before, and memory ran
-- out or the error number is the answer's.
abbrev pub Becomes : {A : Type 0} → A → A → Result (Unit {0}) Refusal → Checked A → Type 0
Becomes old new (Ok done) answer = answer ≡ Ok new
Becomes old new (Err refusal) answer = Tells (told refusal) answer × (new ≡ old)
