-- Answers that stop at the first check which fails, and what a call's result tells of the
-- answer that a definition gives.
use Rattle.std.specs.Prelude.{◌≡◌, Bool, true, false, Option, Some, None, Result, Ok, Err}
use Rattle.std.specs.Borrow.{Bor}

-- the second check goes on from what the first one let pass; `do` chains them line by line
infixl 10 ◌>>=◌
abbrev pub ◌>>=◌ : {A B E : Type 0} → Result A E → (A → Result B E) → Result B E
(Ok x) >>= f = f x
(Err e) >>= f = Err e

-- a check whose value isn't needed, and what comes after it
infixl 10 ◌>>◌
abbrev pub ◌>>◌ : {A B E : Type 0} → Result A E → Result B E → Result B E
(Ok x) >> rest = rest
(Err e) >> rest = Err e

-- the value that is there, or the fault of its absence
abbrev pub or_fault : {A E : Type 0} → E → Option A → Result A E
or_fault fault None = Err fault
or_fault fault (Some x) = Ok x

-- the value, unless there is a fault
abbrev pub unless_fault : {A E : Type 0} → Option E → A → Result A E
unless_fault None value = Ok value
unless_fault (Some fault) value = Err fault

-- the fault, where the test finds it
abbrev pub fault_if : {E : Type 0} → Bool → E → Option E
fault_if true fault = Some fault
fault_if false fault = None

-- the answer with another value
abbrev pub result_map : {A B E : Type 0} → (A → B) → Result A E → Result B E
result_map f (Ok x) = Ok (f x)
result_map f (Err e) = Err e

-- the answer with another fault
abbrev pub result_map_err : {A E F : Type 0} → (E → F) → Result A E → Result A F
result_map_err f (Ok x) = Ok x
result_map_err f (Err e) = Err (f e)

-- What an error of the code tells of the definition's answer.
pub data Told (F : Type 0) : Type 0 where
  -- nothing: memory ran out, or the outside failed
  nothing : Told F
  -- the answer is this fault
  exactly : F → Told F
  -- the call has no such error
  never : Told F

abbrev pub Tells : {A F : Type 0} → Told F → Result A F → Type 0
Tells nothing answer = Unit {0}
Tells (exactly fault) answer = answer ≡ Err fault
Tells never answer = ⊥

-- A call returned the answer, or an error that tells of it.
abbrev pub GivesBy : {A E F : Type 0} → (E → Told F) → Result A E → Result A F → Type 0
GivesBy told (Ok x) answer = answer ≡ Ok x
GivesBy told (Err e) answer = Tells (told e) answer

-- what a call returned, with the value in place of a reference to it
abbrev pub value_of : {A E : Type 0} → Result (Bor A) E → Result A E
value_of result = result_map (λ x. x.now) result
