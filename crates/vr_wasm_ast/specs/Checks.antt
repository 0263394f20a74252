-- Answers that stop at the first fault, and what a call's result tells of the
-- answer that a definition gives.
use Rattle.std.specs.Prelude.{◌≡◌, Result, Ok, Err}
use Rattle.std.specs.Borrow.{Bor}

-- goes on from the value, or stops at the fault
infixl 10 ◌>>=◌
abbrev pub ◌>>=◌ : {A B E : Type 0} → Result A E → (A → Result B E) → Result B E
(Ok x) >>= f = f x
(Err e) >>= f = Err e

-- the answer with another value
abbrev pub result_map : {A B E : Type 0} → (A → B) → Result A E → Result B E
result_map f (Ok x) = Ok (f x)
result_map f (Err e) = Err e

-- what an error of the code tells of the definition's answer
pub data Told (F : Type 0) : Type 0 where
  -- nothing: memory ran out
  nothing : Told F
  -- the answer is this fault
  exactly : F → Told F
  -- the call has no such error
  never : Told F

abbrev pub Tells : {A F : Type 0} → Told F → Result A F → Type 0
Tells nothing answer = Unit {0}
Tells (exactly fault) answer = answer ≡ Err fault
Tells never answer = ⊥

-- a call returned the answer, or an error that tells of it
abbrev pub GivesBy : {A E F : Type 0} → (E → Told F) → Result A E → Result A F → Type 0
GivesBy told (Ok x) answer = answer ≡ Ok x
GivesBy told (Err e) answer = Tells (told e) answer

-- what a call returned, with the value in place of a reference to it
abbrev pub value_of : {A E : Type 0} → Result (Bor A) E → Result A E
value_of result = result_map (λ x. x.now) result
