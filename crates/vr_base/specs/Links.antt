-- Connections as a listener hands them out and takes them back.
use Rattle.std.specs.Prelude.{◌≡◌, ℕ, ◌+◌, ◌-◌, ◌^◌, ◌<◌, List, [], ◌∷◌, ◌++◌, Option, Some, IfSome, Result, MatchResult}

-- What is told of a connection that was given back: all its input, what was written on
-- it, and how often it failed.
pub record EndedLink : Type 0 where
  pub input : List ℕ
  pub written : List ℕ
  pub faults : ℕ

-- A connection that tells its input has it whole before it, nothing written, and no fault.
abbrev pub IsFresh : Option (List ℕ) → Option (List ℕ) → Option (List ℕ) → ℕ → Type 0
IsFresh input left written faults =
    IfSome input (λ bytes. (left ≡ Some bytes) × (written ≡ Some []) × (faults ≡ 0))

-- One more was handed out with Ok, and none with a fault; past the last
-- number each call is a fault.
abbrev pub IsHandedOut : {C E : Type 0} → ℕ → ℕ → Result C E → Type 0
IsHandedOut old new result =
    MatchResult result (λ _. (old < 2 ^ 64 - 1) × (new ≡ old + 1)) (λ _. new ≡ old)

-- The list has one connection more, which tells its input and what was written on it.
pub record Adds (old : Option (List EndedLink)) (list : List EndedLink)
    (input written : Option (List ℕ)) (faults : ℕ) : Type 0 where
  pub before : List EndedLink
  pub last : EndedLink
  pub told : old ≡ Some before
  pub grown : list ≡ before ++ last ∷ []
  pub input_told : input ≡ Some last.input
  pub written_told : written ≡ Some last.written
  pub faults_told : faults ≡ last.faults

-- A list that is still told after a connection was given back has it as its last; a
-- list that isn't told stays so.
abbrev pub IsGivenBack : Option (List EndedLink) → Option (List EndedLink)
    → Option (List ℕ) → Option (List ℕ) → ℕ → Type 0
IsGivenBack old new input written faults = IfSome new (λ list. Adds old list input written faults)
