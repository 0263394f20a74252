-- The first fault of a text.
use Rattle.std.specs.Prelude.{◌≡◌, ℕ, ◌≤◌, ◌-◌, ◌^◌, min, List, [], ◌∷◌, ◌++◌, length, All, ◌⊎◌, Result}
use Rattle.vr_base.specs.Checks.{Told, nothing, exactly, never, GivesBy}
use Rattle.vr_pipe.specs.declared.faults.PipeFault.{PipeFault}
use Rattle.vr_pipe.specs.declared.faults.PipeFault.TheVariants.{Word, Expected, TooDeep, TooMany, OutOfMemory}
use Rattle.vr_pipe.specs.Trees.{PipeTree}
use Rattle.vr_pipe.specs.Pieces.{Piece, pieces_at, without_offsets, IsPathWord, programs_in, ifs_in}
use Rattle.vr_pipe.specs.Grammar.{IsSequence, most_programs, most_ifs}

-- an offset, or the greatest number of 32 bits where it is greater
abbrev pub capped : ℕ → ℕ
capped at = min at (2 ^ 32 - 1)

-- the pieces are a whole pipeline's, whatever its words and limits
abbrev pub IsWhole : List Piece → Type 0
IsWhole ps = (e : PipeTree) × IsSequence e ps []

-- some pipeline begins with the pieces
abbrev pub IsPrefix : List Piece → Type 0
IsPrefix ps = (more : List Piece) × IsWhole (ps ++ more)

-- there are no more program places and ifs than there may be
pub record IsWithin (ps : List Piece) : Type 0 where
  pub programs : length (programs_in ps) ≤ most_programs
  pub ifs : ifs_in ps ≤ most_ifs

-- nothing is wrong with the first pieces
pub record IsFine (ps : List Piece) : Type 0 where
  pub prefix : IsPrefix ps
  pub words : All IsPathWord ps
  pub within : IsWithin ps

-- What is wrong with a piece at an offset, after pieces with nothing wrong: no pipeline goes on
-- with it; else it is a word and no path; else it is one more program place or if than there may
-- be. Braces that nest too deep come between these two by their order, and are never the first
-- fault: each level has an if of its own, so the 65th if stands before the 65th level.
abbrev pub IsWrong : PipeFault → List Piece → ℕ → Piece → Type 0
IsWrong (Expected n) before at p = (n ≡ capped at) × (IsPrefix (before ++ p ∷ []) → ⊥)
IsWrong (Word n) before at p = (n ≡ capped at) × IsPrefix (before ++ p ∷ []) × (IsPathWord p → ⊥)
IsWrong (TooMany n) before at p =
    (n ≡ capped at) × IsPrefix (before ++ p ∷ []) × IsPathWord p × (IsWithin (before ++ p ∷ []) → ⊥)
IsWrong (TooDeep n) before at p = ⊥
IsWrong OutOfMemory before at p = ⊥

-- The first piece with which something is wrong has this fault.
pub record StopsAt (all : List (ℕ × Piece)) (fault : PipeFault) (at : ℕ) (p : Piece)
    (before after : List (ℕ × Piece)) : Type 0 where
  pub whole : all ≡ before ++ (at, p) ∷ after
  pub fine : IsFine (without_offsets before)
  pub wrong : IsWrong fault (without_offsets before) at p

-- The text ends too early: nothing is wrong with its pieces, but they are no whole pipeline's.
pub record EndsEarly (length : ℕ) (all : List (ℕ × Piece)) (fault : PipeFault) : Type 0 where
  pub fault_is : fault ≡ Expected (capped length)
  pub fine : IsFine (without_offsets all)
  pub early : IsWhole (without_offsets all) → ⊥

-- the first fault of a text of a length with these pieces
abbrev pub HasFaultIn : ℕ → List (ℕ × Piece) → PipeFault → Type 0
HasFaultIn length all fault =
    ((at : ℕ) × (p : Piece) × (before : List (ℕ × Piece)) × (after : List (ℕ × Piece))
    × StopsAt all fault at p before after)
    ⊎ EndsEarly length all fault

-- the first fault of a text: the one with the least offset, and at one offset the
-- first by the order of its kind
abbrev pub HasFault : List ℕ → PipeFault → Type 0
HasFault text fault = HasFaultIn (length text) (pieces_at text) fault

-- what a fault that was answered tells of the definition's answer
abbrev pub told : PipeFault → Told PipeFault
told OutOfMemory = nothing
told fault = exactly fault

-- What was returned is the answer, unless memory ran out.
abbrev pub Gives : {A : Type 0} → Result A PipeFault → Result A PipeFault → Type 0
Gives result answer = GivesBy told result answer

-- The told fault is the text's first.
abbrev pub IsFirstFault : List ℕ → Told PipeFault → Type 0
IsFirstFault text nothing = Unit {0}
IsFirstFault text (exactly fault) = HasFault text fault
IsFirstFault text never = ⊥
