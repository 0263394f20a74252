-- What writing and sizing do with the bytes of a file, and how many bytes a file may have.
use Rattle.std.specs.Prelude.{◌≡◌, ℕ, ◌+◌, ◌-◌, ◌*◌, ◌^◌, min, nat_lt, List, [], ◌∷◌, ◌++◌, length, take, drop, replicate, Result, Ok, Err}
use Rattle.vr_base.specs.Checks.{Told, nothing, exactly, Tells, GivesBy, unless_fault, fault_if}
use Rattle.vr_files.specs.declared.pages.TheConstants.{PAGE, MOST_BYTES}
use Rattle.vr_files.specs.declared.faults.FileFault.{FileFault}
use Rattle.vr_files.specs.declared.faults.FileFault.TheVariants.{TooLarge, OutOfMemory}

-- the bytes with a piece written over them from a place on, all of which lie among them
abbrev pub overwritten : List ℕ → ℕ → List ℕ → List ℕ
overwritten bytes at piece = take at bytes ++ piece ++ drop (at + length piece) bytes

-- the bytes cut to a size, or filled up with zeros
abbrev pub resized : List ℕ → ℕ → List ℕ
resized bytes size = take size bytes ++ replicate (size - length bytes) 0

-- the bytes with a piece written from a place on. Zeros fill a gap before it, and an empty piece changes nothing
abbrev pub written : List ℕ → ℕ → List ℕ → List ℕ
written bytes at [] = bytes
written bytes at (b ∷ piece) =
    resized bytes at ++ (b ∷ piece) ++ drop (at + length (b ∷ piece)) bytes

-- the part of the bytes that lies in a page, counted from 0
abbrev pub page_at : ℕ → List ℕ → List ℕ
page_at k bytes = take PAGE (drop (PAGE * k) bytes)

-- a page's bytes with zeros after them
abbrev pub padded : List ℕ → List ℕ
padded bytes = bytes ++ replicate (PAGE - length bytes) 0

-- the bytes as a file's, or the fault that they are too many
abbrev pub sized : List ℕ → Result (List ℕ) FileFault
sized bytes =
    unless_fault
    (fault_if (nat_lt MOST_BYTES (length bytes)) (TooLarge (min (length bytes) (2 ^ 64 - 1)))) bytes

-- what a fault tells: TooLarge is the answer
abbrev pub told : FileFault → Told FileFault
told (TooLarge size) = exactly (TooLarge size)
told OutOfMemory = nothing

-- A call returned the answer, or memory ran out.
abbrev pub Gives : {A : Type 0} → Result A FileFault → Result A FileFault → Type 0
Gives result answer = GivesBy told result answer

-- A call changed a value to the answer. Where it was refused the value is as before, and memory ran out or the fault is the answer.
abbrev pub Becomes : {A : Type 0} → A → A → Result (Unit {0}) FileFault → Result A FileFault
    → Type 0
Becomes old new (Ok done) answer = answer ≡ Ok new
Becomes old new (Err fault) answer = Tells (told fault) answer × (new ≡ old)
