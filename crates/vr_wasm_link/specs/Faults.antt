-- Link faults, and what an error of the code tells of them.
use Rattle.std.specs.Prelude.{◌≡◌, ℕ, Option, None, Some, Result, Ok, Err}
use Rattle.vr_wasm_ast.specs.Checks.{Told, Tells, nothing, exactly}
use Rattle.vr_wasm_link.specs.declared.faults.LinkFault.{LinkFault}
use Rattle.vr_wasm_link.specs.declared.faults.LinkKind.{LinkKind}
use Rattle.vr_wasm_link.specs.declared.faults.LinkKind.TheVariants.{Import, NoStart, Memory, Table, Element, Data, OutOfMemory}

-- the number of a kind, 0 where memory ran out
abbrev pub number_of : LinkKind → ℕ
number_of Import = 1
number_of NoStart = 2
number_of Memory = 3
number_of Table = 4
number_of Element = 5
number_of Data = 6
number_of OutOfMemory = 0

-- a fault of this kind and index
abbrev pub fault : LinkKind → ℕ → LinkFault
fault kind index = record { kind = kind; index = index }

-- what a fault of this kind and index tells: nothing where memory ran out
abbrev pub told_by : LinkKind → ℕ → Told LinkFault
told_by OutOfMemory index = nothing
told_by kind index = exactly (fault kind index)

-- what a fault of the code tells
abbrev pub told : LinkFault → Told LinkFault
told f = told_by f.kind f.index

-- a call returned what the answer is, as the view shows it, or its fault, or memory ran out
abbrev pub LinksTo : {A B : Type 0} → (A → B) → Result A LinkFault → Result B LinkFault → Type 0
LinksTo view (Ok x) answer = answer ≡ Ok (view x)
LinksTo view (Err e) answer = Tells (told e) answer

-- a fault of this kind at the place that was found, if one was
abbrev pub none_at : LinkKind → Option ℕ → Result (Unit {0}) LinkFault
none_at kind None = Ok tt
none_at kind (Some place) = Err (fault kind place)
