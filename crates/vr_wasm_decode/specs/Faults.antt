-- What a fault of the bytes, and the error of a call, tell of what reading gives.
use Rattle.std.specs.Prelude.{ℕ, zero}
use Rattle.vr_wasm_ast.specs.Checks.{Told, nothing, exactly}
use Rattle.vr_wasm_decode.specs.declared.fault.DecodeFault.{DecodeFault}
use Rattle.vr_wasm_decode.specs.declared.fault.DecodeKind.{DecodeKind}
use Rattle.vr_wasm_decode.specs.declared.fault.DecodeKind.TheVariants.{Magic, Truncated, Leb, SectionOrder, SectionSize, BadByte, Utf8, Counts, Float, TooMany, OutOfMemory}
use Rattle.vr_wasm_decode.specs.declared.fault.ReadError.{ReadError}
use Rattle.vr_wasm_decode.specs.declared.fault.ReadError.TheVariants as errors

-- a fault of this kind, of the item whose first byte is at this offset
abbrev pub fault_at : DecodeKind → ℕ → DecodeFault
fault_at kind place = record { kind = kind; at = place }

-- the number of a kind, 0 of none
abbrev pub number_of : DecodeKind → ℕ
number_of Magic = 1
number_of Truncated = 2
number_of Leb = 3
number_of SectionOrder = 4
number_of SectionSize = 5
number_of BadByte = 6
number_of Utf8 = 7
number_of Counts = 8
number_of Float = 9
number_of TooMany = 10
number_of OutOfMemory = 0

-- what the error of a reader of the code tells
abbrev pub told : ReadError → Told DecodeFault
told errors.OutOfMemory = nothing
told (errors.Fault f) = exactly f

-- what a fault that `decode` answers tells: nothing where it says, at offset 0, that memory ran out
abbrev pub told_by : DecodeKind → ℕ → Told DecodeFault
told_by OutOfMemory zero = nothing
told_by kind place = exactly (fault_at kind place)

abbrev pub told_by_decode : DecodeFault → Told DecodeFault
told_by_decode f = told_by f.kind f.at
