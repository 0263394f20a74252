-- Vectors of buffers in linear memory (WASI preview 1, iovec and ciovec).
use Rattle.std.specs.Prelude.{ℕ, ◌+◌, ◌*◌, ◌≡◌, ◌&&◌, List, map, Bool, if◌then◌else◌, nat_lt, Result, Ok, Err}
use Rattle.std.specs.List.{list_all, range_with_len}
use Rattle.vr_wasm_num.specs.Memory.{is_within, number_of, part}
use Rattle.vr_wasi_abi.specs.declared.fault.AbiFault.{AbiFault}
use Rattle.vr_wasi_abi.specs.declared.fault.AbiFault.TheVariants.{Inval, Fault, OutOfMemory}
use Rattle.vr_wasi_abi.specs.declared.iovecs.Iovec.{Iovec}
use Rattle.vr_wasi_abi.specs.declared.iovecs.TheConstants.{MAX_IOVECS, IOVEC_SIZE}

-- one vector: a pointer at 0 and a length at 4
abbrev pub vector : List ℕ → ℕ → Iovec
vector bytes at =
    record { pointer = number_of (part bytes at 4); length = number_of (part bytes (at + 4) 4) }

-- so many vectors, one after the other
unfoldable pub vectors : List ℕ → ℕ → ℕ → List Iovec
vectors bytes at count = map (λ i. vector bytes (at + IOVEC_SIZE * i)) (range_with_len 0 count)

-- the buffer of a vector lies within the memory
abbrev pub has_buffer : List ℕ → Iovec → Bool
has_buffer bytes v = is_within bytes v.pointer v.length

-- so many vectors lie within the memory, and the buffer of each
abbrev pub are_there : List ℕ → ℕ → ℕ → Bool
are_there bytes at count =
    is_within bytes at (IOVEC_SIZE * count) && list_all (has_buffer bytes) (vectors bytes at count)

-- the vectors, or the first fault
abbrev pub reading : List ℕ → ℕ → ℕ → Result (List Iovec) AbiFault
reading bytes at count =
    if nat_lt MAX_IOVECS count then Err Inval else
    (if are_there bytes at count then Ok (vectors bytes at count) else Err Fault)

-- one vector, where it and its buffer are there
abbrev pub read_one : List ℕ → ℕ → Result Iovec AbiFault
read_one bytes at =
    if is_within bytes at IOVEC_SIZE && has_buffer bytes (vector bytes at)
    then Ok (vector bytes at) else Err Fault

-- the result is the answer, unless memory ran out
abbrev pub Gives : {A : Type 0} → Result A AbiFault → Result A AbiFault → Type 0
Gives (Err OutOfMemory) answer = Unit {0}
Gives (Err Inval) answer = answer ≡ Err Inval
Gives (Err Fault) answer = answer ≡ Err Fault
Gives (Ok x) answer = answer ≡ Ok x
