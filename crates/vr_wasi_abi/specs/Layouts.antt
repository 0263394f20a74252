-- What results are as bytes (WASI preview 1, the layouts of fdstat, filestat and prestat): numbers
-- at their places, the lowest byte first, and zeros else.
use Rattle.std.specs.Prelude.{ℕ, ◌+◌, List, [], ◌∷◌, ◌++◌, take, drop, replicate}
use Rattle.vr_wasm_num.specs.Memory.{bytes_of}
use Rattle.vr_wasi_abi.specs.declared.results.FdStat.{FdStat}
use Rattle.vr_wasi_abi.specs.declared.results.TheConstants.{FDSTAT_SIZE, FILESTAT_SIZE, PRESTAT_SIZE}

-- where a number stands, how many bytes it has, and the number
pub data Field : Type 0 where
  field : ℕ → ℕ → ℕ → Field

-- the bytes with each number in its place
abbrev pub with_fields : List ℕ → List Field → List ℕ
with_fields bytes [] = bytes
with_fields bytes (field at width number ∷ fields) =
    with_fields (take at bytes ++ bytes_of width number ++ drop (at + width) bytes) fields

-- so many bytes, with numbers in their places and zeros else
abbrev pub layout : ℕ → List Field → List ℕ
layout size fields = with_fields (replicate size 0) fields

-- what is told of a descriptor
unfoldable pub fdstat : FdStat → List ℕ
fdstat s =
    layout FDSTAT_SIZE
    (field 0 1 s.filetype ∷ field 2 2 s.flags ∷ field 8 8 s.base ∷ field 16 8 s.inheriting ∷ [])

-- what is told of a file of this type and size, with one link
unfoldable pub filestat : ℕ → ℕ → List ℕ
filestat filetype size =
    layout FILESTAT_SIZE (field 16 1 filetype ∷ field 24 8 1 ∷ field 32 8 size ∷ [])

-- what is told of a directory, which is tag 0, with a name of so many bytes
unfoldable pub prestat : ℕ → List ℕ
prestat len = layout PRESTAT_SIZE (field 0 1 0 ∷ field 4 4 len ∷ [])
