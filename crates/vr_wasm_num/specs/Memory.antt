-- Linear memory: a list of bytes (WebAssembly Core 1.0, sections 4.2.8
-- and 4.4.4, and copy and fill).
use Rattle.std.specs.Prelude.{ℕ, zero, suc, ◌+◌, ◌*◌, ◌/◌, ◌%◌, ◌≡◌, ◌≤◌, ◌⊎◌, Bool, true, ◌==◌, if◌then◌else◌, nat_le, List, [], ◌∷◌, ◌++◌, length, take, drop, replicate}
use Rattle.vr_wasm_num.specs.declared.memory.TheConstants.{PAGE_SIZE}

-- the bytes, and how many pages of them there may be
pub record Contents : Type 0 where
  pub bytes : List ℕ
  pub most : ℕ

-- whole pages, no more of them than there may be, which are at most 1,024
pub record IsPaged (m : Contents) : Type 0 where
  pub pages : length m.bytes % PAGE_SIZE ≡ 0
  pub within : length m.bytes ≤ m.most * PAGE_SIZE
  pub few : m.most ≤ 1024

-- how many pages there are
abbrev pub pages_of : Contents → ℕ
pages_of m = length m.bytes / PAGE_SIZE

-- the same, with room for as many pages as there may be
pub record IsReserved (m : Contents) (capacity : ℕ) : Type 0 where
  pub paged : IsPaged m
  pub room : m.most * PAGE_SIZE ≤ capacity

-- how many bytes a load or a store moves
abbrev pub IsWidth : ℕ → Type 0
IsWidth width = (width ≡ 1) ⊎ ((width ≡ 2) ⊎ ((width ≡ 4) ⊎ (width ≡ 8)))

-- the number that bytes spell, the lowest byte first
abbrev pub number_of : List ℕ → ℕ
number_of [] = 0
number_of (b ∷ bs) = b + 256 * number_of bs

-- the lowest so many bytes of a number, the lowest one first
abbrev pub bytes_of : ℕ → ℕ → List ℕ
bytes_of zero number = []
bytes_of (suc width) number = number % 256 ∷ bytes_of width (number / 256)

-- whether so many bytes from a place on are there; of none it is true wherever they begin
abbrev pub is_within : List ℕ → ℕ → ℕ → Bool
is_within bytes at len = if len == 0 then true else nat_le (at + len) (length bytes)

-- so many bytes from a place on
abbrev pub part : List ℕ → ℕ → ℕ → List ℕ
part bytes at len = take len (drop at bytes)

-- the memory with a piece in place of the bytes from a place on
abbrev pub with_piece : Contents → ℕ → List ℕ → Contents
with_piece m at piece =
    record m { bytes = take at m.bytes ++ piece ++ drop (at + length piece) m.bytes }

-- the memory with so many pages of zeros more
abbrev pub with_pages : Contents → ℕ → Contents
with_pages m more = record m { bytes = m.bytes ++ replicate (more * PAGE_SIZE) 0 }
