-- What a source in memory tells.
use Rattle.std.specs.Prelude.{◌≡◌, ℕ, List, drop}
use Rattle.vr_memory_links.specs.declared.source.MemSource.{MemSource}

-- the bytes that are left
abbrev pub bytes_left : MemSource → List ℕ
bytes_left source = drop source.at source.input

-- A source of these bytes of which none was read, that moves so many a call and fails at these calls.
pub record IsNewSource (input : List ℕ) (most : ℕ) (listed : List ℕ)
    (source : MemSource) : Type 0 where
  pub left : bytes_left source ≡ input
  pub piece : source.piece ≡ most
  pub failing : source.calls.listed.items ≡ listed
  pub faults : source.calls.faults ≡ 0
