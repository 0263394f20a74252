-- Pages, one after the other.
use Rattle.std.specs.Prelude.{◌≡◌, ℕ, ◌+◌, ◌-◌, ◌*◌, ◌≤◌, max, List, ◌++◌, length, take, replicate}
use Rattle.std.specs.Int.{div_ceil}
use Rattle.std.specs.List.{flat_map, AllByRecursion}
use Rattle.std.specs.declared.sync.Arc.{Arc}
use Rattle.std.specs.declared.alloc.Global.{Global}
use Rattle.vr_files.specs.declared.pages.TheConstants.{PAGE, MOST_BYTES}
use Rattle.vr_files.specs.Bodies.{overwritten}
use Rattle.vr_files.specs.declared.pages.Page.{Page}

abbrev pub PageList : Type 0
PageList = List (Arc Page Global)

-- the bytes of pages, one page after the other
abbrev pub bytes_of : PageList → List ℕ
bytes_of pages = flat_map (λ page. page.value.bytes) pages

-- the page has all its bytes
abbrev pub IsFull : Arc Page Global → Type 0
IsFull page = length page.value.bytes ≡ PAGE

abbrev pub AreFull : PageList → Type 0
AreFull pages = AllByRecursion IsFull pages

-- new is old and pages of zeros after it, so that there are as many as counted
pub record AddsZeros (old new : PageList) (count : ℕ) : Type 0 where
  pub more : PageList
  pub appended : new ≡ old ++ more
  pub zeros : bytes_of more ≡ replicate (PAGE * length more) 0
  pub full : AreFull more
  pub counted : length more ≡ count - length old

-- how many pages more it takes to have as many as counted, in bytes
abbrev pub lacking : PageList → ℕ → ℕ
lacking pages count = PAGE * (count - length pages)

-- new pages are the old ones and those of zeros that are lacking, with the piece written over them
pub record Overwrites (old new : PageList) (at : ℕ) (piece : List ℕ) : Type 0 where
  pub full : AreFull new
  pub counted : length new ≡ max (length old) (div_ceil (at + length piece) PAGE)
  pub bytes : bytes_of new ≡ overwritten
      (bytes_of old ++ replicate (lacking old (div_ceil (at + length piece) PAGE)) 0) at piece

-- new pages are the old ones cut to a size, and zero past it
pub record Cuts (old new : PageList) (size : ℕ) : Type 0 where
  pub full : AreFull new
  pub counted : length new ≡ div_ceil size PAGE
  pub bytes : bytes_of new ≡ take size (bytes_of old)
      ++ replicate (PAGE * div_ceil size PAGE - size) 0

-- The pages keep so many bytes: they are as many as it takes, and zero past the last byte.
pub record IsPaged (len : ℕ) (pages : PageList) : Type 0 where
  pub full : AreFull pages
  pub counted : length pages ≡ div_ceil len PAGE
  pub zeros : bytes_of pages ≡ take len (bytes_of pages) ++ replicate (PAGE * length pages - len) 0
  pub most : len ≤ MOST_BYTES
