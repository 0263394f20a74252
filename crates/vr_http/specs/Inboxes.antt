-- What an inbox holds, and how it grows from a source.
use Rattle.std.specs.Prelude.{◌≡◌, ℕ, ◌+◌, List, ◌++◌, length, slice_range, Option}
use Rattle.std.specs.Io.KnownBytes.{Consumes, IsAtEnd, prepend_known}
use Rattle.vr_http.specs.declared.inbox.Inbox.{Inbox}

-- the bytes that were read and not yet used
abbrev pub unread : Inbox → List ℕ
unread inbox = slice_range inbox.buffer.items inbox.start inbox.end

-- the unread bytes and then those that the source has left, where it tells them
abbrev pub stream : List ℕ → Option (List ℕ) → Option (List ℕ)
stream held left = prepend_known held left

-- Bytes were moved from the source to the end of the unread ones.
pub record Gathers (old new : List ℕ) (left_old left_new : Option (List ℕ)) : Type 0 where
  pub more : List ℕ
  pub added : new ≡ old ++ more
  pub consumed : Consumes left_old left_new more

-- A read of so many more bytes, and of none only at the source's end.
pub record AddsBytes (old new : List ℕ) (left : Option (List ℕ)) (count : ℕ) : Type 0 where
  pub size : length new ≡ length old + count
  pub ended : count ≡ 0 → IsAtEnd left
