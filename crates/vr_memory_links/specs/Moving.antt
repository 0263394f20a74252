-- Bytes that move in pieces.
use Rattle.std.specs.Prelude.{◌≡◌, ℕ, ◌+◌, ◌<◌, ◌≤◌, List, [], ◌++◌, length, take, drop}

-- So many bytes fill the room, and there are more to be added.
pub record IsFull (held room more : ℕ) : Type 0 where
  pub filled : held ≡ room
  pub some : 0 < more

-- So many bytes from the place on were put at the front of a buffer, and none only at their end or
-- where there is no room.
pub record Gives (bytes : List ℕ) (at : ℕ) (into : List ℕ) (count : ℕ) : Type 0 where
  pub fits : count ≤ length into
  pub within : at + count ≤ length bytes
  pub moved : drop at bytes ≡ take count into ++ drop (at + count) bytes
  pub end : count ≡ 0 → 0 < length into → drop at bytes ≡ []
