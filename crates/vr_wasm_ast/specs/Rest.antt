-- What is left of the bytes at a place.
use Rattle.std.specs.Prelude.{◌≡◌, ℕ, ◌+◌, List, ◌++◌, length}

-- the bytes that are left, and the offset of the first of them in the whole
pub record Rest : Type 0 where
  pub place : ℕ
  pub bytes : List ℕ

abbrev pub rest : ℕ → List ℕ → Rest
rest place bytes = record { place = place; bytes = bytes }

-- what was left before is these bytes and what is left after them
pub record Consumes (before : Rest) (text : List ℕ) (after : Rest) : Type 0 where
  pub parts : before.bytes ≡ text ++ after.bytes
  pub moved : after.place ≡ before.place + length text
