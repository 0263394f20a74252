-- Bytes that are cut at each place of a sign.
use Rattle.std.specs.Prelude.{◌≡◌, ◌≢◌, ℕ, ◌+◌, ◌<◌, ◌==◌, List, [], ◌∷◌, ◌++◌, length, take, slice_index, All, Option, Some, None}
use Rattle.std.specs.List.{slice_split}

-- the parts of the bytes round each sign
abbrev pub parts_at : ℕ → List ℕ → List (List ℕ)
parts_at sign bytes = slice_split (λ b. b == sign) bytes

-- the parts of what is left, none where nothing is
abbrev pub parts_left : ℕ → Option (List ℕ) → List (List ℕ)
parts_left sign None = []
parts_left sign (Some bytes) = parts_at sign bytes

-- the first sign is there
pub record IsFirstPlace (sign : ℕ) (bytes : List ℕ) (at : ℕ) : Type 0 where
  pub within : at < length bytes
  pub here : slice_index bytes at ≡ sign
  pub before : All (λ b. b ≢ sign) (take at bytes)

-- the bytes, with what comes after the first sign where there is one
abbrev pub Rejoins : ℕ → List ℕ → List ℕ → Option (List ℕ) → Type 0
Rejoins sign bytes before None = bytes ≡ before
Rejoins sign bytes before (Some rest) = bytes ≡ before ++ sign ∷ rest

-- how much is left, less where a sign was passed
abbrev pub left_length : Option (List ℕ) → ℕ
left_length None = 0
left_length (Some bytes) = length bytes + 1
