-- The grants of a holder, kept as words at the places of the regions that they name.
use Rattle.std.specs.Prelude.{◌≡◌, ◌≢◌, ℕ, ◌<◌, List, [], map, length, All, Contains, Option, None, Some, slice_index_or}
use Rattle.std.specs.List.Sorted.{IsSortedByKey}
use Rattle.std.specs.Ordering.{nat_cmp}

-- no two grants have one name
abbrev pub HasOneOfEach : List (List ℕ × ℕ) → Type 0
HasOneOfEach grants = (g h : List ℕ × ℕ) → Contains grants g → Contains grants h → g.0 ≡ h.0 → g ≡ h

-- the grant that a word at a place stands for
abbrev pub grant_at : List (List ℕ) → ℕ × ℕ → List ℕ × ℕ
grant_at names word = (slice_index_or names word.0 [], word.1)

-- the grants that words at places stand for
abbrev pub grants_at : List (List ℕ) → List (ℕ × ℕ) → List (List ℕ × ℕ)
grants_at names words = map (grant_at names) words

-- the places don't fall
abbrev pub IsRising : List (ℕ × ℕ) → Type 0
IsRising words = IsSortedByKey (λ word. word.0) nat_cmp words

-- the word at a place, none where no word is
abbrev pub IsWordAt : List (ℕ × ℕ) → ℕ → Option ℕ → Type 0
IsWordAt words place None = All (λ word. word.0 ≢ place) words
IsWordAt words place (Some word) = Contains words (place, word)

-- The words are of places of names, and stand for grants on different names.
pub record AreWordsOf (names : List (List ℕ)) (words : List (ℕ × ℕ)) : Type 0 where
  pub known : All (λ word. word.0 < length names) words
  pub one_of_each : HasOneOfEach (grants_at names words)
