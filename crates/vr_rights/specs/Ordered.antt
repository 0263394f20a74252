-- Names in the order of their bytes, each with the longest one that encloses it.
use Rattle.std.specs.Prelude.{◌≡◌, ℕ, zero, suc, true, false, nat_eq, ◌<◌, ◌≤◌, ◌^◌, List, [], length, Option, None, Some, All, slice_index_or}
use Rattle.std.specs.Cmp.Lexicographic.{slice_cmp}
use Rattle.std.specs.List.{starts_with, AllWithin}
use Rattle.std.specs.List.Sorted.{IsStrictlySortedBy}
use Rattle.std.specs.Ordering.{nat_cmp}
use Rattle.std.specs.declared.cmp.Ordering.TheVariants.{Less, Greater}
use Rattle.vr_rights.specs.Regions.{encloses, IsOuter}

-- each name comes before the next, by their bytes
abbrev pub IsOrdered : List (List ℕ) → Type 0
IsOrdered names = IsStrictlySortedBy (slice_cmp nat_cmp) names

-- the places of the longest names that enclose the first of the names
pub record AreOuter (names : List (List ℕ)) (outer : List (Option ℕ)) : Type 0 where
  pub long : length outer ≤ length names
  pub each : (place : ℕ) → place < length outer
      → IsOuter names (slice_index_or names place []) (slice_index_or outer place None)

-- what the names of a policy keep
pub record KeepsNames (names : List (List ℕ)) (outer : List (Option ℕ)) : Type 0 where
  pub ordered : IsOrdered names
  pub all : length outer ≡ length names
  pub outer_are : AreOuter names outer
  pub few : length names < 2 ^ 32

-- The place is one of the first, and each directory that encloses the name
-- includes the one at the place.
pub record Includes (names : List (List ℕ)) (first : ℕ) (name : List ℕ) (place : ℕ) : Type 0 where
  pub within : place < first
  pub through : All
      (λ directory. encloses directory name ≡ true
      → starts_with nat_eq (slice_index_or names place []) directory ≡ true)
      names

-- each directory that encloses the name includes the one at the place; none
-- does where there is no place
abbrev pub Reaches : List (List ℕ) → ℕ → List ℕ → Option ℕ → Type 0
Reaches names first name None = All (λ directory. encloses directory name ≡ false) names
Reaches names first name (Some place) = Includes names first name place

-- the place before one
abbrev pub before : ℕ → Option ℕ
before zero = None
before (suc place) = Some place

-- The name is the one at a place.
pub record IsAt (names : List (List ℕ)) (name : List ℕ) (place : ℕ) : Type 0 where
  pub within : place < length names
  pub here : slice_index_or names place [] ≡ name

-- The names before a place are less than a name, and those from there on are greater.
pub record IsAfter (names : List (List ℕ)) (name : List ℕ) (place : ℕ) : Type 0 where
  pub within : place ≤ length names
  pub less : AllWithin (λ listed. slice_cmp nat_cmp listed name ≡ Less) names 0 place
  pub greater : AllWithin (λ listed. slice_cmp nat_cmp listed name ≡ Greater)
      names place (length names)
