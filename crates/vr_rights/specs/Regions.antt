-- Names that include one another, and the region of a path: the longest of a
-- policy's names that covers it.
use Rattle.std.specs.Prelude.{◌≡◌, ℕ, Bool, true, false, nat_eq, nat_lt, ◌&&◌, ◌==◌, ◌<◌, ◌≤◌, List, length, map, filter, find, position, bytes_eq, Option, None, Some, option_and_then, All, slice_index_or, [], if◌then◌else◌}
use Rattle.std.specs.List.{starts_with}
use Rattle.vr_base.specs.Names.{covers, names_directory}
use Rattle.vr_base.specs.Rights.{greatest_of}

-- the first of the longest names
abbrev pub longest_name : List (List ℕ) → Option (List ℕ)
longest_name names = find (λ name. length name == greatest_of (map (λ n. length n) names)) names

-- the region of a path: the longest name that covers it, where one does
abbrev pub region_of : List (List ℕ) → List ℕ → Option (List ℕ)
region_of names path = longest_name (filter (λ name. covers name path) names)

-- the place of a name among names
abbrev pub place_of : List (List ℕ) → List ℕ → Option ℕ
place_of names name = position (λ listed. bytes_eq listed name) names

-- the number of a path's region, which is its place among the names
abbrev pub region_number : List (List ℕ) → List ℕ → Option ℕ
region_number names path = option_and_then (place_of names) (region_of names path)

-- a grant's name includes a region: it covers every path that the region's name covers
abbrev pub includes : List ℕ → List ℕ → Bool
includes grant region =
    if names_directory grant then starts_with nat_eq region grant else bytes_eq grant region

-- a directory encloses what is in it, and not itself
abbrev pub encloses : List ℕ → List ℕ → Bool
encloses directory name =
    names_directory directory
    && (starts_with nat_eq name directory && nat_lt (length directory) (length name))

-- It is the place of the longest of the names that enclose a name.
pub record IsNearest (names : List (List ℕ)) (name : List ℕ) (place : ℕ) : Type 0 where
  pub within : place < length names
  pub enclosing : encloses (slice_index_or names place []) name ≡ true
  pub longest : All
      (λ directory. encloses directory name ≡ true
      → length directory ≤ length (slice_index_or names place []))
      names

-- the place of the longest of the names that enclose a name, none where none does
abbrev pub IsOuter : List (List ℕ) → List ℕ → Option ℕ → Type 0
IsOuter names name None = All (λ directory. encloses directory name ≡ false) names
IsOuter names name (Some place) = IsNearest names name place
