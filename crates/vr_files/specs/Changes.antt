-- Changes of files, and the files that they make of others.
use Rattle.std.specs.Prelude.{◌≡◌, ℕ, Bool, true, false, List, [], ◌∷◌, map, Option, Some, None, bytes_eq, not, unwrap_or, Result, refl, if◌then◌else◌}
use Rattle.std.specs.List.{IsDistinct}
use Rattle.std.specs.Coded.{Coded, code_by, coded×, coded_list, coded_option, coded_ℕ}
use Rattle.std.specs.FinMap.{get, insert, remove, find}
use Rattle.vr_files.specs.FileMaps.{FileMap, coded_files, path_cmp}
use Rattle.vr_base.specs.Checks.{result_map}
use Rattle.vr_files.specs.Bodies.{sized}
use Rattle.vr_files.specs.Entries.{AreSorted}
use Rattle.vr_files.specs.declared.faults.FileFault.{FileFault}

-- what becomes of a path: the bytes of its file, or that it has none
abbrev pub Change : Type 0
Change = List ℕ × Option (List ℕ)

-- the files after one change
abbrev pub changed : FileMap → List ℕ → Option (List ℕ) → FileMap
changed files path None = remove files path
changed files path (Some body) = insert files path body

-- the files after each of the changes
abbrev pub applied : FileMap → List Change → FileMap
applied files [] = files
applied files (change ∷ changes) = applied (changed files change.0 change.1) changes

-- no path has two changes
abbrev pub AreDistinct : List Change → Type 0
AreDistinct changes = IsDistinct bytes_eq (map (λ change. change.0) changes)

-- whether two paths have the same file, or none
abbrev pub same_file : Option (List ℕ) → Option (List ℕ) → Bool
same_file None None = true
same_file None (Some b) = false
same_file (Some a) None = false
same_file (Some a) (Some b) = bytes_eq a b

-- what becomes of a path, where it isn't as before
abbrev pub difference : Option (List ℕ) → Option (List ℕ) → Option (Option (List ℕ))
difference old new = if same_file old new then None else Some new

-- whether a change makes a difference to the files
abbrev pub differs : FileMap → Change → Bool
differs files change = not (same_file (get files change.0) change.1)

-- The changes are those of the paths at which the files differ, in the order of the paths.
pub record AreDifferences (old new : FileMap) (changes : List Change) : Type 0 where
  pub in_order : AreSorted changes
  pub exact : (path : List ℕ)
      → find path_cmp path changes ≡ difference (get old path) (get new path)
  pub applied : applied old changes ≡ new

-- files over others, which stay as they are
pub record Layers : Type 0 where
  pub base : FileMap
  pub files : FileMap

abbrev pub coded_layers : Coded Layers
coded_layers =
    code_by (FileMap × FileMap) (coded× coded_files coded_files) (λ l. (l.base, l.files))
    (λ p. record { base = p.0; files = p.1 }) (λ _. refl)

-- the layers with a file made or replaced
abbrev pub with_file : Layers → List ℕ → List ℕ → Layers
with_file layers path body = record layers { files = insert layers.files path body }

-- the layers with these bytes at a path, or the fault that they are too many
abbrev pub layered : Layers → List ℕ → List ℕ → Result Layers FileFault
layered layers path bytes = result_map (with_file layers path) (sized bytes)

-- the layers with a file taken out
abbrev pub without_file : Layers → List ℕ → Layers
without_file layers path = record layers { files = remove layers.files path }

-- the body of a path after changes
abbrev pub body_of : FileMap → List Change → List ℕ → Option (List ℕ)
body_of base changes path = unwrap_or (find path_cmp path changes) (get base path)

-- changes in the order of their paths, and for how many paths more there is room
pub record EditTable : Type 0 where
  pub changes : List Change
  pub spare : ℕ

abbrev pub coded_edits : Coded EditTable
coded_edits =
    code_by (List Change × ℕ)
    (coded× (coded_list (coded× (coded_list coded_ℕ) (coded_option (coded_list coded_ℕ)))) coded_ℕ)
    (λ e. (e.changes, e.spare)) (λ p. record { changes = p.0; spare = p.1 }) (λ _. refl)
