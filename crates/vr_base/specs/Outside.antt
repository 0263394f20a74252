-- What a folder holds and what a sink has taken, where they tell it.
use Rattle.std.specs.Prelude.{◌≡◌, ℕ, ◌≤◌, ◌<◌, List, [], ◌∷◌, length, take, Option, Some, None, option_map, IfSome, Result, bytes_eq, if◌then◌else◌}
use Rattle.std.specs.Io.KnownBytes.{Appends}
use Rattle.vr_base.specs.Causes.{HasCauseOf}
use Rattle.vr_base.specs.declared.outside.FolderFault.{FolderFault}
use Rattle.vr_base.specs.declared.outside.FolderFault.TheVariants.{Absent, Failed}

-- the bytes of the first file with the name
abbrev pub file_of : List ℕ → List (List ℕ × List ℕ) → Option (List ℕ)
file_of name [] = None
file_of name (file ∷ files) = if bytes_eq file.0 name then Some file.1 else file_of name files

-- Where the files are told, the named one is there, and these are its first
-- bytes, as many as asked for.
abbrev pub Holds : Option (List (List ℕ × List ℕ)) → List ℕ → ℕ → List ℕ → Type 0
Holds files name most bytes =
    IfSome files (λ fs. option_map (take most) (file_of name fs) ≡ Some bytes)

-- Where the files are told, the named one is not there.
abbrev pub IsNotThere : Option (List (List ℕ × List ℕ)) → List ℕ → Type 0
IsNotThere files name = IfSome files (λ fs. file_of name fs ≡ None)

-- How often a folder had no file of a name, and how often a read of it failed.
pub record FolderCounts : Type 0 where
  pub absences : ℕ
  pub faults : ℕ

-- No count falls, and an absent file and a failed read are answered only where their count rose.
pub record HasFolderCause (before now : FolderCounts) (result : Result (List ℕ) FolderFault)
    : Type 0 where
  pub absent : HasCauseOf Absent before.absences now.absences result
  pub failed : HasCauseOf Failed before.faults now.faults result

-- What the other half of a link tells: its own bytes, and all that the link was given to read.
pub record Beside : Type 0 where
  pub bytes : Option (List ℕ)
  pub input : Option (List ℕ)

abbrev pub beside_of : Option (List ℕ) → Option (List ℕ) → Beside
beside_of bytes input = record { bytes = bytes; input = input }

-- of what is no half of a link
abbrev pub nothing_beside : Beside
nothing_beside = beside_of None None

-- Where what was written is told, it grew by a prefix of the bytes.
abbrev pub AppendsPrefix : Option (List ℕ) → Option (List ℕ) → List ℕ → Type 0
AppendsPrefix old new bytes = (n : ℕ) × (n ≤ length bytes) × Appends old new (take n bytes)

-- How many bytes a write took: no more than there are, and one at least where there are any.
pub record TakesPart (count room : ℕ) : Type 0 where
  pub within : count ≤ room
  pub some : 0 < room → 0 < count
