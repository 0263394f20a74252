-- Where a file of a store is kept.
use Rattle.std.specs.Prelude.{ℕ, List, [], unwrap_or, IsSome}
use Rattle.vr_files.specs.declared.kept.Kept.{Kept}
use Rattle.vr_files.specs.declared.kept.Kept.TheVariants.{Shared, Own}

-- the path and the bytes of the file
abbrev pub kept_file : Kept → List ℕ × List ℕ
kept_file (Shared file) = file.value
kept_file (Own room) = unwrap_or room.value ([], [])

-- there is a file
abbrev pub IsKept : Kept → Type 0
IsKept (Shared file) = Unit {0}
IsKept (Own room) = IsSome room.value
