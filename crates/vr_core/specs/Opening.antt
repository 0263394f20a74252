-- The files with which a history begins: the rows that a keeper loaded, where none of them is bad.
use Rattle.std.specs.Prelude.{◌≡◌, ℕ, ◌-◌, ◌^◌, min, Bool, false, not, ◌||◌, nat_lt, bytes_eq, is_some, List, [], ◌∷◌, ◌++◌, length, Option, Some, None, option_map, IfSome, Result, Ok, Err, if◌then◌else◌}
use Rattle.std.specs.List.{list_any}
use Rattle.std.specs.FinMap.{get}
use Rattle.vr_base.specs.Checks.{Told, nothing, exactly, never, GivesBy, unless_fault}
use Rattle.vr_base.specs.Names.{path_of}
use Rattle.vr_base.specs.declared.names.PathFault.{PathFault}
use Rattle.vr_files.specs.FileMaps.{FileMap}
use Rattle.vr_files.specs.declared.pages.TheConstants.{MOST_BYTES}
use Rattle.vr_keeper.specs.Keepers.{Row, rows_map}
use Rattle.vr_keeper.specs.declared.keepers.KeepFault.{KeepFault}
use Rattle.vr_keeper.specs.declared.keepers.KeepFault.TheVariants as keep
use Rattle.vr_core.specs.declared.opening.StartFault.{StartFault}
use Rattle.vr_core.specs.declared.opening.StartFault.TheVariants.{KeeperFailed, BadRow, OutOfMemory}

-- whether a name is the path that was read of it
abbrev pub is_same : List ℕ → Result (List ℕ) PathFault → Bool
is_same name (Ok path) = bytes_eq path name
is_same name (Err fault) = false

-- whether a name is the path that it stands for
abbrev pub is_path : List ℕ → Bool
is_path name = is_same name (path_of name)

-- whether a row has no path in its normal form, or one of the paths before, or too many bytes
abbrev pub is_bad : List (List ℕ) → Row → Bool
is_bad before row =
    not (is_path row.0) || list_any (bytes_eq row.0) before || nat_lt MOST_BYTES (length row.1)

-- whether a row makes no file beside those of the rows before it
abbrev pub is_refused : FileMap → Row → Bool
is_refused files row =
    not (is_path row.0) || is_some (get files row.0) || nat_lt MOST_BYTES (length row.1)

-- the place of the first bad row from here on; these are the paths before
abbrev pub bad_row_after : List (List ℕ) → List Row → Option ℕ
bad_row_after before [] = None
bad_row_after before (row ∷ rows) =
    if is_bad before row then Some (length before) else bad_row_after (before ++ row.0 ∷ []) rows

-- the place of the first bad row
abbrev pub bad_row : List Row → Option ℕ
bad_row rows = bad_row_after [] rows

-- the fault of a bad row at a place; the last number of 32 bits stands for each later place too
abbrev pub row_fault : ℕ → StartFault
row_fault place = BadRow (min place (2 ^ 32 - 1))

-- the files of rows, or the fault of the first bad one
abbrev pub opening_of : List Row → Result FileMap StartFault
opening_of rows = unless_fault (option_map row_fault (bad_row rows)) (rows_map rows)

-- the fault of a keeper that did not load
abbrev pub fault_of : KeepFault → StartFault
fault_of keep.Failed = KeeperFailed
fault_of keep.OutOfMemory = OutOfMemory

-- what a fault of the code tells of the rows, which are read without the keeper
abbrev pub told : StartFault → Told StartFault
told KeeperFailed = never
told (BadRow place) = exactly (BadRow place)
told OutOfMemory = nothing

-- What was returned is what the rows come to, unless memory ran out.
abbrev pub Gives : {A : Type 0} → Result A StartFault → Result A StartFault → Type 0
Gives result answer = GivesBy told result answer

-- The answer is what rows come to that the keeper gave, which are its own where it tells them.
pub record ComesFromRows (own : Option FileMap) (answer : Result FileMap StartFault) : Type 0 where
  pub rows : List Row
  pub told : IfSome own (λ map. rows_map rows ≡ map)
  pub given : answer ≡ opening_of rows
