-- What a start comes to over a keeper that tells its rows in the order in which a load gives them.
use Rattle.std.specs.Prelude.{◌≡◌, Bool, false, not, List, Option, IfSome, Result, Ok, Err}
use Rattle.std.specs.List.{list_any}
use Rattle.vr_base.specs.Checks.{Told, nothing, exactly, GivesBy}
use Rattle.vr_files.specs.FileMaps.{FileMap}
use Rattle.vr_keeper.specs.Keepers.{Row, has_no_name}
use Rattle.vr_core.specs.History.{BookState}
use Rattle.vr_core.specs.Opening.{opening_of}
use Rattle.vr_core.specs.declared.opening.StartFault.{StartFault}
use Rattle.vr_core.specs.declared.opening.StartFault.TheVariants.{KeeperFailed, BadRow, OutOfMemory}

-- the files with which a book began, or the fault of a start that was refused
abbrev pub start_answer : {K : Type 0} → Result (BookState K) (StartFault × K)
    → Result FileMap StartFault
start_answer (Ok book) = Ok book.origin.opening
start_answer (Err refusal) = Err refusal.0

-- what a refused start tells of the rows: that one is bad, or nothing, where the keeper failed or memory ran out
abbrev pub told_of_rows : StartFault → Told StartFault
told_of_rows KeeperFailed = nothing
told_of_rows (BadRow place) = exactly (BadRow place)
told_of_rows OutOfMemory = nothing

-- The answer is what the listed rows come to, unless the keeper failed or memory ran out.
abbrev pub OpensListed : Option (List Row) → Result FileMap StartFault → Type 0
OpensListed listed answer = IfSome listed (λ rows. GivesBy told_of_rows answer (opening_of rows))

-- Whether a refused start left the keeper loaded: not where it failed, and after a bad row where each of the listed rows has
-- a name. Where memory ran out it may be either.
abbrev pub LeavesLoaded : Option (List Row) → StartFault → Bool → Type 0
LeavesLoaded listed KeeperFailed is_loaded = is_loaded ≡ false
LeavesLoaded listed (BadRow place) is_loaded =
    IfSome listed (λ rows. is_loaded ≡ not (list_any has_no_name rows))
LeavesLoaded listed OutOfMemory is_loaded = Unit {0}
