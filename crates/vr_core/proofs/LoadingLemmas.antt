-- What a start comes to, from the rows that a load gave.
use Rattle.std.proofs.Common.{◌≡◌, Bool, false, List, Option, Some, None, Result, Err, subst}
use Rattle.std.specs.Prelude.{not, IfSome}
use Rattle.std.specs.List.{list_any}
use Rattle.vr_base.specs.Checks.{GivesBy, Tells}
use Rattle.vr_files.specs.FileMaps.{FileMap}
use Rattle.vr_keeper.specs.Keepers.{Row, has_no_name}
use Rattle.vr_keeper.specs.declared.keepers.KeepFault.{KeepFault}
use Rattle.vr_keeper.specs.declared.keepers.KeepFault.TheVariants as keep
use Rattle.vr_core.specs.Loading.{LeavesLoaded, OpensListed, told_of_rows}
use Rattle.vr_core.specs.Opening.{fault_of, opening_of, told}
use Rattle.vr_core.specs.declared.opening.StartFault.{StartFault}
use Rattle.vr_core.specs.declared.opening.StartFault.TheVariants.{KeeperFailed, BadRow, OutOfMemory}

-- what the rows come to that a load gave is what the listed ones come to
pub opens_listed : (listed : Option (List Row)) (rows : List Row) (answer : Result FileMap StartFault) → IfSome listed (λ list. rows ≡ list)
    → GivesBy told_of_rows answer (opening_of rows) → OpensListed listed answer
opens_listed None rows answer same given = tt
opens_listed (Some list) rows answer same given = subst (λ (x : List Row). GivesBy told_of_rows answer (opening_of x)) same given

-- a load that gave no rows tells nothing of them
pub unloaded_opens : (listed : Option (List Row)) (fault : KeepFault) → OpensListed listed (Err (fault_of fault))
unloaded_opens None fault = tt
unloaded_opens (Some list) keep.Failed = tt
unloaded_opens (Some list) keep.OutOfMemory = tt

-- the rows that a load gave were refused
pub refused_opens : (rows : List Row) (fault : StartFault) → Tells (told fault) (opening_of rows) → GivesBy told_of_rows (Err fault) (opening_of rows)
refused_opens rows KeeperFailed never = tt
refused_opens rows (BadRow place) is = is
refused_opens rows OutOfMemory nothing = tt

-- a keeper that gave no rows isn't loaded
pub unloaded_leaves : (listed : Option (List Row)) (fault : KeepFault) (is_loaded : Bool) → is_loaded ≡ false → LeavesLoaded listed (fault_of fault) is_loaded
unloaded_leaves listed keep.Failed is_loaded none = none
unloaded_leaves listed keep.OutOfMemory is_loaded none = tt

-- a keeper whose rows were refused is loaded where each of them has a name
pub refused_leaves : (listed : Option (List Row)) (rows : List Row) (fault : StartFault) (is_loaded : Bool) → IfSome listed (λ list. rows ≡ list)
    → Tells (told fault) (opening_of rows) → is_loaded ≡ not (list_any has_no_name rows) → LeavesLoaded listed fault is_loaded
refused_leaves listed rows KeeperFailed is_loaded same never left = absurd never
refused_leaves None rows (BadRow place) is_loaded same is left = tt
refused_leaves (Some list) rows (BadRow place) is_loaded same is left = subst (λ (x : List Row). is_loaded ≡ not (list_any has_no_name x)) same left
refused_leaves listed rows OutOfMemory is_loaded same nothing left = tt
