-- What a crash may leave of a keeper's rows. A keeper that tells it has a clock, and a relation of clock values and maps: whether a
-- crash at some moment since then may leave the map. What a crash may leave now is what it may leave since the clock's value.
use Rattle.std.specs.Prelude.{◌≡◌, ◌≤◌, ◌⊎◌, ◌↔◌, ℕ, List, Result, Err, OnOk}
use Rattle.vr_files.specs.FileMaps.{FileMap}
use Rattle.vr_files.specs.Changes.{Change, applied}
use Rattle.vr_keeper.specs.declared.keepers.KeepFault.{KeepFault}
use Rattle.vr_keeper.specs.declared.keepers.KeepFault.TheVariants.{Failed, OutOfMemory}

-- A crash since the start of the load leaves what a crash could leave at its start.
pub record LoadKeepsCrashes (start now : ℕ) (old new : ℕ → FileMap → Type 0) : Type 0 where
  pub later : start ≤ now
  pub since : (map : FileMap) → new start map → old start map

-- A crash could leave the map as the changes began, or it is the rows then, or those with the changes made.
abbrev pub LeftByChanges : (FileMap → Type 0) → FileMap → List Change → FileMap → Type 0
LeftByChanges before rows changes map = before map ⊎ ((map ≡ rows) ⊎ (map ≡ applied rows changes))

-- What a crash may leave where changes were asked of rows.
pub record ApplyLeaves (start now : ℕ) (old new : ℕ → FileMap → Type 0) (rows : FileMap)
    (changes : List Change) (result : Result (Unit {0}) KeepFault) : Type 0 where
  pub later : start ≤ now
  -- at any moment since its start
  pub since : (map : FileMap) → new start map → LeftByChanges (old start) rows changes map
  -- after an Ok the rows with the changes, and nothing else
  pub done : OnOk result ((map : FileMap) → new now map ↔ (map ≡ applied rows changes))
  -- after a failure one of those that a crash during it may leave
  pub failed : result ≡ Err Failed → (map : FileMap) → new now map
      → LeftByChanges (old start) rows changes map
  -- without memory what it was
  pub no_memory : result ≡ Err OutOfMemory
      → (now ≡ start) × ((time : ℕ) (map : FileMap) → new time map ↔ old time map)
