-- What a crash may leave of the files, by the keeper's clock: the fact `leaves time files` says that a crash at some moment
-- since the time may leave these files.
use Rattle.std.specs.Prelude.{◌≡◌, ◌≢◌, ◌≤◌, ℕ, ◌⊎◌, ◌↔◌}
use Rattle.vr_base.specs.declared.calls.Reply.{Reply}
use Rattle.vr_base.specs.declared.calls.Reply.TheVariants.{Unavailable}
use Rattle.vr_files.specs.FileMaps.{FileMap}
use Rattle.vr_core.specs.Machine.{effect}
use Rattle.vr_core.specs.Replies.{IsKept}

-- A crash since the time leaves these files alone.
abbrev pub LeavesOnly : (ℕ → FileMap → Type 0) → ℕ → FileMap → Type 0
LeavesOnly leaves time files = (left : FileMap) → leaves time left → left ≡ files

-- What a crash leaves during and after a call, in which the clock does not fall. Before are the files as it began, those
-- that pass are files that the machine gives after it, and after are those as it ended. Where a crash could leave nothing
-- but the files before, one during the call leaves these or the next, and one after it, unless the keeper failed, the
-- files after alone. After a fault of the keeper it leaves what it could before, or the files before, or the next. After
-- changes that were kept it leaves the files after alone, and after any other answer what it could before.
pub record StepsSafely (old new : ℕ → FileMap → Type 0) (start now : ℕ) (before : FileMap)
    (IsNext : FileMap → Type 0) (after : FileMap) (reply : Reply) : Type 0 where
  pub later : start ≤ now
  pub during : LeavesOnly old start before
      → (left : FileMap) → new start left → (left ≡ before) ⊎ IsNext left
  pub clean : LeavesOnly old start before → reply ≢ Unavailable → LeavesOnly new now after
  pub failed : reply ≡ Unavailable
      → (left : FileMap) → new now left → old start left ⊎ ((left ≡ before) ⊎ IsNext left)
  pub kept : IsKept before (effect reply after) → LeavesOnly new now after
  pub other : reply ≢ Unavailable → (IsKept before (effect reply after) → ⊥)
      → (left : FileMap) → new now left ↔ old start left
