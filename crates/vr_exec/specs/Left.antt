-- What is left where a part of a pipeline has run.
use Rattle.std.specs.Prelude.{◌≡◌, Result, Ok, Err}
use Rattle.vr_files.specs.Changes.{Layers}
use Rattle.vr_files.specs.FileMaps.{FileMap}
use Rattle.vr_policy_read.specs.PolicyData.{PolicyData}
use Rattle.vr_exec.specs.declared.running.Left.{Left}
use Rattle.vr_exec.specs.declared.running.Stop.{Stop}
use Rattle.vr_exec.specs.declared.running.Stop.TheVariants.{Trapped, OutOfFuel, OutOfMemory, NotLoaded}
use Rattle.vr_exec.specs.Runs.{End, ended, trapped, exhausted, Setting}

-- the setting of a run whose files are these, over those with which it began
abbrev pub setting_of : PolicyData → Layers → Setting
setting_of policy files = record { policy = policy; opening = files.base }

-- A fact of how a part ended, by what is left, over the files with which the run began. Where
-- memory ran out there is none, and that a program is not loaded never is.
abbrev pub EndsBy : FileMap → Result Left Stop → (End → Type 0) → Type 0
EndsBy opening (Ok left) P =
    (left.files.base ≡ opening) × P (ended left.code left.out left.files.files left.fuel)
EndsBy opening (Err (Trapped path kind)) P = P (trapped path kind)
EndsBy opening (Err (OutOfFuel path)) P = P (exhausted path)
EndsBy opening (Err OutOfMemory) P = Unit {0}
EndsBy opening (Err NotLoaded) P = ⊥
