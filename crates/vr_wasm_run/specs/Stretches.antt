-- What a straight run came to.
use Rattle.std.specs.Prelude.{ℕ, ◌+◌, ◌-◌, ◌≡◌, ◌≤◌, ◌<◌}
use Rattle.vr_wasm_steps.specs.Rows.{Program, Config}
use Rattle.vr_wasm_steps.specs.Runs.{Rows, StillRuns, Traps}
use Rattle.vr_wasm_run.specs.Calls.{Replies}
use Rattle.vr_wasm_run.specs.Machines.{program_of, config}
use Rattle.vr_wasm_run.specs.Plain.{IsStretchEnd}
use Rattle.vr_wasm_run.specs.declared.running.Running.{Running}
use Rattle.vr_wasm_run.specs.declared.stretch.Stretch.{Stretch}
use Rattle.vr_wasm_run.specs.declared.stretch.Stretch.TheVariants.{Through, Trapped, Short}

-- rows lead from one configuration to another, and so much of the fuel is left
pub record Leads {W : Type 0} (p : Program W) (fuel : ℕ) (k : Config W)
    (left : ℕ) (k' : Config W) : Type 0 where
  pub rows : ℕ
  pub used : ℕ
  pub count : used + left ≡ fuel
  pub reached : Rows p rows used k k'

-- with so much fuel, from the machine to that after it
abbrev pub TellsStretch : {H W : Type 0} → (H → W) → Replies W
    → Running H → ℕ → Stretch → Running H → Type 0
TellsStretch world reply m fuel (Through left) m' =
    Leads (program_of reply m) fuel (config world m) left (config world m')
    × IsStretchEnd m'.state.stacks.code
TellsStretch world reply m fuel (Trapped kind left) m' =
    (0 < left) × (left ≤ fuel)
    × Traps (program_of reply m) (fuel - left + 1) (config world m) kind
TellsStretch world reply m fuel Short m' =
    StillRuns (program_of reply m) fuel (config world m)
