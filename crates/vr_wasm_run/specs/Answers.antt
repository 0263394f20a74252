-- What the answer of a run says.
use Rattle.std.specs.Prelude.{ℕ, ◌≡◌, ◌≤◌, ◌⊎◌}
use Rattle.vr_wasm_steps.specs.Rows.{Program, Config}
use Rattle.vr_wasm_steps.specs.Runs.{Ends, StillRuns, Traps}
use Rattle.vr_wasm_run.specs.declared.machine.End.{End}
use Rattle.vr_wasm_run.specs.declared.machine.End.TheVariants.{Ended, Trapped, OutOfFuel, HostStopped}

-- of so many steps from a configuration, with the host's world after the run
abbrev pub Tells : {W : Type 0} → Program W → ℕ → Config W → End → W → Type 0
Tells p fuel k (Ended code used) w = (used ≤ fuel) × Ends p used k code w
Tells p fuel k (Trapped kind used) w = (used ≤ fuel) × Traps p used k kind
Tells p fuel k OutOfFuel w = StillRuns p fuel k
Tells p fuel k HostStopped w = Unit {0}

-- it is the only one, unless the host stopped the run
pub record IsExact {W : Type 0} (p : Program W) (fuel : ℕ) (k : Config W)
    (end : End) (w : W) : Type 0 where
  pub ended : (code used : ℕ) (w' : W) → used ≤ fuel → Ends p used k code w'
      → (end ≡ HostStopped) ⊎ ((end ≡ Ended code used) × (w' ≡ w))
  pub trapped : (kind used : ℕ) → used ≤ fuel → Traps p used k kind
      → (end ≡ HostStopped) ⊎ (end ≡ Trapped kind used)
  pub running : StillRuns p fuel k → (end ≡ HostStopped) ⊎ (end ≡ OutOfFuel)
