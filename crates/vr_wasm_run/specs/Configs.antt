-- The configuration that a state is in.
use Rattle.std.specs.Prelude.{ℕ, List}
use Rattle.vr_wasm_steps.specs.Rows.{Config}
use Rattle.vr_wasm_stacks.specs.Positions.{term_of}
use Rattle.vr_wasm_run.specs.States.{store_of}
use Rattle.vr_wasm_run.specs.declared.state.State.{State}

-- with the host's world, and the functions that are still to be called from outside
abbrev pub config_of : {W : Type 0} → State → W → List ℕ → Config W
config_of s w calls = record {
  store = store_of s;
  world = w;
  term = term_of s.stacks;
  calls = calls;
}
