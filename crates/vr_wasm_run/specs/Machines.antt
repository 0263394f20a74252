-- A machine as a program and a configuration, and what a step of it is.
use Rattle.std.specs.Prelude.{ℕ, ◌≡◌, ◌≢◌, ◌≤◌, ◌<◌, List, ◌∷◌, ◌++◌, [], length, Option, option_to_list, map}
use Rattle.vr_wasm_ast.specs.declared.instr.Instr.{Instr}
use Rattle.vr_wasm_link.specs.Functions.{function_of}
use Rattle.vr_wasm_steps.specs.Hosts.{Rose}
use Rattle.vr_wasm_steps.specs.Rows.{Program, Config, Next, step, over, exits_with, traps, lost, next}
use Rattle.vr_wasm_steps.specs.Runs.{NeverLost}
use Rattle.vr_wasm_stacks.specs.Positions.{IsRooted}
use Rattle.vr_wasm_run.specs.Calls.{Finds, Replies, AreCallable}
use Rattle.vr_wasm_run.specs.Configs.{config_of}
use Rattle.vr_wasm_run.specs.States.{IsWithin}
use Rattle.vr_wasm_run.specs.declared.running.Running.{Running}
use Rattle.vr_wasm_run.specs.declared.progress.Progress.{Progress}
use Rattle.vr_wasm_run.specs.declared.progress.Progress.TheVariants.{Went, Over, Exited, Trapped, Stopped}

-- its types and its functions, with what a host replies
abbrev pub program_of : {H W : Type 0} → Replies W → Running H → Program W
program_of reply m = record {
  types = m.types.now;
  functions = map function_of m.functions.items;
  reply = reply;
}

-- the functions that are still to be called from outside, where there are any
abbrev pub waiting : Option ℕ → Option ℕ → List ℕ
waiting first main = option_to_list first ++ option_to_list main

-- those of the machine
abbrev pub pending : {H : Type 0} → Running H → List ℕ
pending m = waiting m.first m.main

-- with the world of its host
abbrev pub config : {H W : Type 0} → (H → W) → Running H → Config W
config world m = config_of m.state (world m.host) (pending m)

-- the progress is what comes next, from this world to the configuration after it
abbrev pub IsRow : {W : Type 0} → Next W → W → Progress → Config W → Type 0
IsRow n w (Went cost) k = n ≡ step cost k
IsRow n w Over k = (n ≡ over) × (k.world ≡ w)
IsRow n w (Exited code) k = n ≡ exits_with code k.world
IsRow n w (Trapped kind) k = n ≡ traps kind
IsRow n w Stopped k = Unit {0}

-- the machine is before this instruction, and some row applies
pub record Stands {H W : Type 0} (world : H → W) (reply : Replies W) (m : Running H)
    (i : Instr) (rest : List Instr) : Type 0 where
  pub rooted : IsRooted m.state.stacks.layers m.state.stacks.locals
  pub within : IsWithin m.state
  pub code : m.state.stacks.code ≡ i ∷ rest
  pub live : next (program_of reply m) (config world m) ≢ lost

-- the machine is at the end of a block or a function, and some row applies
pub record StandsAtEnd {H W : Type 0} (world : H → W) (reply : Replies W)
    (m : Running H) : Type 0 where
  pub rooted : IsRooted m.state.stacks.layers m.state.stacks.locals
  pub code : m.state.stacks.code ≡ []
  pub inside : m.state.stacks.layers ≢ []
  pub live : next (program_of reply m) (config world m) ≢ lost

-- each function can be called, and some row applies or the program has ended
pub record IsLive {H W : Type 0} (finds : Finds) (world : H → W) (reply : Replies W)
    (m : Running H) : Type 0 where
  pub callable : AreCallable finds (program_of reply m).functions
  pub live : next (program_of reply m) (config world m) ≢ lost

-- the machine went on by one row, and the count of stops rises where the host stopped it
pub record Steps {H W : Type 0} (world : H → W) (stops : H → ℕ) (reply : Replies W)
    (m : Running H) (progress : Progress) (m' : Running H) : Type 0 where
  pub row : IsRow (next (program_of reply m) (config world m)) (world m.host) progress
      (config world m')
  pub program : program_of reply m' ≡ program_of reply m
  pub counted : stops m.host ≤ stops m'.host
  pub stopped : progress ≡ Stopped → Rose (stops m.host) (stops m'.host)

-- a function of the module's own was entered without a row: the same comes next, and fewer functions
-- are still to be called from outside
pub record Enters {H W : Type 0} (world : H → W) (reply : Replies W)
    (m m' : Running H) : Type 0 where
  pub same : next (program_of reply m') (config world m')
      ≡ next (program_of reply m) (config world m)
  pub program : program_of reply m' ≡ program_of reply m
  pub host : m'.host ≡ m.host
  pub fewer : length (pending m') < length (pending m)

-- each function can be called, and the program is never lost
pub record IsFit {H W : Type 0} (finds : Finds) (world : H → W) (reply : Replies W)
    (m : Running H) : Type 0 where
  pub callable : AreCallable finds (program_of reply m).functions
  pub live : NeverLost (program_of reply m) (config world m)
