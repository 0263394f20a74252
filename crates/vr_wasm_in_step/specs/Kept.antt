-- What each reply of a host keeps true of its world.
use Rattle.std.specs.Prelude.{ℕ, List}
use Rattle.vr_wasm_ast.specs.declared.tree.FuncType.{FuncType}
use Rattle.vr_wasm_num.specs.Memory.{Contents}
use Rattle.vr_wasm_steps.specs.Hosts.{Reply, gives_value, gives_nothing, exits}
use Rattle.vr_wasm_steps.specs.Rows.{Program, Config, Callee}
use Rattle.vr_wasm_steps.specs.Runs.{Rows, Ends}
use Rattle.vr_wasm_in_step.specs.InStep.{Replies, over_host}

-- the world after a reply
abbrev pub world_after : {W : Type 0} → Reply W → W
world_after (gives_value v memory w) = w
world_after (gives_nothing memory w) = w
world_after (exits code memory w) = w

-- where it holds of a world, it holds of the world after each reply
abbrev pub RepliesKeep : {W : Type 0} → (W → Type 0) → Replies W → Type 0
RepliesKeep {W} I reply =
    (w : W) → I w → (which : ℕ) (args : List ℕ) (memory : Contents)
    → I (world_after (reply w which args memory))

-- it holds of the world of each configuration that is reached, and of the world at the end
pub record Kept {W : Type 0} (I : W → Type 0) (p : Program W) (k : Config W) : Type 0 where
  pub reached : (r n : ℕ) (last : Config W) → Rows p r n k last → I last.world
  pub ended : (n code : ℕ) (w : W) → Ends p n k code w → I w

-- the law: whatever the functions, what holds of the first world is kept
abbrev pub StayKept : {W : Type 0} → (W → Type 0) → Replies W → Type 0
StayKept {W} I reply =
    (types : List FuncType) (functions : List Callee) (k : Config W)
    → I k.world → Kept I (over_host types functions reply) k
