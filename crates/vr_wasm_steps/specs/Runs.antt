-- Whole runs: rows, one after the other.
use Rattle.std.specs.Prelude.{ℕ, suc, zero, ◌+◌, ◌≡◌, ◌≢◌, ◌≤◌, [], ◌∷◌, ◌++◌, Option, option_to_list}
use Rattle.vr_wasm_steps.specs.Rows.{Program, Config, step, over, exits_with, traps, lost, next}
use Rattle.vr_wasm_steps.specs.Store.{Store}
use Rattle.vr_wasm_steps.specs.Terms.{end}

-- so many rows, which cost so much together, lead from one configuration to another
unfoldable pub Rows : {W : Type 0} → Program W → ℕ → ℕ → Config W → Config W → Type 0
Rows p zero n k k' = (n ≡ 0) × (k ≡ k')
Rows {W} p (suc rows) n k k' =
    (cost : ℕ) × (rest : ℕ) × (middle : Config W) × (n ≡ cost + rest)
    × (next p k ≡ step cost middle) × Rows p rows rest middle k'

-- It ends in n steps with this code, in this world: only values are left and no function is to be called, which is
-- code 0, or the last step was an exit.
pub data Ends {W : Type 0} (p : Program W) (n : ℕ) (k : Config W) (code : ℕ) (w : W) : Type 0 where
  at_end : (rows : ℕ) (last : Config W) → Rows p rows n k last → next p last ≡ over → code ≡ 0
      → w ≡ last.world → Ends p n k code w
  by_exit : (rows before : ℕ) (last : Config W) → n ≡ before + 1 → Rows p rows before k last
      → next p last ≡ exits_with code w → Ends p n k code w

-- it traps in n steps, the last of which is the trap
pub record Traps {W : Type 0} (p : Program W) (n : ℕ) (k : Config W) (kind : ℕ) : Type 0 where
  pub rows : ℕ
  pub before : ℕ
  pub last : Config W
  pub count : n ≡ before + 1
  pub reached : Rows p rows before k last
  pub trap : next p last ≡ traps kind

-- it still runs after n steps: it neither ends nor traps in n steps or fewer
pub record StillRuns {W : Type 0} (p : Program W) (n : ℕ) (k : Config W) : Type 0 where
  pub no_end : (m code : ℕ) (w : W) → m ≤ n → Ends p m k code w → ⊥
  pub no_trap : (m kind : ℕ) → m ≤ n → Traps p m k kind → ⊥

-- of each configuration that it reaches a row comes next, or it has ended
abbrev pub NeverLost : {W : Type 0} → Program W → Config W → Type 0
NeverLost {W} p k = (rows n : ℕ) (last : Config W) → Rows p rows n k last → next p last ≢ lost

-- before the first step: the start function and then another one are to be called from outside
abbrev pub start : {W : Type 0} → Store → W → Option ℕ → ℕ → Config W
start m w first main =
    record { store = m; world = w; term = end; calls = option_to_list first ++ main ∷ [] }
