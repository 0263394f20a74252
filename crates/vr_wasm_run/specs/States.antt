-- What a running program keeps, and what an instruction that stays in its sequence makes of it.
use Rattle.std.specs.Prelude.{ℕ, ◌+◌, ◌≡◌, ◌≢◌, ◌≤◌, ◌<◌, length, Result, Ok, Err, Option, Some, None}
use Rattle.vr_wasm_ast.specs.declared.opcodes.NumericFamily.{NumericFamily}
use Rattle.vr_wasm_ast.specs.declared.opcodes.NumericFamily.TheVariants.{Conversion}
use Rattle.vr_wasm_ast.specs.Instructions.{Instruction}
use Rattle.vr_wasm_num.specs.declared.trap.Trap.{Trap}
use Rattle.vr_wasm_num.specs.declared.trap.TheConstants.{TOO_MANY_VALUES}
use Rattle.vr_wasm_steps.specs.declared.limits.TheConstants.{MAX_SLOTS}
use Rattle.vr_wasm_steps.specs.Effects.{Effect, leaves, trapped, stuck, effect}
use Rattle.vr_wasm_steps.specs.Store.{Store}
use Rattle.vr_wasm_steps.specs.Terms.{slots}
use Rattle.vr_wasm_stacks.specs.Positions.{term_of}
use Rattle.vr_wasm_run.specs.Plain.{IsPlain}
use Rattle.vr_wasm_run.specs.declared.state.State.{State}

-- the memory, the table and the globals
abbrev pub store_of : State → Store
store_of s = record { memory = s.memory; table = s.table.items; globals = s.globals.items }

-- what the instruction does here
abbrev pub effect_of : State → Instruction → Effect
effect_of s i = effect (store_of s) s.stacks.locals s.stacks.operands i

-- the operands and locals are not too many
abbrev pub IsWithin : State → Type 0
IsWithin s = slots (term_of s.stacks) ≤ MAX_SLOTS

-- some rule applies to the instruction
pub record Ready (s : State) (i : Instruction) : Type 0 where
  pub within : IsWithin s
  pub rule : effect_of s i ≢ stuck

-- after the effect: the cost of the row, and the state, in which the same instructions are left;
-- or the trap
abbrev pub Makes : State → Effect → Result ℕ Trap → State → Type 0
Makes s (leaves cost m ls vs) (Ok n) s' =
    (n ≡ cost)
    × (store_of s' ≡ m)
    × (s'.stacks ≡ record s.stacks { locals = ls; operands = vs })
    × (slots (term_of s.stacks) + length vs ≤ MAX_SLOTS + length s.stacks.operands)
Makes s (leaves cost m ls vs) (Err trap) s' =
    (trap.kind ≡ TOO_MANY_VALUES)
    × (MAX_SLOTS + length s.stacks.operands < slots (term_of s.stacks) + length vs)
Makes s (trapped kind) (Ok n) s' = ⊥
Makes s (trapped kind) (Err trap) s' = trap.kind ≡ kind
Makes s stuck result s' = Unit {0}

-- the same of an instruction that stays in its sequence; one that leaves it does nothing here
abbrev pub Applies : State → Instruction → Option (Result ℕ Trap) → State → Type 0
Applies s i (Some result) s' = IsPlain i × Makes s (effect_of s i) result s'
Applies s i None s' = (IsPlain i → ⊥) × (s' ≡ s)

-- the operations of the family turn a number into one of another type or width
abbrev pub IsConversion : Option NumericFamily → Type 0
IsConversion (Some (Conversion from to)) = Unit {0}
IsConversion f = ⊥
