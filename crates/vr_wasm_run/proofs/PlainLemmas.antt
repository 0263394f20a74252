-- An instruction that stays in its sequence is one row.
use Rattle.std.proofs.Common.{ℕ, ◌≡◌, ◌≢◌, List, ◌∷◌, Result, Ok, Err, refl, ap, sym, ◌∙◌}
use Rattle.vr_wasm_ast.specs.declared.instr.Instr.{Instr}
use Rattle.vr_wasm_ast.specs.Instructions.{instruction_of}
use Rattle.vr_wasm_num.specs.declared.trap.Trap.{Trap}
use Rattle.vr_wasm_steps.specs.Effects.{Effect, leaves, trapped, stuck}
use Rattle.vr_wasm_steps.specs.Rows.{Program, step, traps, lost, next}
use Rattle.vr_wasm_stacks.specs.Positions.{IsRooted, term_of, with_code}
use Rattle.vr_wasm_run.specs.Configs.{config_of}
use Rattle.vr_wasm_run.specs.Plain.{IsPlain}
use Rattle.vr_wasm_run.specs.States.{store_of, effect_of, Makes, Ready, IsWithin}
use Rattle.vr_wasm_run.specs.declared.state.State.{State}
use Rattle.vr_wasm_run.proofs.RowLemmas.{IsAt, plain_step, plain_full, plain_trap, plain_rule}

module _ {W : Type 0} (p : Program W) (s : State) (w : W) (calls : List ℕ) (i : Instr) (rest : List Instr)
    (rooted : IsRooted s.stacks.layers s.stacks.locals) (code : s.stacks.code ≡ i ∷ rest) (ordinary : IsPlain (instruction_of i)) (live : next p (config_of s w calls) ≢ lost) where
  here : IsAt p (config_of s w calls) s.stacks i rest
  here = record { term = refl; rooted = rooted; code = code }

  pub ready_for : IsWithin s → Ready s (instruction_of i)
  ready_for within = record { within = within; rule = plain_rule p (config_of s w calls) s.stacks i rest here ordinary live }

  -- the row that the result tells of: one of this cost to the state after it, or the trap
  abbrev pub TellsRow : Result ℕ Trap → State → Type 0
  TellsRow (Ok cost) s' = next p (config_of s w calls) ≡ step cost (record { store = store_of s'; world = w; term = term_of (with_code s'.stacks rest); calls = calls })
  TellsRow (Err trap) s' = next p (config_of s w calls) ≡ traps trap.kind

  row_at : (e : Effect) (result : Result ℕ Trap) (s' : State) → effect_of s (instruction_of i) ≡ e → Makes s e result s' → TellsRow result s'
  row_at (leaves cost m ls vs) (Ok n) s' e h =
      plain_step p (config_of s w calls) s.stacks i rest cost m ls vs here ordinary e h.3
      ∙ ap (λ c. step c (record { store = m; world = w; term = term_of (record { layers = s.stacks.layers; locals = ls; operands = vs; code = rest }); calls = calls })) (sym h.0)
      ∙ ap (λ x. step n (record { store = x; world = w; term = term_of (record { layers = s.stacks.layers; locals = ls; operands = vs; code = rest }); calls = calls })) (sym h.1)
      ∙ ap (λ z. step n (record { store = store_of s'; world = w; term = term_of (with_code z rest); calls = calls })) (sym h.2)
  row_at (leaves cost m ls vs) (Err trap) s' e h =
      plain_full p (config_of s w calls) s.stacks i rest cost m ls vs here ordinary e h.1 ∙ ap traps (sym h.0)
  row_at (trapped kind) (Ok n) s' e h = absurd h
  row_at (trapped kind) (Err trap) s' e h = plain_trap p (config_of s w calls) s.stacks i rest kind here ordinary e ∙ ap traps (sym h)
  row_at stuck result s' e h = absurd (plain_rule p (config_of s w calls) s.stacks i rest here ordinary live e)

  pub plain_row : (result : Result ℕ Trap) (s' : State) → Makes s (effect_of s (instruction_of i)) result s' → TellsRow result s'
  plain_row result s' h = row_at (effect_of s (instruction_of i)) result s' refl h
