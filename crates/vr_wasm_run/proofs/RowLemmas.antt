-- The row of an instruction at a position.
use Rattle.std.proofs.Common.{ℕ, ◌+◌, ◌≡◌, ◌≢◌, ◌≤◌, ◌<◌, List, ◌∷◌, length, if◌then◌else◌, refl, ap, ◌∙◌}
use Rattle.std.proofs.lemmas.Bool.{le-leb, lt-leb}
use Rattle.vr_wasm_ast.specs.declared.instr.Instr.{Instr}
use Rattle.vr_wasm_ast.specs.Instructions.{Instruction, unreachable, nop, block, loop, if_, br, br_if, br_table, return_, call, call_indirect, drop, select, local_get, local_set, local_tee, global_get, global_set, load, store, memory_size, memory_grow, memory_copy, memory_fill, i32_const, i64_const, numeric, instruction_of, instructions_of}
use Rattle.vr_wasm_num.specs.declared.trap.TheConstants.{TOO_MANY_VALUES}
use Rattle.vr_wasm_steps.specs.declared.limits.TheConstants.{MAX_SLOTS}
use Rattle.vr_wasm_steps.specs.Effects.{leaves, trapped, stuck, effect}
use Rattle.vr_wasm_steps.specs.Rows.{Program, Config, stepped, traps_with, settles, row, walk, step, traps, lost, next_of, next}
use Rattle.vr_wasm_steps.specs.Store.{Store}
use Rattle.vr_wasm_steps.specs.Terms.{Term, end, plains, unwind, slots}
use Rattle.vr_wasm_stacks.specs.Positions.{Position, term_of, IsRooted}
use Rattle.vr_wasm_run.specs.Plain.{IsPlain}
use Rattle.vr_wasm_run.proofs.ThroughLemmas.{next-through, through, through-stepped, through-traps, through-no_row}

module _ {W : Type 0} (p : Program W) (k : Config W) where
  row-plain : (ls vs : List ℕ) (i : Instruction) (s : Term) → IsPlain i → row p k ls vs i s ≡ settles k vs s (effect k.store ls vs i)
  row-plain ls vs unreachable s h = refl
  row-plain ls vs nop s h = refl
  row-plain ls vs (block t body) s h = absurd h
  row-plain ls vs (loop t body) s h = absurd h
  row-plain ls vs (if_ t taken other) s h = absurd h
  row-plain ls vs (br l) s h = absurd h
  row-plain ls vs (br_if l) s h = absurd h
  row-plain ls vs (br_table js l) s h = absurd h
  row-plain ls vs return_ s h = absurd h
  row-plain ls vs (call f) s h = absurd h
  row-plain ls vs (call_indirect n) s h = absurd h
  row-plain ls vs drop s h = refl
  row-plain ls vs select s h = refl
  row-plain ls vs (local_get x) s h = refl
  row-plain ls vs (local_set x) s h = refl
  row-plain ls vs (local_tee x) s h = refl
  row-plain ls vs (global_get x) s h = refl
  row-plain ls vs (global_set x) s h = refl
  row-plain ls vs (load op e o) s h = refl
  row-plain ls vs (store op e o) s h = refl
  row-plain ls vs memory_size s h = refl
  row-plain ls vs memory_grow s h = refl
  row-plain ls vs memory_copy s h = refl
  row-plain ls vs memory_fill s h = refl
  row-plain ls vs (i32_const z) s h = refl
  row-plain ls vs (i64_const z) s h = refl
  row-plain ls vs (numeric op) s h = refl

  -- the configuration is at this position
  pub record IsAt (z : Position) (i : Instr) (rest : List Instr) : Type 0 where
    pub term : k.term ≡ term_of z
    pub rooted : IsRooted z.layers z.locals
    pub code : z.code ≡ i ∷ rest

  pub next-row : (z : Position) (i : Instr) (rest : List Instr) → IsAt z i rest
      → next p k ≡ next_of p k k.calls (through p k z.layers z.locals (row p k z.locals z.operands (instruction_of i) (plains (instructions_of rest) end)))
  unfolding walk
  next-row z i rest h =
      next-through p k z h.term h.rooted
      ∙ ap (λ c. next_of p k k.calls (through p k z.layers z.locals (walk p k z.locals z.operands (plains (instructions_of c) end)))) h.code

  next-effect : (z : Position) (i : Instr) (rest : List Instr) → IsAt z i rest → IsPlain (instruction_of i)
      → next p k ≡ next_of p k k.calls (through p k z.layers z.locals (settles k z.operands (plains (instructions_of rest) end) (effect k.store z.locals z.operands (instruction_of i))))
  next-effect z i rest h ordinary =
      next-row z i rest h ∙ ap (λ o. next_of p k k.calls (through p k z.layers z.locals o)) (row-plain z.locals z.operands (instruction_of i) (plains (instructions_of rest) end) ordinary)

  -- an instruction that stays in its sequence
  pub plain_step : (z : Position) (i : Instr) (rest : List Instr) (cost : ℕ) (m : Store) (ls vs : List ℕ) → IsAt z i rest → IsPlain (instruction_of i)
      → effect k.store z.locals z.operands (instruction_of i) ≡ leaves cost m ls vs → slots k.term + length vs ≤ MAX_SLOTS + length z.operands
      → next p k ≡ step cost (record { store = m; world = k.world; term = term_of (record { layers = z.layers; locals = ls; operands = vs; code = rest }); calls = k.calls })
  plain_step z i rest cost m ls vs h ordinary e fits =
      let s : Term = plains (instructions_of rest) end in
      next-effect z i rest h ordinary
      ∙ ap (λ x. next_of p k k.calls (through p k z.layers z.locals (settles k z.operands s x))) e
      ∙ ap (λ b. next_of p k k.calls (through p k z.layers z.locals (if b then stepped cost m k.world ls (unwind vs s) else traps_with TOO_MANY_VALUES))) (le-leb (slots k.term + length vs) (MAX_SLOTS + length z.operands) fits)
      ∙ through-stepped p k z.layers z.locals ls cost m k.world (unwind vs s)

  pub plain_full : (z : Position) (i : Instr) (rest : List Instr) (cost : ℕ) (m : Store) (ls vs : List ℕ) → IsAt z i rest → IsPlain (instruction_of i)
      → effect k.store z.locals z.operands (instruction_of i) ≡ leaves cost m ls vs → MAX_SLOTS + length z.operands < slots k.term + length vs → next p k ≡ traps TOO_MANY_VALUES
  plain_full z i rest cost m ls vs h ordinary e full =
      let s : Term = plains (instructions_of rest) end in
      next-effect z i rest h ordinary
      ∙ ap (λ x. next_of p k k.calls (through p k z.layers z.locals (settles k z.operands s x))) e
      ∙ ap (λ b. next_of p k k.calls (through p k z.layers z.locals (if b then stepped cost m k.world ls (unwind vs s) else traps_with TOO_MANY_VALUES))) (lt-leb (slots k.term + length vs) (MAX_SLOTS + length z.operands) full)
      ∙ ap (next_of p k k.calls) (through-traps p k z.layers z.locals TOO_MANY_VALUES)

  pub plain_trap : (z : Position) (i : Instr) (rest : List Instr) (kind : ℕ) → IsAt z i rest → IsPlain (instruction_of i)
      → effect k.store z.locals z.operands (instruction_of i) ≡ trapped kind → next p k ≡ traps kind
  plain_trap z i rest kind h ordinary e =
      next-effect z i rest h ordinary
      ∙ ap (λ x. next_of p k k.calls (through p k z.layers z.locals (settles k z.operands (plains (instructions_of rest) end) x))) e
      ∙ ap (next_of p k k.calls) (through-traps p k z.layers z.locals kind)

  -- a plain instruction without a rule is lost
  pub plain_rule : (z : Position) (i : Instr) (rest : List Instr) → IsAt z i rest → IsPlain (instruction_of i) → next p k ≢ lost → effect k.store z.locals z.operands (instruction_of i) ≢ stuck
  plain_rule z i rest h ordinary live e = live (
      next-effect z i rest h ordinary
      ∙ ap (λ x. next_of p k k.calls (through p k z.layers z.locals (settles k z.operands (plains (instructions_of rest) end) x))) e
      ∙ ap (next_of p k k.calls) (through-no_row p k z.layers z.locals))
