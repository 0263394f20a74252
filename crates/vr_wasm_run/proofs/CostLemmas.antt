-- A row costs at least one, and only values are over.
use Rattle.std.proofs.Common.{ℕ, zero, suc, ◌+◌, ◌≡◌, ◌≤◌, List, [], ◌∷◌, length, slice_get, nat_le, Option, Some, None, Result, Ok, Err, Bool, true, false, if◌then◌else◌, refl, sym, ◌∙◌, arith}
use Rattle.vr_wasm_ast.specs.declared.instr.Instr.{Instr}
use Rattle.vr_wasm_ast.specs.declared.opcodes.MemoryAccess.{MemoryAccess}
use Rattle.vr_wasm_ast.specs.declared.opcodes.NumericFamily.{NumericFamily}
use Rattle.vr_wasm_ast.specs.declared.opcodes.NumericFamily.TheVariants as family
use Rattle.vr_wasm_ast.specs.declared.tree.FuncType.{FuncType}
use Rattle.vr_wasm_ast.specs.declared.tree.ValType.{ValType}
use Rattle.vr_wasm_ast.specs.Instructions.{Instruction, Instructions, unreachable, nop, block, loop, if_, br, br_if, br_table, return_, call, call_indirect, drop, select, local_get, local_set, local_tee, global_get, global_set, load, store, memory_size, memory_grow, memory_copy, memory_fill, i32_const, i64_const, numeric, instruction_of, instructions_of}
use Rattle.vr_wasm_ast.specs.Opcodes.{load_of, store_of, numeric_of}
use Rattle.vr_wasm_num.specs.declared.trap.Trap.{Trap}
use Rattle.vr_wasm_steps.specs.Effects.{Effect, leaves, trapped, stuck, effect, gives, computes, computed, loads, stores, pushes}
use Rattle.vr_wasm_steps.specs.Hosts.{Reply, gives_value, gives_nothing, exits}
use Rattle.vr_wasm_steps.specs.Rows.{Program, Config, Callee, own, outside, Outcome, stepped, finished, branching, returning, exited, traps_with, no_row, settles, in_label, in_frame, replied, called, called_as, called_by, row, walk, step, over, called_from_outside, entry, next_of, next}
use Rattle.vr_wasm_steps.specs.Store.{Store}
use Rattle.vr_wasm_steps.specs.Terms.{Term, end, value, plain, label, frame, plains, unwind, slots}
use Rattle.vr_wasm_steps.specs.declared.limits.TheConstants.{MAX_SLOTS}
use Rattle.vr_wasm_num.specs.declared.trap.TheConstants.{TOO_MANY_VALUES}
use Rattle.vr_wasm_stacks.specs.Positions.{Layer, in_label as label_layer, in_frame as frame_layer, Position, term_of, IsRooted}
use Rattle.vr_wasm_run.proofs.ThroughLemmas.{through, next-through}

-- ---- instructions that stay in their sequence

abbrev CostsIf : Effect → Type 0
CostsIf (leaves cost m ls vs) = 1 ≤ cost
CostsIf (trapped kind) = Unit {0}
CostsIf stuck = Unit {0}

-- the row costs one at least, where there is one
record Costs (e : Effect) : Type 0 where
  is : CostsIf e

some : (cost : ℕ) (m : Store) (ls vs : List ℕ) → 1 ≤ cost → Costs (leaves cost m ls vs)
some cost m ls vs h = record { is = h }

a_trap : (kind : ℕ) → Costs (trapped kind)
a_trap kind = record { is = tt }

none : Costs stuck
none = record { is = tt }

one : 1 ≤ 1
one = omega arith

more : (n : ℕ) → 1 ≤ 1 + n
more n = omega arith

either : (b : Bool) (x y : Effect) → Costs x → Costs y → Costs (if b then x else y)
either true x y p q = p
either false x y p q = q

ruleset costs_plainly = (some, a_trap, none, one)

gives_costs : (m : Store) (ls vs : List ℕ) (r : Option (Result ℕ Trap)) → Costs (gives m ls vs r)
gives_costs m ls vs None = search costs_plainly
gives_costs m ls vs (Some (Ok v)) = search costs_plainly
gives_costs m ls vs (Some (Err trap)) = search costs_plainly

ruleset costs_by = (either, gives_costs, some, a_trap, none, one, more)

computes_costs : (m : Store) (ls vs : List ℕ) (op : ℕ) (f : NumericFamily) → Costs (computes m ls vs op f)
computes_costs m ls [] op f = search costs_plainly
computes_costs m ls (i ∷ vs) op (family.Unary t) = search costs_by
computes_costs m ls (i ∷ vs) op (family.Test t) = search costs_by
computes_costs m ls (i ∷ vs) op (family.Conversion from to) = search costs_by
computes_costs m ls (i ∷ []) op (family.Binary t) = search costs_plainly
computes_costs m ls (i ∷ []) op (family.Comparison t) = search costs_plainly
computes_costs m ls (j ∷ i ∷ vs) op (family.Binary t) = search costs_by
computes_costs m ls (j ∷ i ∷ vs) op (family.Comparison t) = search costs_by

computed_costs : (m : Store) (ls vs : List ℕ) (op : ℕ) (f : Option NumericFamily) → Costs (computed m ls vs op f)
computed_costs m ls vs op None = search costs_plainly
computed_costs m ls vs op (Some f) = computes_costs m ls vs op f

loads_costs : (m : Store) (ls vs : List ℕ) (i offset : ℕ) (a : Option MemoryAccess) → Costs (loads m ls vs i offset a)
loads_costs m ls vs i offset None = search costs_plainly
loads_costs m ls vs i offset (Some a) = search costs_by

stores_costs : (m : Store) (ls vs : List ℕ) (i v offset : ℕ) (a : Option MemoryAccess) → Costs (stores m ls vs i v offset a)
stores_costs m ls vs i v offset None = search costs_plainly
stores_costs m ls vs i v offset (Some a) = search costs_by

pushes_costs : (m : Store) (ls vs : List ℕ) (v : Option ℕ) → Costs (pushes m ls vs v)
pushes_costs m ls vs None = search costs_plainly
pushes_costs m ls vs (Some v) = search costs_plainly

effect_costs : (m : Store) (ls vs : List ℕ) (i : Instruction) → Costs (effect m ls vs i)
effect_costs m ls vs unreachable = search costs_plainly
effect_costs m ls vs nop = search costs_plainly
effect_costs m ls [] drop = search costs_plainly
effect_costs m ls (v ∷ vs) drop = search costs_plainly
effect_costs m ls [] select = search costs_plainly
effect_costs m ls (c ∷ []) select = search costs_plainly
effect_costs m ls (c ∷ b ∷ []) select = search costs_plainly
effect_costs m ls (c ∷ b ∷ a ∷ vs) select = search costs_plainly
effect_costs m ls vs (local_get x) = pushes_costs m ls vs (slice_get ls x)
effect_costs m ls [] (local_set x) = search costs_plainly
effect_costs m ls (v ∷ vs) (local_set x) = search costs_by
effect_costs m ls [] (local_tee x) = search costs_plainly
effect_costs m ls (v ∷ vs) (local_tee x) = search costs_by
effect_costs m ls vs (global_get x) = pushes_costs m ls vs (slice_get m.globals x)
effect_costs m ls [] (global_set x) = search costs_plainly
effect_costs m ls (v ∷ vs) (global_set x) = search costs_by
effect_costs m ls [] (load op exponent offset) = search costs_plainly
effect_costs m ls (i ∷ vs) (load op exponent offset) = loads_costs m ls vs i offset (load_of op)
effect_costs m ls [] (store op exponent offset) = search costs_plainly
effect_costs m ls (v ∷ []) (store op exponent offset) = search costs_plainly
effect_costs m ls (v ∷ i ∷ vs) (store op exponent offset) = stores_costs m ls vs i v offset (store_of op)
effect_costs m ls vs memory_size = search costs_plainly
effect_costs m ls [] memory_grow = search costs_plainly
effect_costs m ls (n ∷ vs) memory_grow = search costs_by
effect_costs m ls [] memory_copy = search costs_plainly
effect_costs m ls (len ∷ []) memory_copy = search costs_plainly
effect_costs m ls (len ∷ from ∷ []) memory_copy = search costs_plainly
effect_costs m ls (len ∷ from ∷ to ∷ vs) memory_copy = search costs_by
effect_costs m ls [] memory_fill = search costs_plainly
effect_costs m ls (len ∷ []) memory_fill = search costs_plainly
effect_costs m ls (len ∷ v ∷ []) memory_fill = search costs_plainly
effect_costs m ls (len ∷ v ∷ at_ ∷ vs) memory_fill = search costs_by
effect_costs m ls vs (i32_const z) = search costs_plainly
effect_costs m ls vs (i64_const z) = search costs_plainly
effect_costs m ls vs (numeric op) = computed_costs m ls vs op (numeric_of op)
effect_costs m ls vs (block t body) = search costs_plainly
effect_costs m ls vs (loop t body) = search costs_plainly
effect_costs m ls vs (if_ t taken other) = search costs_plainly
effect_costs m ls vs (br l) = search costs_plainly
effect_costs m ls vs (br_if l) = search costs_plainly
effect_costs m ls vs (br_table js l) = search costs_plainly
effect_costs m ls vs return_ = search costs_plainly
effect_costs m ls vs (call f) = search costs_plainly
effect_costs m ls vs (call_indirect n) = search costs_plainly

-- ---- all rows

module _ {W : Type 0} where
  abbrev AdvancesIf : Outcome W → Type 0
  AdvancesIf (stepped cost m w ls s) = 1 ≤ cost
  AdvancesIf (finished vs) = ⊥
  AdvancesIf (branching l vs) = Unit {0}
  AdvancesIf (returning vs) = Unit {0}
  AdvancesIf (exited code w) = Unit {0}
  AdvancesIf (traps_with kind) = Unit {0}
  AdvancesIf no_row = Unit {0}

  -- a row of cost one at least, where it is one, and no end
  record Advances (o : Outcome W) : Type 0 where
    is : AdvancesIf o

  stepping : (cost : ℕ) (m : Store) (w : W) (ls : List ℕ) (s : Term) → 1 ≤ cost → Advances (stepped cost m w ls s)
  stepping cost m w ls s h = record { is = h }

  to_label : (l : ℕ) (vs : List ℕ) → Advances (branching l vs)
  to_label l vs = record { is = tt }

  out : (vs : List ℕ) → Advances (returning vs)
  out vs = record { is = tt }

  an_exit : (code : ℕ) (w : W) → Advances (exited code w)
  an_exit code w = record { is = tt }

  trapping : (kind : ℕ) → Advances (traps_with kind)
  trapping kind = record { is = tt }

  nothing : Advances no_row
  nothing = record { is = tt }

  abbrev IsCostlyIf : Outcome W → Type 0
  IsCostlyIf (stepped cost m w ls s) = 1 ≤ cost
  IsCostlyIf (finished vs) = Unit {0}
  IsCostlyIf (branching l vs) = Unit {0}
  IsCostlyIf (returning vs) = Unit {0}
  IsCostlyIf (exited code w) = Unit {0}
  IsCostlyIf (traps_with kind) = Unit {0}
  IsCostlyIf no_row = Unit {0}

  -- the same, or an end
  record IsCostly (o : Outcome W) : Type 0 where
    is : IsCostlyIf o

  costly : (o : Outcome W) → Advances o → IsCostly o
  costly (stepped cost m w ls s) h = record { is = h.is }
  costly (finished vs) h = record { is = tt }
  costly (branching l vs) h = record { is = tt }
  costly (returning vs) h = record { is = tt }
  costly (exited code w) h = record { is = tt }
  costly (traps_with kind) h = record { is = tt }
  costly no_row h = record { is = tt }

  if_advances : (b : Bool) (x y : Outcome W) → Advances x → Advances y → Advances (if b then x else y)
  if_advances true x y p q = p
  if_advances false x y p q = q

  ruleset advances_by = (if_advances, stepping, to_label, out, an_exit, trapping, nothing, one)

  settles_advances : (k : Config W) (vs : List ℕ) (s : Term) (e : Effect) → Costs e → Advances (settles k vs s e)
  settles_advances k vs s (leaves cost m ls after) h = if_advances (nat_le (slots k.term + length after) (MAX_SLOTS + length vs)) (stepped cost m k.world ls (unwind after s)) (traps_with TOO_MANY_VALUES) (stepping cost m k.world ls (unwind after s) h.is) (trapping TOO_MANY_VALUES)
  settles_advances k vs s (trapped kind) h = search advances_by
  settles_advances k vs s stuck h = search advances_by

  label_advances : (k : Config W) (ls vs : List ℕ) (n : ℕ) (onward : Instructions) (s : Term) (o : Outcome W) → IsCostly o → Advances (in_label k ls vs n onward s o)
  label_advances k ls vs n onward s (stepped cost m w now inner) h = stepping cost m w _ _ h.is
  label_advances k ls vs n onward s (finished operands) h = search advances_by
  label_advances k ls vs n onward s (branching zero operands) h = search advances_by
  label_advances k ls vs n onward s (branching (suc l) operands) h = search advances_by
  label_advances k ls vs n onward s (returning operands) h = search advances_by
  label_advances k ls vs n onward s (exited code w) h = search advances_by
  label_advances k ls vs n onward s (traps_with kind) h = search advances_by
  label_advances k ls vs n onward s no_row h = search advances_by

  frame_advances : (k : Config W) (ls vs : List ℕ) (n : ℕ) (s : Term) (o : Outcome W) → IsCostly o → Advances (in_frame k ls vs n s o)
  frame_advances k ls vs n s (stepped cost m w now inner) h = stepping cost m w _ _ h.is
  frame_advances k ls vs n s (finished operands) h = search advances_by
  frame_advances k ls vs n s (branching zero operands) h = search advances_by
  frame_advances k ls vs n s (branching (suc l) operands) h = search advances_by
  frame_advances k ls vs n s (returning operands) h = search advances_by
  frame_advances k ls vs n s (exited code w) h = search advances_by
  frame_advances k ls vs n s (traps_with kind) h = search advances_by
  frame_advances k ls vs n s no_row h = search advances_by

  replied_advances : (k : Config W) (ls vs : List ℕ) (results : List ValType) (s : Term) (reply : Reply W) → Advances (replied k ls vs results s reply)
  replied_advances k ls vs [] s (gives_value v m w) = search advances_by
  replied_advances k ls vs (t ∷ []) s (gives_value v m w) = search advances_by
  replied_advances k ls vs (t ∷ u ∷ ts) s (gives_value v m w) = search advances_by
  replied_advances k ls vs [] s (gives_nothing m w) = search advances_by
  replied_advances k ls vs (t ∷ []) s (gives_nothing m w) = search advances_by
  replied_advances k ls vs (t ∷ u ∷ ts) s (gives_nothing m w) = search advances_by
  replied_advances k ls vs [] s (exits code m w) = search advances_by
  replied_advances k ls vs (t ∷ []) s (exits code m w) = search advances_by
  replied_advances k ls vs (t ∷ u ∷ ts) s (exits code m w) = search advances_by

  module _ (p : Program W) (k : Config W) where
    ruleset advances_replied = (advances_by, replied_advances)

    called_advances : (ls : List ℕ) (before : ℕ) (vs : List ℕ) (s : Term) (f : Option Callee) → Advances (called p k ls before vs s f)
    called_advances ls before vs s None = search advances_by
    called_advances ls before vs s (Some (own sort locals body)) = search advances_replied depth 9
    called_advances ls before vs s (Some (outside sort which)) = search advances_replied depth 9

    ruleset advances_called = (advances_by, called_advances)

    as_advances : (ls : List ℕ) (before : ℕ) (vs : List ℕ) (s : Term) (sort : Option FuncType) (f : Option Callee) → Advances (called_as p k ls before vs s sort f)
    as_advances ls before vs s None f = search advances_by
    as_advances ls before vs s (Some sort) None = search advances_by
    as_advances ls before vs s (Some sort) (Some f) = search advances_called

    by_advances : (ls : List ℕ) (before : ℕ) (vs : List ℕ) (s : Term) (sort : Option FuncType) (place : Option (Option ℕ)) → Advances (called_by p k ls before vs s sort place)
    by_advances ls before vs s sort None = search advances_by
    by_advances ls before vs s sort (Some None) = search advances_by
    by_advances ls before vs s sort (Some (Some f)) = as_advances ls before vs s sort (slice_get p.functions f)

    row_advances : (ls vs : List ℕ) (i : Instruction) (s : Term) → Advances (row p k ls vs i s)
    row_advances ls vs (block t body) s = search advances_by
    row_advances ls vs (loop t body) s = search advances_by
    row_advances ls [] (if_ t taken other) s = search advances_by
    row_advances ls (v ∷ vs) (if_ t taken other) s = search advances_by
    row_advances ls vs (br l) s = search advances_by
    row_advances ls [] (br_if l) s = search advances_by
    row_advances ls (v ∷ vs) (br_if l) s = search advances_by
    row_advances ls [] (br_table js l) s = search advances_by
    row_advances ls (v ∷ vs) (br_table js l) s = search advances_by
    row_advances ls vs return_ s = search advances_by
    row_advances ls vs (call f) s = called_advances ls (length vs) vs s (slice_get p.functions f)
    row_advances ls [] (call_indirect n) s = search advances_by
    row_advances ls (v ∷ vs) (call_indirect n) s = by_advances ls (suc (length vs)) vs s (slice_get p.types n) (slice_get k.store.table v)
    row_advances ls vs i s = settles_advances k vs s (effect k.store ls vs i) (effect_costs k.store ls vs i)

  walk_costs : (p : Program W) (k : Config W) (ls vs : List ℕ) (s : Term) → IsCostly (walk p k ls vs s)
  unfolding walk
  walk_costs p k ls vs end = record { is = tt }
  walk_costs p k ls vs (value v s) = walk_costs p k ls (v ∷ vs) s
  walk_costs p k ls vs (plain i s) = costly (row p k ls vs i s) (row_advances p k ls vs i s)
  walk_costs p k ls vs (label n onward inner s) = costly _ (label_advances k ls vs n onward s (walk p k ls [] inner) (walk_costs p k ls [] inner))
  walk_costs p k ls vs (frame n now inner s) = costly _ (frame_advances k ls vs n s (walk p k now [] inner) (walk_costs p k now [] inner))

  -- ---- what comes next

  step_cost : (n cost : ℕ) (k k' : Config W) → step n k ≡ step cost k' → 1 ≤ n → 1 ≤ cost
  step_cost n cost k k' e h = let same : n ≡ cost = cc in omega (arith, same, h)

  next_costs_of : (p : Program W) (k : Config W) (calls : List ℕ) (o : Outcome W) (cost : ℕ) (k' : Config W) → IsCostly o → next_of p k calls o ≡ step cost k' → 1 ≤ cost
  next_costs_of p k calls (stepped n m w ls s) cost k' h e = step_cost n cost (record { store = m; world = w; term = s; calls = calls }) k' e h.is
  next_costs_of p k [] (finished vs) cost k' h e = absurd (cc)
  next_costs_of p k (f ∷ calls) (finished vs) cost k' h e =
      next_costs_of p (entry p k f calls) calls (walk p (entry p k f calls) [] [] (entry p k f calls).term) cost k' (walk_costs p (entry p k f calls) [] [] (entry p k f calls).term) e
  next_costs_of p k calls (branching l vs) cost k' h e = absurd (cc)
  next_costs_of p k calls (returning vs) cost k' h e = absurd (cc)
  next_costs_of p k calls (exited code w) cost k' h e = absurd (cc)
  next_costs_of p k calls (traps_with kind) cost k' h e = absurd (cc)
  next_costs_of p k calls no_row cost k' h e = absurd (cc)

  -- a row costs one at least
  pub next_costs : (p : Program W) (k : Config W) (cost : ℕ) (k' : Config W) → next p k ≡ step cost k' → 1 ≤ cost
  next_costs p k cost k' e = next_costs_of p k k.calls (walk p k [] [] k.term) cost k' (walk_costs p k [] [] k.term) e

  no_end : (p : Program W) (k : Config W) (calls : List ℕ) (o : Outcome W) → Advances o → next_of p k calls o ≡ over → ⊥
  no_end p k calls (stepped n m w ls s) h e = cc
  no_end p k calls (finished vs) h e = h.is
  no_end p k calls (branching l vs) h e = cc
  no_end p k calls (returning vs) h e = cc
  no_end p k calls (exited code w) h e = cc
  no_end p k calls (traps_with kind) h e = cc
  no_end p k calls no_row h e = cc

  entered_if : (p : Program W) (k : Config W) (f : ℕ) (calls : List ℕ) (g : Option Callee) → slice_get p.functions f ≡ g → Advances (walk p (entry p k f calls) [] [] (called_from_outside g f))
  unfolding walk
  entered_if p k f calls (Some (own sort locals body)) e =
      frame_advances (entry p k f calls) [] [] (length sort.results) end (walk p (entry p k f calls) _ [] (plains body end)) (walk_costs p (entry p k f calls) _ [] (plains body end))
  entered_if p k f calls (Some (outside sort which)) e = row_advances p (entry p k f calls) [] [] (call f) end
  entered_if p k f calls None e = row_advances p (entry p k f calls) [] [] (call f) end

  -- a function that is called from outside has a row
  entered_advances : (p : Program W) (k : Config W) (f : ℕ) (calls : List ℕ) → Advances (walk p (entry p k f calls) [] [] (entry p k f calls).term)
  entered_advances p k f calls = entered_if p k f calls (slice_get p.functions f) refl

  none_to_call : (p : Program W) (k : Config W) (calls : List ℕ) (vs : List ℕ) → next_of p k calls (finished vs) ≡ over → calls ≡ []
  none_to_call p k [] vs e = refl
  none_to_call p k (f ∷ calls) vs e = absurd (no_end p (entry p k f calls) calls (walk p (entry p k f calls) [] [] (entry p k f calls).term) (entered_advances p k f calls) e)

  through_advances : (p : Program W) (k : Config W) (layers : List Layer) (ls : List ℕ) (o : Outcome W) → Advances o → Advances (through p k layers ls o)
  unfolding through
  through_advances p k [] ls o h = h
  through_advances p k (label_layer n onward vs after ∷ layers) ls o h = through_advances p k layers ls _ (label_advances k ls vs n (instructions_of onward) (plains (instructions_of after) end) o (costly o h))
  through_advances p k (frame_layer n vs after outer ∷ layers) ls o h = through_advances p k layers outer _ (frame_advances k outer vs n (plains (instructions_of after) end) o (costly o h))

  layer_advances : (p : Program W) (k : Config W) (layer : Layer) (layers : List Layer) (ls : List ℕ) (o : Outcome W) → IsCostly o → Advances (through p k (layer ∷ layers) ls o)
  unfolding through
  layer_advances p k (label_layer n onward vs after) layers ls o h = through_advances p k layers ls _ (label_advances k ls vs n (instructions_of onward) (plains (instructions_of after) end) o h)
  layer_advances p k (frame_layer n vs after outer) layers ls o h = through_advances p k layers outer _ (frame_advances k outer vs n (plains (instructions_of after) end) o h)

  -- the program is over at a position only outside of everything, where no function is to be called
  over_at : (p : Program W) (k : Config W) (layers : List Layer) (ls operands : List ℕ) (code : List Instr)
      → next_of p k k.calls (through p k layers ls (walk p k ls operands (plains (instructions_of code) end))) ≡ over → (layers ≡ []) × (code ≡ []) × (k.calls ≡ [])
  unfolding walk through
  over_at p k (layer ∷ layers) ls operands code e =
      absurd (no_end p k k.calls _ (layer_advances p k layer layers ls (walk p k ls operands (plains (instructions_of code) end)) (walk_costs p k ls operands (plains (instructions_of code) end))) e)
  over_at p k [] ls operands [] e = (refl, refl, none_to_call p k k.calls operands e)
  over_at p k [] ls operands (i ∷ rest) e = absurd (no_end p k k.calls _ (row_advances p k ls operands (instruction_of i) (plains (instructions_of rest) end)) e)

  pub over_only : (p : Program W) (k : Config W) (z : Position) → k.term ≡ term_of z → IsRooted z.layers z.locals → next p k ≡ over → (z.layers ≡ []) × (z.code ≡ []) × (k.calls ≡ [])
  over_only p k z same rooted e = over_at p k z.layers z.locals z.operands z.code (sym (next-through p k z same rooted) ∙ e)
