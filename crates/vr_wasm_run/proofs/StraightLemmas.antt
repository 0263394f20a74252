-- What the loop of a straight run keeps, and what its end says.
use Rattle.std.proofs.Common.{ℕ, suc, ◌+◌, ◌-◌, ◌≡◌, ◌≢◌, ◌≤◌, ◌<◌, List, [], ◌∷◌, Result, Ok, Err, refl, ap, sym, ◌∙◌, subst, arith, get_or, take, drop, length}
use Rattle.std.proofs.lemmas.List.{take_rest}
use Rattle.vr_wasm_ast.specs.declared.instr.Instr.{Instr}
use Rattle.vr_wasm_ast.specs.Instructions.{instruction_of, instructions_of}
use Rattle.vr_wasm_num.specs.declared.trap.Trap.{Trap}
use Rattle.vr_wasm_steps.specs.Effects.{Effect, leaves, trapped, stuck}
use Rattle.vr_wasm_steps.specs.Rows.{step, traps, lost, next}
use Rattle.vr_wasm_steps.specs.Runs.{StillRuns, Traps, NeverLost}
use Rattle.vr_wasm_steps.specs.Terms.{Term, end, label, frame, plains, unwind, slots}
use Rattle.vr_wasm_stacks.specs.Positions.{Layer, in_label, in_frame, Position, close, term_of, IsRooted, with_code}
use Rattle.vr_wasm_stacks.proofs.CountLemmas.{slots-plains, slots-unwind}
use Rattle.vr_wasm_run.specs.Calls.{Replies}
use Rattle.vr_wasm_run.specs.Machines.{program_of, config, pending}
use Rattle.vr_wasm_run.specs.Plain.{IsPlain}
use Rattle.vr_wasm_run.specs.States.{effect_of, Makes, Ready, IsWithin}
use Rattle.vr_wasm_run.specs.Stretches.{Leads}
use Rattle.vr_wasm_run.specs.declared.running.Running.{Running}
use Rattle.vr_wasm_run.specs.declared.state.State.{State}
use Rattle.vr_wasm_run.proofs.PlainLemmas.{ready_for, plain_row}
use Rattle.vr_wasm_run.proofs.RunLemmas.{rows_none, rows_more, still_rows, still_before, still_now, over_trap}

first_of : (xs : List Instr) (x : Instr) → 1 ≤ length xs → x ≡ get_or xs 0 x → xs ≡ x ∷ drop 1 xs
first_of [] x l e = absurd (omega (arith, l))
first_of (y ∷ ys) x l e = ap (λ z. z ∷ ys) (sym e)

-- a list by its first element and the rest
pub headed : (xs : List Instr) (x : Instr) → 1 ≤ length xs → x ≡ get_or xs 0 x → xs ≡ x ∷ take (length xs - 1) (drop 1 xs)
headed xs x l e = first_of xs x l e ∙ ap (λ r. x ∷ r) (sym (take_rest xs 1))

-- ---- other instructions left

slots-close : (layers : List Layer) (ls : List ℕ) (s t : Term) → slots s ≡ slots t → slots (close layers ls s) ≡ slots (close layers ls t)
unfolding close
slots-close [] ls s t e = e
slots-close (in_label n onward vs after ∷ layers) ls s t e =
    slots-close layers ls (unwind vs (label n (instructions_of onward) s (plains (instructions_of after) end))) (unwind vs (label n (instructions_of onward) t (plains (instructions_of after) end)))
    (omega (arith, e, slots-unwind vs (label n (instructions_of onward) s (plains (instructions_of after) end)), slots-unwind vs (label n (instructions_of onward) t (plains (instructions_of after) end))))
slots-close (in_frame n vs after outer ∷ layers) ls s t e =
    slots-close layers outer (unwind vs (frame n ls s (plains (instructions_of after) end))) (unwind vs (frame n ls t (plains (instructions_of after) end)))
    (omega (arith, e, slots-unwind vs (frame n ls s (plains (instructions_of after) end)), slots-unwind vs (frame n ls t (plains (instructions_of after) end))))

-- they take no slots
slots-code : (z : Position) (code : List Instr) → slots (term_of (with_code z code)) ≡ slots (term_of z)
slots-code z code =
    slots-close z.layers z.locals (unwind z.operands (plains (instructions_of code) end)) (unwind z.operands (plains (instructions_of z.code) end))
    (omega (arith, slots-unwind z.operands (plains (instructions_of code) end), slots-unwind z.operands (plains (instructions_of z.code) end), slots-plains (instructions_of code), slots-plains (instructions_of z.code)))

-- a state before them
abbrev pub state_at : State → List Instr → State
state_at s code = record s { stacks = with_code s.stacks code }

-- an effect doesn't depend on them
makes_at : (s s' : State) (code : List Instr) (e : Effect) (result : Result ℕ Trap) → Makes s e result s' → Makes (state_at s code) e result (state_at s' code)
makes_at s s' code (leaves cost m ls vs) (Ok n) h = (h.0, h.1, ap (λ z. with_code z code) h.2, omega (arith, h.3, slots-code s.stacks code))
makes_at s s' code (leaves cost m ls vs) (Err trap) h = (h.0, omega (arith, h.1, slots-code s.stacks code))
makes_at s s' code (trapped kind) (Ok n) h = absurd h
makes_at s s' code (trapped kind) (Err trap) h = h
makes_at s s' code stuck result h = tt

-- ---- the loop

module _ {H W : Type 0} (world : H → W) (reply : Replies W) where
  -- the machine before these instructions
  abbrev pub machine_at : Running H → List Instr → Running H
  machine_at m code = record m { state = state_at m.state code }

  -- so much of the fuel is left before these instructions, and nothing but the state has changed
  pub record Strides (from now : Running H) (code : List Instr) (fuel left : ℕ) : Type 0 where
    pub leads : Leads (program_of reply from) fuel (config world from) left (config world (machine_at now code))
    pub others : now ≡ record from { state = now.state }

  module _ (from : Running H) (fuel : ℕ) where
    pub strides_first : Strides from from from.state.stacks.code fuel fuel
    strides_first = record {
      leads = record { rows = 0; used = 0; count = omega arith; reached = rows_none (program_of reply from) (config world from) };
      others = refl;
    }

    other_state : (now : Running H) (code : List Instr) (left : ℕ) (t : State) → Strides from now code fuel left → ◌≡◌ {A = Running H} (record now { state = t }) (record from { state = t })
    other_state now code left t s = ap (λ (m : Running H). record m { state = t }) s.others

    module _ (never : NeverLost (program_of reply from) (config world from)) (now : Running H) (code : List Instr) (left : ℕ) (s : Strides from now code fuel left)
        (i : Instr) (rest : List Instr) (head : code ≡ i ∷ rest) (ordinary : IsPlain (instruction_of i))
        (rooted : IsRooted now.state.stacks.layers now.state.stacks.locals) (within : IsWithin now.state) where
      live : next (program_of reply from) (config world (machine_at now code)) ≢ lost
      live = never s.leads.rows s.leads.used (config world (machine_at now code)) s.leads.reached

      pub stride_ready : Ready now.state (instruction_of i)
      stride_ready = record {
        within = within;
        rule = (ready_for (program_of reply from) (state_at now.state code) (world now.host) (pending now) i rest rooted head ordinary live (omega (arith, within, slots-code now.state.stacks code))).rule;
      }

      goes : (cost : ℕ) (t : State) → Makes now.state (effect_of now.state (instruction_of i)) (Ok cost) t
          → next (program_of reply from) (config world (machine_at now code)) ≡ step cost (config world (machine_at (record now { state = t }) rest))
      goes cost t h =
          plain_row (program_of reply from) (state_at now.state code) (world now.host) (pending now) i rest rooted head ordinary live (Ok cost) (state_at t code)
          (makes_at now.state t code (effect_of now.state (instruction_of i)) (Ok cost) h)

      stops : (trap : Trap) (t : State) → Makes now.state (effect_of now.state (instruction_of i)) (Err trap) t
          → next (program_of reply from) (config world (machine_at now code)) ≡ traps trap.kind
      stops trap t h =
          plain_row (program_of reply from) (state_at now.state code) (world now.host) (pending now) i rest rooted head ordinary live (Err trap) (state_at t code)
          (makes_at now.state t code (effect_of now.state (instruction_of i)) (Err trap) h)

      still : StillRuns (program_of reply from) left (config world (machine_at now code)) → StillRuns (program_of reply from) fuel (config world from)
      still x =
          subst (λ n. StillRuns (program_of reply from) n (config world from)) s.leads.count
          (still_rows (program_of reply from) s.leads.rows s.leads.used left (config world from) (config world (machine_at now code)) s.leads.reached x)

      pub stride_more : (cost : ℕ) (t : State) → Makes now.state (effect_of now.state (instruction_of i)) (Ok cost) t → cost ≤ left
          → Strides from (record now { state = t }) rest fuel (left - cost)
      stride_more cost t h few = record {
        leads = record {
          rows = suc s.leads.rows;
          used = s.leads.used + cost;
          count = omega (arith, s.leads.count, few);
          reached = rows_more (program_of reply from) s.leads.rows s.leads.used cost (config world from) (config world (machine_at now code)) (config world (machine_at (record now { state = t }) rest)) s.leads.reached (goes cost t h);
        };
        others = other_state now code left t s;
      }

      -- the next row costs more
      pub stride_short : (cost : ℕ) (t : State) → Makes now.state (effect_of now.state (instruction_of i)) (Ok cost) t → left < cost
          → StillRuns (program_of reply from) fuel (config world from)
      stride_short cost t h few =
          still (still_before (program_of reply from) (config world (machine_at now code)) (config world (machine_at (record now { state = t }) rest)) cost left (goes cost t h) few)

      pub stride_trapped : (trap : Trap) (t : State) → Makes now.state (effect_of now.state (instruction_of i)) (Err trap) t
          → Traps (program_of reply from) (fuel - left + 1) (config world from) trap.kind
      stride_trapped trap t h = record {
        rows = s.leads.rows;
        before = s.leads.used;
        last = config world (machine_at now code);
        count = omega (arith, s.leads.count);
        reached = s.leads.reached;
        trap = stops trap t h;
      }

      -- a trap is a step, and none is left
      pub stride_none : (trap : Trap) (t : State) → Makes now.state (effect_of now.state (instruction_of i)) (Err trap) t → left ≡ 0
          → StillRuns (program_of reply from) fuel (config world from)
      stride_none trap t h none =
          still (subst (λ n. StillRuns (program_of reply from) n (config world (machine_at now code))) (sym none)
          (still_now (program_of reply from) (config world (machine_at now code)) (λ q. over_trap trap.kind (sym q ∙ stops trap t h))))
