-- The rows of blocks and branches at a position.
use Rattle.std.proofs.Common.{ℕ, ◌≡◌, ◌≢◌, ◌≤◌, ◌<◌, List, [], ◌∷◌, Option, Some, None, IsSome, if◌then◌else◌, refl, ap, sym, ◌∙◌, subst}
use Rattle.std.proofs.lemmas.Bool.{lt-ltb, le-ltb}
use Rattle.vr_wasm_ast.specs.declared.instr.Instr.{Instr}
use Rattle.vr_wasm_ast.specs.Instructions.{Instruction, return_, instruction_of, instructions_of}
use Rattle.vr_wasm_num.specs.declared.trap.TheConstants.{TOO_MANY_LABELS}
use Rattle.vr_wasm_steps.specs.declared.limits.TheConstants.{MAX_LABELS}
use Rattle.vr_wasm_steps.specs.Rows.{Program, Config, Outcome, finished, branching, returning, traps_with, goes, enters, row, walk, step, traps, lost, next_of, next}
use Rattle.vr_wasm_steps.specs.Terms.{Term, end, label, plains, unwind, labels}
use Rattle.vr_wasm_stacks.specs.Positions.{Layer, Position, close, term_of, IsRooted, with_operands, entered, jump, depth, leave, left}
use Rattle.vr_wasm_run.proofs.ThroughLemmas.{next-through, through, through-stepped, through-traps, Moves, moves, stays, moved, branches, returns, ends}
use Rattle.vr_wasm_run.proofs.RowLemmas.{IsAt, next-row}

-- where a move goes, where it isn't lost
some_none : {A : Type 0} (z : A) → None ≡ Some z → ⊥
some_none z e = cc

module _ {W : Type 0} (p : Program W) (k : Config W) where
  -- a row with this outcome, which moves to the position, or nowhere
  goes_to : (o : Outcome W) (z : Option Position) (z' : Position) → Moves p k o z → next p k ≡ next_of p k k.calls o → z ≡ Some z' → next p k ≡ step 1 (moved p k z')
  goes_to o z z' (moves to e s) n f = let same : to ≡ z' = cc in n ∙ s ∙ ap (λ x. step 1 (moved p k x)) same
  goes_to o z z' (stays e s) n f = absurd (some_none z' (sym e ∙ f))

  somewhere : (o : Outcome W) (z : Option Position) → Moves p k o z → next p k ≡ next_of p k k.calls o → next p k ≢ lost → IsSome z
  somewhere o z (moves to e s) n live = subst IsSome (sym e) refl
  somewhere o z (stays e s) n live = absurd (live (n ∙ s))

  module _ (z : Position) (i : Instr) (rest : List Instr) (here : IsAt p k z i rest) where
    abbrev pub after : Term
    after = plains (instructions_of rest) end

    pub row_is : (j : Instruction) (o : Outcome W) → instruction_of i ≡ j → row p k z.locals z.operands j after ≡ o → next p k ≡ next_of p k k.calls (through p k z.layers z.locals o)
    row_is j o e q =
        next-row p k z i rest here
        ∙ ap (λ x. next_of p k k.calls (through p k z.layers z.locals (row p k z.locals z.operands x (plains (instructions_of rest) end)))) e
        ∙ ap (λ x. next_of p k k.calls (through p k z.layers z.locals x)) q

    -- into a label
    pub enter_step : (j : Instruction) (vs : List ℕ) (n : ℕ) (onward body : List Instr) → instruction_of i ≡ j
        → row p k z.locals z.operands j after ≡ enters k z.locals vs n (instructions_of onward) (instructions_of body) after
        → labels k.term < MAX_LABELS → next p k ≡ step 1 (moved p k (entered (with_operands z vs) n onward rest body))
    unfolding close
    enter_step j vs n onward body e q room =
        let s : Term = unwind vs (label n (instructions_of onward) (plains (instructions_of body) end) (plains (instructions_of rest) end)) in
        row_is j (enters k z.locals vs n (instructions_of onward) (instructions_of body) after) e q
        ∙ ap (λ b. next_of p k k.calls (through p k z.layers z.locals (if b then goes k z.locals s else traps_with TOO_MANY_LABELS))) (lt-ltb (labels k.term) MAX_LABELS room)
        ∙ through-stepped p k z.layers z.locals z.locals 1 k.store k.world s

    pub enter_full : (j : Instruction) (vs : List ℕ) (n : ℕ) (onward body : List Instr) → instruction_of i ≡ j
        → row p k z.locals z.operands j after ≡ enters k z.locals vs n (instructions_of onward) (instructions_of body) after
        → MAX_LABELS ≤ labels k.term → next p k ≡ traps TOO_MANY_LABELS
    enter_full j vs n onward body e q full =
        let s : Term = unwind vs (label n (instructions_of onward) (plains (instructions_of body) end) (plains (instructions_of rest) end)) in
        row_is j (enters k z.locals vs n (instructions_of onward) (instructions_of body) after) e q
        ∙ ap (λ b. next_of p k k.calls (through p k z.layers z.locals (if b then goes k z.locals s else traps_with TOO_MANY_LABELS))) (le-ltb (labels k.term) MAX_LABELS full)
        ∙ ap (next_of p k k.calls) (through-traps p k z.layers z.locals TOO_MANY_LABELS)

    -- a branch
    pub branch_step : (j : Instruction) (l : ℕ) (vs : List ℕ) (z' : Position) → instruction_of i ≡ j → row p k z.locals z.operands j after ≡ branching l vs
        → jump (with_operands z vs) l ≡ Some z' → next p k ≡ step 1 (moved p k z')
    branch_step j l vs z' e q f = goes_to _ _ z' (branches p k z.layers z.locals vs l) (row_is j (branching l vs) e q) f

    pub branch_some : (j : Instruction) (l : ℕ) (vs : List ℕ) → instruction_of i ≡ j → row p k z.locals z.operands j after ≡ branching l vs → next p k ≢ lost → IsSome (jump (with_operands z vs) l)
    branch_some j l vs e q live = somewhere _ _ (branches p k z.layers z.locals vs l) (row_is j (branching l vs) e q) live

    -- a return
    pub return_step : (z' : Position) → instruction_of i ≡ return_ → jump z (depth z.layers) ≡ Some z' → next p k ≡ step 1 (moved p k z')
    return_step z' e f = goes_to _ _ z' (returns p k z.layers z.locals z.operands) (row_is return_ (returning z.operands) e refl) f

    pub return_some : instruction_of i ≡ return_ → next p k ≢ lost → IsSome (jump z (depth z.layers))
    return_some e live = somewhere _ _ (returns p k z.layers z.locals z.operands) (row_is return_ (returning z.operands) e refl) live

  -- the end of a block or a function
  pub ended : (z : Position) → k.term ≡ term_of z → IsRooted z.layers z.locals → z.code ≡ [] → next p k ≡ next_of p k k.calls (through p k z.layers z.locals (finished z.operands))
  unfolding walk
  ended z e r c =
      next-through p k z e r ∙ ap (λ x. next_of p k k.calls (through p k z.layers z.locals (walk p k z.locals z.operands (plains (instructions_of x) end)))) c

  pub leave_step : (z z' : Position) (layer : Layer) (layers : List Layer) → k.term ≡ term_of z → IsRooted z.layers z.locals → z.code ≡ [] → z.layers ≡ layer ∷ layers
      → leave z ≡ Some z' → next p k ≡ step 1 (moved p k z')
  leave_step z z' layer layers e r c l f =
      goes_to (through p k (layer ∷ layers) z.locals (finished z.operands)) (left (layer ∷ layers) z.locals z.operands) z' (ends p k layer layers z.locals z.operands)
      (ended z e r c ∙ ap (λ x. next_of p k k.calls (through p k x z.locals (finished z.operands))) l) (ap (λ x. left x z.locals z.operands) (sym l) ∙ f)

  pub leave_some : (z : Position) (layer : Layer) (layers : List Layer) → k.term ≡ term_of z → IsRooted z.layers z.locals → z.code ≡ [] → z.layers ≡ layer ∷ layers
      → next p k ≢ lost → IsSome (leave z)
  leave_some z layer layers e r c l live =
      subst (λ x. IsSome (left x z.locals z.operands)) (sym l)
      (somewhere (through p k (layer ∷ layers) z.locals (finished z.operands)) (left (layer ∷ layers) z.locals z.operands) (ends p k layer layers z.locals z.operands)
      (ended z e r c ∙ ap (λ x. next_of p k k.calls (through p k x z.locals (finished z.operands))) l) live)
