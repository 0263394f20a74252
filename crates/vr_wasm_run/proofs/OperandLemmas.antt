-- The rows of instructions that take an operand, and of loops and ends, at a position.
use Rattle.std.proofs.Common.{ℕ, ◌+◌, ◌≡◌, ◌≢◌, ◌≤◌, ◌<◌, ◌==◌, List, [], ◌∷◌, length, take, slice_get, Option, Some, IsSome, unwrap_or, Bool, true, false, if◌then◌else◌, refl, ap, sym, ◌∙◌, subst, arith}
use Rattle.vr_wasm_ast.specs.declared.instr.Instr.{Instr}
use Rattle.vr_wasm_ast.specs.declared.instr.Instr.TheVariants as tree
use Rattle.vr_wasm_ast.specs.declared.tree.ValType.{ValType}
use Rattle.vr_wasm_ast.specs.Instructions.{Instruction, done, then as then_, loop, if_, br_if, br_table, instruction_of, instructions_of}
use Rattle.vr_wasm_ast.proofs.InstructionLemmas.{instruction_of-Loop, instruction_of-If, instruction_of-BrIf, instruction_of-BrTable}
use Rattle.vr_wasm_num.specs.declared.trap.TheConstants.{TOO_MANY_LABELS}
use Rattle.vr_wasm_steps.specs.declared.limits.TheConstants.{MAX_LABELS}
use Rattle.vr_wasm_steps.specs.Rows.{Program, Config, branching, no_row, goes, enters, arity, row, step, traps, lost, next_of, next}
use Rattle.vr_wasm_steps.specs.Terms.{Term, end, label, frame, plains, unwind, labels}
use Rattle.vr_wasm_stacks.specs.Positions.{Layer, in_label, in_frame, Position, close, term_of, IsRooted, with_operands, with_code, entered, jump, leave}
use Rattle.vr_wasm_stacks.proofs.CountLemmas.{labels-unwind}
use Rattle.vr_wasm_run.proofs.ThroughLemmas.{through-stepped, through-no_row, moved}
use Rattle.vr_wasm_run.proofs.RowLemmas.{IsAt}
use Rattle.vr_wasm_run.proofs.ControlLemmas.{row_is, enter_step, enter_full, branch_step, branch_some, leave_step, leave_some}

-- ---- the count of labels is the same with other operands

labels-inside : (layers : List Layer) (ls : List ℕ) (s t : Term) → labels s ≡ labels t → labels (close layers ls s) ≡ labels (close layers ls t)
unfolding close
labels-inside [] ls s t e = e
labels-inside (in_label n onward vs after ∷ layers) ls s t e =
    let in_s : Term = label n (instructions_of onward) s (plains (instructions_of after) end) in
    let in_t : Term = label n (instructions_of onward) t (plains (instructions_of after) end) in
    labels-inside layers ls (unwind vs in_s) (unwind vs in_t) (labels-unwind vs in_s ∙ ap (λ x. 1 + x + labels (plains (instructions_of after) end)) e ∙ sym (labels-unwind vs in_t))
labels-inside (in_frame n vs after outer ∷ layers) ls s t e =
    let in_s : Term = frame n ls s (plains (instructions_of after) end) in
    let in_t : Term = frame n ls t (plains (instructions_of after) end) in
    labels-inside layers outer (unwind vs in_s) (unwind vs in_t) (labels-unwind vs in_s ∙ ap (λ x. 1 + x + labels (plains (instructions_of after) end)) e ∙ sym (labels-unwind vs in_t))

pub labels_with : (z : Position) (vs : List ℕ) → labels (term_of (with_operands z vs)) ≡ labels (term_of z)
labels_with z vs =
    let rest : Term = plains (instructions_of z.code) end in
    labels-inside z.layers z.locals (unwind vs rest) (unwind z.operands rest) (labels-unwind vs rest ∙ sym (labels-unwind z.operands rest))

-- before and after an operand is taken
pub labels_popped : (z z' : Position) (v : ℕ) → z ≡ with_operands z' (v ∷ z'.operands) → labels (term_of z) ≡ labels (term_of z')
labels_popped z z' v split = ap (λ x. labels (term_of x)) split ∙ labels_with z' (v ∷ z'.operands)

pub rest_of : (z z' : Position) (v : ℕ) → z ≡ with_operands z' (v ∷ z'.operands) → with_operands z z'.operands ≡ z'
rest_of z z' v split = ap (λ x. with_operands x z'.operands) split

chosen : (b : Bool) (xs ys : List Instr) → (if b then instructions_of xs else instructions_of ys) ≡ instructions_of (if b then xs else ys)
chosen true xs ys = refl
chosen false xs ys = refl

-- ---- rows

module _ {W : Type 0} (p : Program W) (k : Config W) (z : Position) (i : Instr) (rest : List Instr) (here : IsAt p k z i rest) where
  abbrev after : Term
  after = plains (instructions_of rest) end

  -- on in the same sequence
  pub goes_step : (j : Instruction) (vs : List ℕ) → instruction_of i ≡ j → row p k z.locals z.operands j after ≡ goes k z.locals (unwind vs after)
      → next p k ≡ step 1 (moved p k (with_code (with_operands z vs) rest))
  goes_step j vs e q = row_is p k z i rest here j (goes k z.locals (unwind vs after)) e q ∙ through-stepped p k z.layers z.locals z.locals 1 k.store k.world (unwind vs after)

  -- an instruction that has no row without an operand finds one
  pub wants : (j : Instruction) (vs : List ℕ) → z.operands ≡ vs → instruction_of i ≡ j → row p k z.locals [] j after ≡ no_row → next p k ≢ lost → 0 < length vs
  wants j [] same e q live = absurd (live (
      row_is p k z i rest here j no_row e (ap (λ x. row p k z.locals x j after) same ∙ q)
      ∙ ap (next_of p k k.calls) (through-no_row p k z.layers z.locals)))
  wants j (v ∷ vs) same e q live = omega arith

  pub if_operand : (t : Option ValType) (taken other : List Instr) → i ≡ tree.If t taken other → next p k ≢ lost → 0 < length z.operands
  if_operand t taken other e live = wants (if_ t (instructions_of taken) (instructions_of other)) z.operands refl (ap instruction_of e ∙ instruction_of-If t taken other) refl live

  pub br_if_operand : (l : ℕ) → i ≡ tree.BrIf l → next p k ≢ lost → 0 < length z.operands
  br_if_operand l e live = wants (br_if l) z.operands refl (ap instruction_of e ∙ instruction_of-BrIf l) refl live

  pub br_table_operand : (ls : List ℕ) (l : ℕ) → i ≡ tree.BrTable ls l → next p k ≢ lost → 0 < length z.operands
  br_table_operand ls l e live = wants (br_table ls l) z.operands refl (ap instruction_of e ∙ instruction_of-BrTable ls l) refl live

  -- a loop
  again : (t : Option ValType) (body : List Instr) → i ≡ tree.Loop t body → then_ (loop t (instructions_of body)) done ≡ instructions_of (take 1 z.code)
  again t body e = ap (λ x. then_ x done) (sym (ap instruction_of e ∙ instruction_of-Loop t body)) ∙ sym (ap (λ c. instructions_of (take 1 c)) here.code)

  pub loop_step : (t : Option ValType) (body : List Instr) → i ≡ tree.Loop t body → labels k.term < MAX_LABELS
      → next p k ≡ step 1 (moved p k (entered z 0 (take 1 z.code) rest body))
  loop_step t body e room =
      enter_step p k z i rest here (loop t (instructions_of body)) z.operands 0 (take 1 z.code) body (ap instruction_of e ∙ instruction_of-Loop t body)
      (ap (λ x. enters k z.locals z.operands 0 x (instructions_of body) after) (again t body e)) room

  pub loop_full : (t : Option ValType) (body : List Instr) → i ≡ tree.Loop t body → MAX_LABELS ≤ labels k.term → next p k ≡ traps TOO_MANY_LABELS
  loop_full t body e full =
      enter_full p k z i rest here (loop t (instructions_of body)) z.operands 0 (take 1 z.code) body (ap instruction_of e ∙ instruction_of-Loop t body)
      (ap (λ x. enters k z.locals z.operands 0 x (instructions_of body) after) (again t body e)) full

  -- the operand v is taken, which leaves the position z'
  module _ (z' : Position) (v : ℕ) (split : z ≡ with_operands z' (v ∷ z'.operands)) where
    row_after : (j : Instruction) → row p k z.locals z.operands j after ≡ row p k z.locals (v ∷ z'.operands) j after
    row_after j = ap (λ x. row p k z.locals x j after) (ap (λ x. x.operands) split)

    -- if
    if_row : (t : Option ValType) (taken other body : List Instr) → body ≡ (if v == 0 then other else taken)
        → row p k z.locals z.operands (if_ t (instructions_of taken) (instructions_of other)) after ≡ enters k z.locals z'.operands (arity t) done (instructions_of body) after
    if_row t taken other body chose =
        row_after (if_ t (instructions_of taken) (instructions_of other))
        ∙ ap (λ x. enters k z.locals z'.operands (arity t) done x after) (chosen (v == 0) other taken ∙ ap instructions_of (sym chose))

    pub if_step : (t : Option ValType) (taken other body : List Instr) → i ≡ tree.If t taken other → body ≡ (if v == 0 then other else taken) → labels k.term < MAX_LABELS
        → next p k ≡ step 1 (moved p k (entered z' (arity t) [] rest body))
    if_step t taken other body e chose room =
        enter_step p k z i rest here (if_ t (instructions_of taken) (instructions_of other)) z'.operands (arity t) [] body (ap instruction_of e ∙ instruction_of-If t taken other) (if_row t taken other body chose) room
        ∙ ap (λ x. step 1 (moved p k (entered x (arity t) [] rest body))) (rest_of z z' v split)

    pub if_full : (t : Option ValType) (taken other : List Instr) → i ≡ tree.If t taken other → MAX_LABELS ≤ labels k.term → next p k ≡ traps TOO_MANY_LABELS
    if_full t taken other e full =
        enter_full p k z i rest here (if_ t (instructions_of taken) (instructions_of other)) z'.operands (arity t) [] (if v == 0 then other else taken) (ap instruction_of e ∙ instruction_of-If t taken other)
        (if_row t taken other (if v == 0 then other else taken) refl) full

    -- br_if
    br_if_row : (l : ℕ) (b : Bool) → (v == 0) ≡ b → row p k z.locals z.operands (br_if l) after ≡ (if b then goes k z.locals (unwind z'.operands after) else branching l z'.operands)
    br_if_row l b same = row_after (br_if l) ∙ ap (λ x. if x then goes k z.locals (unwind z'.operands after) else branching l z'.operands) same

    pub br_if_on : (l : ℕ) → i ≡ tree.BrIf l → (v == 0) ≡ true → next p k ≡ step 1 (moved p k (with_code z' rest))
    br_if_on l e off =
        goes_step (br_if l) z'.operands (ap instruction_of e ∙ instruction_of-BrIf l) (br_if_row l true off)
        ∙ ap (λ x. step 1 (moved p k (with_code x rest))) (rest_of z z' v split)

    pub br_if_some : (l : ℕ) → i ≡ tree.BrIf l → (v == 0) ≡ false → next p k ≢ lost → IsSome (jump z' l)
    br_if_some l e on live =
        subst (λ x. IsSome (jump x l)) (rest_of z z' v split)
        (branch_some p k z i rest here (br_if l) l z'.operands (ap instruction_of e ∙ instruction_of-BrIf l) (br_if_row l false on) live)

    pub br_if_step : (l : ℕ) (z'' : Position) → i ≡ tree.BrIf l → (v == 0) ≡ false → jump z' l ≡ Some z'' → next p k ≡ step 1 (moved p k z'')
    br_if_step l z'' e on there =
        branch_step p k z i rest here (br_if l) l z'.operands z'' (ap instruction_of e ∙ instruction_of-BrIf l) (br_if_row l false on)
        (ap (λ x. jump x l) (rest_of z z' v split) ∙ there)

    -- br_table
    pub br_table_some : (ls : List ℕ) (l : ℕ) → i ≡ tree.BrTable ls l → next p k ≢ lost → IsSome (jump z' (unwrap_or (slice_get ls v) l))
    br_table_some ls l e live =
        subst (λ x. IsSome (jump x (unwrap_or (slice_get ls v) l))) (rest_of z z' v split)
        (branch_some p k z i rest here (br_table ls l) (unwrap_or (slice_get ls v) l) z'.operands (ap instruction_of e ∙ instruction_of-BrTable ls l) (row_after (br_table ls l)) live)

    pub br_table_step : (ls : List ℕ) (l : ℕ) (z'' : Position) → i ≡ tree.BrTable ls l → jump z' (unwrap_or (slice_get ls v) l) ≡ Some z'' → next p k ≡ step 1 (moved p k z'')
    br_table_step ls l z'' e there =
        branch_step p k z i rest here (br_table ls l) (unwrap_or (slice_get ls v) l) z'.operands z'' (ap instruction_of e ∙ instruction_of-BrTable ls l) (row_after (br_table ls l))
        (ap (λ x. jump x (unwrap_or (slice_get ls v) l)) (rest_of z z' v split) ∙ there)

-- ---- ends

module _ {W : Type 0} (p : Program W) (k : Config W) (z : Position) (same : k.term ≡ term_of z) (rooted : IsRooted z.layers z.locals) (ended : z.code ≡ []) where
  inside_some : (layers : List Layer) → z.layers ≡ layers → layers ≢ [] → next p k ≢ lost → IsSome (leave z)
  inside_some [] e inside live = absurd (inside refl)
  inside_some (layer ∷ layers) e inside live = leave_some p k z layer layers same rooted ended e live

  pub end_some : z.layers ≢ [] → next p k ≢ lost → IsSome (leave z)
  end_some inside live = inside_some z.layers refl inside live

  inside_step : (layers : List Layer) (z' : Position) → z.layers ≡ layers → layers ≢ [] → leave z ≡ Some z' → next p k ≡ step 1 (moved p k z')
  inside_step [] z' e inside there = absurd (inside refl)
  inside_step (layer ∷ layers) z' e inside there = leave_step p k z z' layer layers same rooted ended e there

  pub end_step : (z' : Position) → z.layers ≢ [] → leave z ≡ Some z' → next p k ≡ step 1 (moved p k z')
  end_step z' inside there = inside_step z.layers z' refl inside there
