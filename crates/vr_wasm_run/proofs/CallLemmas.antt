-- The row of a call, at a position.
use Rattle.std.proofs.Common.{ℕ, ◌+◌, ◌≡◌, ◌≢◌, ◌≤◌, ◌<◌, List, [], ◌∷◌, ◌++◌, length, take, drop, reverse, replicate, slice_get, Option, Some, None, IsSome, IsTrue, Bool, true, false, if◌then◌else◌, nat_lt, nat_le, refl, ap, sym, ◌∙◌, subst, inl, inr, arith}
use Rattle.std.proofs.lemmas.Bool.{le-leb}
use Rattle.std.proofs.lemmas.Bool.Decides.{leb_tells}
use Rattle.vr_wasm_ast.specs.declared.instr.Instr.{Instr}
use Rattle.vr_wasm_ast.specs.declared.tree.FuncType.{FuncType}
use Rattle.vr_wasm_ast.specs.declared.tree.ValType.{ValType}
use Rattle.vr_wasm_link.specs.declared.functions.Callee.{Callee}
use Rattle.vr_wasm_link.specs.declared.functions.Callee.TheVariants.{Own, Outside}
use Rattle.vr_wasm_link.specs.Functions.{function_of}
use Rattle.vr_wasm_num.specs.Memory.{Contents}
use Rattle.vr_wasm_steps.specs.Effects.{with_memory}
use Rattle.vr_wasm_steps.specs.Hosts.{Reply, gives_value, gives_nothing, exits}
use Rattle.vr_wasm_steps.specs.Store.{are_of}
use Rattle.vr_wasm_ast.specs.Instructions.{Instruction, call, call_indirect, instruction_of, instructions_of}
use Rattle.vr_wasm_num.specs.declared.trap.TheConstants.{TABLE_OUT_OF_BOUNDS, UNINITIALISED_ELEMENT, CALL_TYPE_MISMATCH, TOO_MANY_FRAMES, TOO_MANY_VALUES, TOO_MANY_LABELS}
use Rattle.vr_wasm_steps.specs.declared.limits.TheConstants.{MAX_FRAMES, MAX_SLOTS, MAX_LABELS}
use Rattle.vr_wasm_steps.specs.Rows.{Program, Config, Outcome, exited, traps_with, no_row, goes, Callee as Function, own, outside, calls_own, calls_outside, replied, called as callee_called, called_as, called_by, same_sort, type_of, row, step, exits_with, traps, lost, next_of, next}
use Rattle.vr_wasm_steps.specs.Terms.{Term, end, label, frame, plains, unwind, frames, slots, labels}
use Rattle.vr_wasm_stacks.specs.Positions.{Layer, in_label, in_frame, Position, close, term_of, with_operands, with_code, called}
use Rattle.vr_wasm_stacks.proofs.CountLemmas.{frames-unwind, slots_with}
use Rattle.vr_wasm_run.specs.Calls.{passed, passed_outside, HasArguments, IsEntered, IsReplied, IsAsked, IsCalled, answered_at}
use Rattle.vr_wasm_run.specs.declared.progress.Progress.{Progress}
use Rattle.vr_wasm_run.specs.declared.progress.Progress.TheVariants.{Went, Exited, Stopped}
use Rattle.vr_wasm_run.specs.Machines.{IsRow}
use Rattle.vr_wasm_run.proofs.ThroughLemmas.{through, through-stepped, through-traps, through-exited, through-no_row, moved}
use Rattle.vr_wasm_run.proofs.RowLemmas.{IsAt}
use Rattle.vr_wasm_run.proofs.ControlLemmas.{row_is}
use Rattle.vr_wasm_run.proofs.OperandLemmas.{labels_with, rest_of, wants}
use Rattle.vr_wasm_run.proofs.FunctionLemmas.{equal_sorts, other_sorts}

-- ---- the counts with other operands

frames-inside : (layers : List Layer) (ls : List ℕ) (s t : Term) → frames s ≡ frames t → frames (close layers ls s) ≡ frames (close layers ls t)
unfolding close
frames-inside [] ls s t e = e
frames-inside (in_label n onward vs after ∷ layers) ls s t e =
    let in_s : Term = label n (instructions_of onward) s (plains (instructions_of after) end) in
    let in_t : Term = label n (instructions_of onward) t (plains (instructions_of after) end) in
    frames-inside layers ls (unwind vs in_s) (unwind vs in_t) (frames-unwind vs in_s ∙ ap (λ x. x + frames (plains (instructions_of after) end)) e ∙ sym (frames-unwind vs in_t))
frames-inside (in_frame n vs after outer ∷ layers) ls s t e =
    let in_s : Term = frame n ls s (plains (instructions_of after) end) in
    let in_t : Term = frame n ls t (plains (instructions_of after) end) in
    frames-inside layers outer (unwind vs in_s) (unwind vs in_t) (frames-unwind vs in_s ∙ ap (λ x. 1 + x + frames (plains (instructions_of after) end)) e ∙ sym (frames-unwind vs in_t))

pub frames_with : (z : Position) (vs : List ℕ) → frames (term_of (with_operands z vs)) ≡ frames (term_of z)
frames_with z vs =
    let rest : Term = plains (instructions_of z.code) end in
    frames-inside z.layers z.locals (unwind vs rest) (unwind z.operands rest) (frames-unwind vs rest ∙ sym (frames-unwind z.operands rest))

-- the operands are among the slots
pub operands_few : (z : Position) → length z.operands ≤ slots (term_of z)
operands_few z = omega (arith, slots_with z [])

same_le : (a b c d : ℕ) → (a ≤ b → c ≤ d) → (c ≤ d → a ≤ b) → nat_le a b ≡ nat_le c d
same_le a b c d f g = elim (leb_tells a b) [
  | inl t ↦ t.0 ∙ sym (le-leb c d (f t.1))
  | inr t ↦ elim (leb_tells c d) [
    | inl u ↦ absurd (omega (arith, t.1, g u.1))
    | inr u ↦ t.0 ∙ sym u.0
  ]
]

-- ---- rows

module _ {W : Type 0} (p : Program W) (k : Config W) (z : Position) (i : Instr) (rest : List Instr) (here : IsAt p k z i rest) where
  abbrev after : Term
  after = plains (instructions_of rest) end

  -- a call with the operands vs
  module _ (j : Instruction) (named : instruction_of i ≡ j) (vs : List ℕ) where
    abbrev there : Position
    there = with_operands z vs

    same_frames : frames k.term ≡ frames (term_of there)
    same_frames = ap frames here.term ∙ sym (frames_with z vs)

    same_labels : labels k.term ≡ labels (term_of there)
    same_labels = ap labels here.term ∙ sym (labels_with z vs)

    -- ---- of a function of the module

    module _ (sort : FuncType) (locals : ℕ) (body : List Instr)
        (calls : row p k z.locals z.operands j after ≡ calls_own k z.locals (length z.operands) vs sort locals (instructions_of body) after) where
      into : Outcome W
      into = goes k z.locals (unwind (drop (length sort.params) vs) (frame (length sort.results) (reverse (take (length sort.params) vs) ++ replicate locals 0) (plains (instructions_of body) end) after))

      ends_in : Option ℕ → Outcome W
      unfolding into
      ends_in None = into
      ends_in (Some kind) = traps_with kind

      tests : (a b c : Bool) → (if a then (if b then (if c then into else traps_with TOO_MANY_LABELS) else traps_with TOO_MANY_VALUES) else traps_with TOO_MANY_FRAMES)
          ≡ ends_in (if a then (if b then (if c then None else Some TOO_MANY_LABELS) else Some TOO_MANY_VALUES) else Some TOO_MANY_FRAMES)
      unfolding ends_in
      tests true true true = refl
      tests true true false = refl
      tests true false c = refl
      tests false b c = refl

      same_slots : nat_le (slots k.term + length vs + locals) (MAX_SLOTS + length z.operands) ≡ nat_le (slots (term_of there) + locals) MAX_SLOTS
      same_slots =
          same_le (slots k.term + length vs + locals) (MAX_SLOTS + length z.operands) (slots (term_of there) + locals) MAX_SLOTS
          (λ h. omega (arith, h, ap slots here.term, slots_with z vs)) (λ h. omega (arith, h, ap slots here.term, slots_with z vs))

      tested : row p k z.locals z.operands j after ≡ ends_in (passed (term_of there) locals)
      unfolding into
      tested =
          calls
          ∙ ap (λ x. if nat_lt x MAX_FRAMES then (if nat_le (slots k.term + length vs + locals) (MAX_SLOTS + length z.operands) then (if nat_lt (labels k.term) MAX_LABELS then into else traps_with TOO_MANY_LABELS) else traps_with TOO_MANY_VALUES) else traps_with TOO_MANY_FRAMES) same_frames
          ∙ ap (λ x. if nat_lt (frames (term_of there)) MAX_FRAMES then (if x then (if nat_lt (labels k.term) MAX_LABELS then into else traps_with TOO_MANY_LABELS) else traps_with TOO_MANY_VALUES) else traps_with TOO_MANY_FRAMES) same_slots
          ∙ ap (λ x. if nat_lt (frames (term_of there)) MAX_FRAMES then (if nat_le (slots (term_of there) + locals) MAX_SLOTS then (if nat_lt x MAX_LABELS then into else traps_with TOO_MANY_LABELS) else traps_with TOO_MANY_VALUES) else traps_with TOO_MANY_FRAMES) same_labels
          ∙ tests (nat_lt (frames (term_of there)) MAX_FRAMES) (nat_le (slots (term_of there) + locals) MAX_SLOTS) (nat_lt (labels (term_of there)) MAX_LABELS)

      own_full : (kind : ℕ) → passed (term_of there) locals ≡ Some kind → next p k ≡ traps kind
      unfolding ends_in
      own_full kind e =
          row_is p k z i rest here j (traps_with kind) named (tested ∙ ap ends_in e)
          ∙ ap (next_of p k k.calls) (through-traps p k z.layers z.locals kind)

      abbrev inside : Position
      inside = called there (length sort.params) locals (length sort.results) rest body

      own_step : passed (term_of there) locals ≡ None → next p k ≡ step 1 (moved p k inside)
      unfolding ends_in into close
      own_step e =
          row_is p k z i rest here j into named (tested ∙ ap ends_in e)
          ∙ through-stepped p k z.layers z.locals z.locals 1 k.store k.world (unwind (drop (length sort.params) vs) (frame (length sort.results) (reverse (take (length sort.params) vs) ++ replicate locals 0) (plains (instructions_of body) end) after))

      own_tells : (o : Option ℕ) (progress : Progress) (z' : Position) → passed (term_of there) locals ≡ o → IsEntered o inside progress z' → IsRow (next p k) k.world progress (moved p k z')
      own_tells None progress z' e h = subst (λ x. IsRow (next p k) k.world x (moved p k z')) (sym h.0) (own_step e ∙ ap (λ x. step 1 (moved p k x)) (sym h.1))
      own_tells (Some kind) progress z' e h = subst (λ x. IsRow (next p k) k.world x (moved p k z')) (sym h) (own_full kind e)

    -- ---- of a function of the host

    -- the reply, at the operands that are left
    module _ (left : List ℕ) where
      conf : Position → Contents → W → Config W
      conf z' memory w = record { store = with_memory k.store memory; world = w; term = term_of z'; calls = k.calls }

      settled : (cost : ℕ) (z' z'' : Position) (m m' : Contents) (w w' : W) → next p k ≡ step 1 (conf z' m w) → (cost ≡ 1) × (z'' ≡ z') × (m' ≡ m) × (w' ≡ w) → next p k ≡ step cost (conf z'' m' w')
      settled cost z' z'' m m' w w' e h =
          e ∙ ap (λ x. step x (conf z' m w)) (sym h.0) ∙ ap (λ x. step cost (conf x m w)) (sym h.1) ∙ ap (λ x. step cost (conf z'' x w)) (sym h.2) ∙ ap (λ x. step cost (conf z'' m' x)) (sym h.3)

      abbrev without : Position
      without = with_code (with_operands z left) rest

      exit_tells : (code n : ℕ) (w w' : W) → next p k ≡ next_of p k k.calls (through p k z.layers z.locals (exited code w)) → (n ≡ code) × (w' ≡ w) → next p k ≡ exits_with n w'
      exit_tells code n w w' e h =
          e ∙ ap (next_of p k k.calls) (through-exited p k z.layers z.locals code w) ∙ ap (λ x. exits_with x w) (sym h.0) ∙ ap (exits_with n) (sym h.1)

      replied_tells : (results : List ValType) (reply : Reply W) (progress : Progress) (z' : Position) (memory' : Contents) (w' : W)
          → next p k ≡ next_of p k k.calls (through p k z.layers z.locals (replied k z.locals left results after reply))
          → IsReplied results reply without progress z' memory' w'
          → IsRow (next p k) k.world progress (record { store = with_memory k.store memory'; world = w'; term = term_of z'; calls = k.calls })
      unfolding conf
      replied_tells results reply Stopped z' memory' w' e h = tt
      replied_tells (t ∷ []) (gives_value v m w) (Went cost) z' memory' w' e h =
          settled cost (with_operands without (v ∷ left)) z' m memory' w w' (e ∙ through-stepped p k z.layers z.locals z.locals 1 (with_memory k.store m) w (unwind (v ∷ left) after)) h
      replied_tells [] (gives_nothing m w) (Went cost) z' memory' w' e h =
          settled cost without z' m memory' w w' (e ∙ through-stepped p k z.layers z.locals z.locals 1 (with_memory k.store m) w (unwind left after)) h
      replied_tells [] (exits code m w) (Exited n) z' memory' w' e h = exit_tells code n w w' e h
      replied_tells (t ∷ []) (exits code m w) (Exited n) z' memory' w' e h = exit_tells code n w w' e h
      replied_tells (t ∷ u ∷ ts) (exits code m w) (Exited n) z' memory' w' e h = exit_tells code n w w' e h
      replied_tells [] (gives_value v m w) progress z' memory' w' e h = absurd h
      replied_tells (t ∷ []) (gives_value v m w) progress z' memory' w' e h = absurd h
      replied_tells (t ∷ u ∷ ts) (gives_value v m w) progress z' memory' w' e h = absurd h
      replied_tells [] (gives_nothing m w) progress z' memory' w' e h = absurd h
      replied_tells (t ∷ []) (gives_nothing m w) progress z' memory' w' e h = absurd h
      replied_tells (t ∷ u ∷ ts) (gives_nothing m w) progress z' memory' w' e h = absurd h
      replied_tells [] (exits code m w) progress z' memory' w' e h = absurd h
      replied_tells (t ∷ []) (exits code m w) progress z' memory' w' e h = absurd h
      replied_tells (t ∷ u ∷ ts) (exits code m w) progress z' memory' w' e h = absurd h

    module _ (sort : FuncType) (which : ℕ)
        (calls : row p k z.locals z.operands j after ≡ calls_outside p k z.locals (length z.operands) vs sort which after) where
      abbrev args : List ℕ
      args = reverse (take (length sort.params) vs)

      abbrev reply : Reply W
      reply = p.reply k.world which args k.store.memory

      asked_if : Bool → Outcome W
      asked_if typed = if typed then replied k z.locals (drop (length sort.params) vs) sort.results after reply else no_row

      ends_outside : Option ℕ → Outcome W
      unfolding asked_if
      ends_outside None = asked_if (are_of sort.params args)
      ends_outside (Some kind) = traps_with kind

      tests_outside : (a b : Bool) → (if a then (if b then asked_if (are_of sort.params args) else traps_with TOO_MANY_VALUES) else traps_with TOO_MANY_FRAMES)
          ≡ ends_outside (if a then (if b then None else Some TOO_MANY_VALUES) else Some TOO_MANY_FRAMES)
      unfolding ends_outside
      tests_outside true true = refl
      tests_outside true false = refl
      tests_outside false b = refl

      same_room : nat_le (slots k.term + length vs + length sort.results) (MAX_SLOTS + length z.operands + length sort.params) ≡ nat_le (slots (term_of there) + length sort.results) (MAX_SLOTS + length sort.params)
      same_room =
          same_le (slots k.term + length vs + length sort.results) (MAX_SLOTS + length z.operands + length sort.params) (slots (term_of there) + length sort.results) (MAX_SLOTS + length sort.params)
          (λ h. omega (arith, h, ap slots here.term, slots_with z vs)) (λ h. omega (arith, h, ap slots here.term, slots_with z vs))

      tested_outside : row p k z.locals z.operands j after ≡ ends_outside (passed_outside (term_of there) sort)
      unfolding asked_if
      tested_outside =
          calls
          ∙ ap (λ x. if nat_lt x MAX_FRAMES then (if nat_le (slots k.term + length vs + length sort.results) (MAX_SLOTS + length z.operands + length sort.params) then asked_if (are_of sort.params args) else traps_with TOO_MANY_VALUES) else traps_with TOO_MANY_FRAMES) same_frames
          ∙ ap (λ x. if nat_lt (frames (term_of there)) MAX_FRAMES then (if x then asked_if (are_of sort.params args) else traps_with TOO_MANY_VALUES) else traps_with TOO_MANY_FRAMES) same_room
          ∙ tests_outside (nat_lt (frames (term_of there)) MAX_FRAMES) (nat_le (slots (term_of there) + length sort.results) (MAX_SLOTS + length sort.params))

      outside_full : (kind : ℕ) → passed_outside (term_of there) sort ≡ Some kind → next p k ≡ traps kind
      unfolding ends_outside
      outside_full kind e =
          row_is p k z i rest here j (traps_with kind) named (tested_outside ∙ ap ends_outside e)
          ∙ ap (next_of p k k.calls) (through-traps p k z.layers z.locals kind)

      outside_asks : (typed : Bool) → passed_outside (term_of there) sort ≡ None → are_of sort.params args ≡ typed → next p k ≡ next_of p k k.calls (through p k z.layers z.locals (asked_if typed))
      unfolding ends_outside
      outside_asks typed e t = row_is p k z i rest here j (asked_if typed) named (tested_outside ∙ ap ends_outside e ∙ ap asked_if t)

      typed_if : (typed : Bool) → passed_outside (term_of there) sort ≡ None → are_of sort.params args ≡ typed → next p k ≢ lost → IsTrue typed
      unfolding asked_if
      typed_if true e t live = refl
      typed_if false e t live = absurd (live (outside_asks false e t ∙ ap (next_of p k k.calls) (through-no_row p k z.layers z.locals)))

      outside_typed : next p k ≢ lost → passed_outside (term_of there) sort ≡ None → IsTrue (are_of sort.params args)
      outside_typed live e = typed_if (are_of sort.params args) e refl live

      outside_tells : (o : Option ℕ) (progress : Progress) (z' : Position) (memory' : Contents) (w' : W) → passed_outside (term_of there) sort ≡ o → (o ≡ None → IsTrue (are_of sort.params args))
          → IsAsked o sort.results reply (answered_at sort there rest) progress z' memory' w'
          → IsRow (next p k) k.world progress (record { store = with_memory k.store memory'; world = w'; term = term_of z'; calls = k.calls })
      unfolding asked_if
      outside_tells None progress z' memory' w' e t h =
          replied_tells (drop (length sort.params) vs) sort.results reply progress z' memory' w' (outside_asks true e (t refl)) h
      outside_tells (Some kind) progress z' memory' w' e t h =
          subst (λ x. IsRow (next p k) k.world x (record { store = with_memory k.store memory'; world = w'; term = term_of z'; calls = k.calls })) (sym h) (outside_full kind e)

    -- ---- of either

    -- with as many operands as it has parameters, or not
    own_if : (sort : FuncType) (locals : ℕ) (body : List Instr) (b : Bool)
        → row p k z.locals z.operands j after ≡ callee_called p k z.locals (length z.operands) vs after (Some (own sort locals (instructions_of body))) → nat_le (length sort.params) (length vs) ≡ b
        → row p k z.locals z.operands j after ≡ (if b then calls_own k z.locals (length z.operands) vs sort locals (instructions_of body) after else no_row)
    own_if sort locals body b calls e = calls ∙ ap (λ x. if x then calls_own k z.locals (length z.operands) vs sort locals (instructions_of body) after else no_row) e

    outside_if : (sort : FuncType) (which : ℕ) (b : Bool)
        → row p k z.locals z.operands j after ≡ callee_called p k z.locals (length z.operands) vs after (Some (outside sort which)) → nat_le (length sort.params) (length vs) ≡ b
        → row p k z.locals z.operands j after ≡ (if b then calls_outside p k z.locals (length z.operands) vs sort which after else no_row)
    outside_if sort which b calls e = calls ∙ ap (λ x. if x then calls_outside p k z.locals (length z.operands) vs sort which after else no_row) e

    nowhere : row p k z.locals z.operands j after ≡ no_row → next p k ≡ lost
    nowhere e = row_is p k z i rest here j no_row named e ∙ ap (next_of p k k.calls) (through-no_row p k z.layers z.locals)

    pub has_arguments : (callee : Callee) → row p k z.locals z.operands j after ≡ callee_called p k z.locals (length z.operands) vs after (Some (function_of callee)) → next p k ≢ lost → HasArguments callee there
    has_arguments (Own sort locals body) calls live = elim (leb_tells (length sort.now.params) (length vs)) [
      | inl t ↦ t.1
      | inr t ↦ absurd (live (nowhere (own_if sort.now locals body.now false calls t.0)))
    ]
    has_arguments (Outside sort which) calls live = elim (leb_tells (length sort.now.params) (length vs)) [
      | inl t ↦ (t.1, outside_typed sort.now which (outside_if sort.now which true calls t.0) live)
      | inr t ↦ absurd (live (nowhere (outside_if sort.now which false calls t.0)))
    ]

    pub called_row : (callee : Callee) (progress : Progress) (z' : Position) (memory' : Contents) (w' : W)
        → row p k z.locals z.operands j after ≡ callee_called p k z.locals (length z.operands) vs after (Some (function_of callee))
        → HasArguments callee there → IsCalled p.reply callee rest there k.store.memory k.world progress z' memory' w'
        → IsRow (next p k) k.world progress (record { store = with_memory k.store memory'; world = w'; term = term_of z'; calls = k.calls })
    called_row (Own sort locals body) progress z' memory' w' calls few h =
        subst (λ x. IsRow (next p k) k.world progress (record { store = with_memory k.store memory'; world = x; term = term_of z'; calls = k.calls })) (sym h.2)
        (subst (λ x. IsRow (next p k) k.world progress (record { store = with_memory k.store x; world = k.world; term = term_of z'; calls = k.calls })) (sym h.1)
        (own_tells sort.now locals body.now (own_if sort.now locals body.now true calls (le-leb (length sort.now.params) (length vs) few)) (passed (term_of there) locals) progress z' refl h.0))
    called_row (Outside sort which) progress z' memory' w' calls few h =
        outside_tells sort.now which (outside_if sort.now which true calls (le-leb (length sort.now.params) (length vs) few.0)) (passed_outside (term_of there) sort.now) progress z' memory' w' refl few.1 h

  -- ---- which function it is

  -- some function has the number
  pub call_found : (place : ℕ) → instruction_of i ≡ call place → (f : Option Function) → slice_get p.functions place ≡ f → next p k ≢ lost → IsSome f
  call_found place named None e live = absurd (live (
      row_is p k z i rest here (call place) no_row named (ap (callee_called p k z.locals (length z.operands) z.operands after) e)
      ∙ ap (next_of p k k.calls) (through-no_row p k z.layers z.locals)))
  call_found place named (Some f) e live = refl

  -- a call of the function of this number
  module _ (place : ℕ) (named : instruction_of i ≡ call place) (callee : Callee) (found : slice_get p.functions place ≡ Some (function_of callee)) where
    direct : row p k z.locals z.operands (call place) after ≡ callee_called p k z.locals (length z.operands) z.operands after (Some (function_of callee))
    direct = ap (callee_called p k z.locals (length z.operands) z.operands after) found

    pub call_arguments : next p k ≢ lost → HasArguments callee z
    call_arguments live = has_arguments (call place) named z.operands callee direct live

    pub call_row : (progress : Progress) (z' : Position) (memory' : Contents) (w' : W)
        → HasArguments callee z → IsCalled p.reply callee rest z k.store.memory k.world progress z' memory' w'
        → IsRow (next p k) k.world progress (record { store = with_memory k.store memory'; world = w'; term = term_of z'; calls = k.calls })
    call_row progress z' memory' w' few h = called_row (call place) named z.operands callee progress z' memory' w' direct few h

  -- a call of the function in the table at the place v, the last operand, which leaves the position z'
  module _ (wanted : ℕ) (named : instruction_of i ≡ call_indirect wanted) where
    pub indirect_operand : next p k ≢ lost → 0 < length z.operands
    indirect_operand live = wants p k z i rest here (call_indirect wanted) z.operands refl named refl live

    module _ (z' : Position) (v : ℕ) (split : z ≡ with_operands z' (v ∷ z'.operands)) where
      by : row p k z.locals z.operands (call_indirect wanted) after ≡ called_by p k z.locals (length z.operands) z'.operands after (slice_get p.types wanted) (slice_get k.store.table v)
      by =
          ap (λ x. row p k z.locals x (call_indirect wanted) after) (ap (λ (x : Position). x.operands) split)
          ∙ ap (λ x. called_by p k z.locals x z'.operands after (slice_get p.types wanted) (slice_get k.store.table v)) (sym (ap (λ (x : Position). length x.operands) split))

      traps_by : (kind : ℕ) → row p k z.locals z.operands (call_indirect wanted) after ≡ traps_with kind → next p k ≡ traps kind
      traps_by kind e = row_is p k z i rest here (call_indirect wanted) (traps_with kind) named e ∙ ap (next_of p k k.calls) (through-traps p k z.layers z.locals kind)

      pub indirect_outside : slice_get k.store.table v ≡ None → next p k ≡ traps TABLE_OUT_OF_BOUNDS
      indirect_outside e = traps_by TABLE_OUT_OF_BOUNDS (by ∙ ap (called_by p k z.locals (length z.operands) z'.operands after (slice_get p.types wanted)) e)

      pub indirect_empty : slice_get k.store.table v ≡ Some None → next p k ≡ traps UNINITIALISED_ELEMENT
      indirect_empty e = traps_by UNINITIALISED_ELEMENT (by ∙ ap (called_by p k z.locals (length z.operands) z'.operands after (slice_get p.types wanted)) e)

      -- the place has a function
      module _ (f : ℕ) (there : slice_get k.store.table v ≡ Some (Some f)) where
        called_at : (sort : Option FuncType) (g : Option Function) → slice_get p.types wanted ≡ sort → slice_get p.functions f ≡ g
            → row p k z.locals z.operands (call_indirect wanted) after ≡ called_as p k z.locals (length z.operands) z'.operands after sort g
        called_at sort g e q =
            by ∙ ap (called_by p k z.locals (length z.operands) z'.operands after (slice_get p.types wanted)) there
            ∙ ap (λ x. called_as p k z.locals (length z.operands) z'.operands after x (slice_get p.functions f)) e
            ∙ ap (called_as p k z.locals (length z.operands) z'.operands after sort) q

        lost_by : row p k z.locals z.operands (call_indirect wanted) after ≡ no_row → next p k ≡ lost
        lost_by e = nowhere (call_indirect wanted) named z'.operands e

        sort_if : (sort : Option FuncType) (g : Option Function) → slice_get p.types wanted ≡ sort → slice_get p.functions f ≡ g → next p k ≢ lost → IsSome sort × IsSome g
        sort_if None g e q live = absurd (live (lost_by (called_at None g e q)))
        sort_if (Some sort) None e q live = absurd (live (lost_by (called_at (Some sort) None e q)))
        sort_if (Some sort) (Some g) e q live = (refl, refl)

        -- some type and some function have the numbers
        pub indirect_found : next p k ≢ lost → IsSome (slice_get p.types wanted) × IsSome (slice_get p.functions f)
        indirect_found live = sort_if (slice_get p.types wanted) (slice_get p.functions f) refl refl live

        module _ (sort : FuncType) (typed : slice_get p.types wanted ≡ Some sort) (callee : Callee) (found : slice_get p.functions f ≡ Some (function_of callee)) where
          same_if : (b : Bool) → same_sort (type_of (function_of callee)) sort ≡ b
              → row p k z.locals z.operands (call_indirect wanted) after ≡ (if b then callee_called p k z.locals (length z.operands) z'.operands after (Some (function_of callee)) else traps_with CALL_TYPE_MISMATCH)
          same_if b e =
              called_at (Some sort) (Some (function_of callee)) typed found
              ∙ ap (λ x. if x then callee_called p k z.locals (length z.operands) z'.operands after (Some (function_of callee)) else traps_with CALL_TYPE_MISMATCH) e

          pub indirect_other : type_of (function_of callee) ≢ sort → next p k ≡ traps CALL_TYPE_MISMATCH
          indirect_other other = traps_by CALL_TYPE_MISMATCH (same_if false (other_sorts (type_of (function_of callee)) sort other))

          pub indirect_arguments : type_of (function_of callee) ≡ sort → next p k ≢ lost → HasArguments callee z'
          indirect_arguments same live =
              subst (HasArguments callee) (rest_of z z' v split)
              (has_arguments (call_indirect wanted) named z'.operands callee (same_if true (equal_sorts (type_of (function_of callee)) sort same)) live)

          pub indirect_row : type_of (function_of callee) ≡ sort → (progress : Progress) (z'' : Position) (memory' : Contents) (w' : W)
              → HasArguments callee z' → IsCalled p.reply callee rest z' k.store.memory k.world progress z'' memory' w'
              → IsRow (next p k) k.world progress (record { store = with_memory k.store memory'; world = w'; term = term_of z''; calls = k.calls })
          indirect_row same progress z'' memory' w' few h =
              called_row (call_indirect wanted) named z'.operands callee progress z'' memory' w' (same_if true (equal_sorts (type_of (function_of callee)) sort same))
              (subst (HasArguments callee) (sym (rest_of z z' v split)) few)
              (subst (λ x. IsCalled p.reply callee rest x k.store.memory k.world progress z'' memory' w') (sym (rest_of z z' v split)) h)
