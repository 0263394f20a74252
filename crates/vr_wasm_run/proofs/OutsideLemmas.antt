-- What comes next where nothing is left of a function that was called from outside.
use Rattle.std.proofs.Common.{ℕ, ◌≡◌, ◌≢◌, List, [], ◌∷◌, ◌++◌, length, slice_get, Option, Some, None, IsSome, refl, ap, sym, ◌∙◌}
use Rattle.std.specs.Option.{option_to_list}
use Rattle.vr_wasm_ast.specs.declared.instr.Instr.{Instr}
use Rattle.vr_wasm_ast.specs.declared.instr.Instr.TheVariants as tree
use Rattle.vr_wasm_ast.specs.declared.tree.FuncType.{FuncType}
use Rattle.vr_wasm_ast.specs.Instructions.{call, instructions_of}
use Rattle.vr_wasm_ast.proofs.InstructionLemmas.{instruction_of-Call}
use Rattle.vr_wasm_link.specs.declared.functions.Callee.{Callee}
use Rattle.vr_wasm_link.specs.declared.functions.Callee.TheVariants.{Own, Outside}
use Rattle.vr_wasm_link.specs.Functions.{function_of}
use Rattle.vr_wasm_num.specs.Memory.{Contents}
use Rattle.vr_wasm_steps.specs.Effects.{with_memory}
use Rattle.vr_wasm_steps.specs.Rows.{Program, Config, Callee as Function, own, outside as of_host, finished, called_from_outside, entry, over, lost, next_of, next}
use Rattle.vr_wasm_steps.specs.Terms.{end, plain, frames, slots, labels}
use Rattle.vr_wasm_stacks.specs.Positions.{Layer, Position, close, term_of, IsRooted, with_code, outside, called}
use Rattle.vr_wasm_run.specs.Calls.{HasArguments, IsCalled}
use Rattle.vr_wasm_run.specs.declared.progress.Progress.{Progress}
use Rattle.vr_wasm_run.specs.Machines.{IsRow}
use Rattle.vr_wasm_run.proofs.ThroughLemmas.{through}
use Rattle.vr_wasm_run.proofs.RowLemmas.{IsAt}
use Rattle.vr_wasm_run.proofs.ControlLemmas.{ended}
use Rattle.vr_wasm_run.proofs.CallLemmas.{call_found, call_arguments, call_row}

-- ---- the stacks outside of everything

pub outside_term : term_of outside ≡ end
unfolding close
outside_term = refl

pub outside_frames : frames (term_of outside) ≡ 0
unfolding close
outside_frames = refl

pub outside_slots : slots (term_of outside) ≡ 0
unfolding close
outside_slots = refl

pub outside_labels : labels (term_of outside) ≡ 0
unfolding close
outside_labels = refl

pub entered_term : (sort : FuncType) (locals : ℕ) (body : List Instr) (f : ℕ) → term_of (called outside 0 locals (length sort.results) [] body) ≡ called_from_outside (Some (own sort locals (instructions_of body))) f
unfolding close
entered_term sort locals body f = refl

-- ---- what is still to be called

pub still_one : (f : Option ℕ) → option_to_list f ≡ option_to_list f ++ []
still_one None = refl
still_one (Some f) = refl

pub none_left : (f : Option ℕ) → f ≡ None → option_to_list f ≡ []
none_left f e = ap option_to_list e

module _ {W : Type 0} (p : Program W) (k : Config W) (z : Position) (same : k.term ≡ term_of z) (rooted : IsRooted z.layers z.locals) (code : z.code ≡ []) (bare : z.layers ≡ []) where
  at_end : next p k ≡ next_of p k k.calls (finished z.operands)
  unfolding through
  at_end = ended p k z same rooted code ∙ ap (λ (x : List Layer). next_of p k k.calls (through p k x z.locals (finished z.operands))) bare

  pub outside_over : k.calls ≡ [] → next p k ≡ over
  outside_over e = at_end ∙ ap (λ x. next_of p k x (finished z.operands)) e

  pub outside_next : (f : ℕ) (fs : List ℕ) → k.calls ≡ f ∷ fs → next p k ≡ next p (entry p k f fs)
  outside_next f fs e = at_end ∙ ap (λ x. next_of p k x (finished z.operands)) e

-- ---- a function of the host, called from outside

module _ {W : Type 0} (p : Program W) (k : Config W) (f : ℕ) (fs : List ℕ) where
  -- where the call comes first
  unfoldable pub before : Position
  before = with_code outside (tree.Call f ∷ [])

  here : called_from_outside (slice_get p.functions f) f ≡ plain (call f) end → IsAt p (entry p k f fs) before (tree.Call f) []
  unfolding before close
  here e = record { term = e ∙ ap (λ j. plain j end) (sym (instruction_of-Call f)); rooted = refl; code = refl }

  found_if : (g : Option Function) → slice_get p.functions f ≡ g → next p (entry p k f fs) ≢ lost → IsSome g
  found_if None e live = call_found p (entry p k f fs) before (tree.Call f) [] (here (ap (λ x. called_from_outside x f) e)) f (instruction_of-Call f) None e live
  found_if (Some g) e live = refl

  -- some function has the number
  pub outside_found : next p (entry p k f fs) ≢ lost → IsSome (slice_get p.functions f)
  outside_found live = found_if (slice_get p.functions f) refl live

  module _ (callee : Callee) (sort : FuncType) (which : ℕ) (is : function_of callee ≡ of_host sort which) (found : slice_get p.functions f ≡ Some (function_of callee)) where
    term_is : called_from_outside (slice_get p.functions f) f ≡ plain (call f) end
    term_is = ap (λ x. called_from_outside x f) (found ∙ ap Some is)

    pub host_arguments : next p (entry p k f fs) ≢ lost → HasArguments callee before
    host_arguments live = call_arguments p (entry p k f fs) before (tree.Call f) [] (here term_is) f (instruction_of-Call f) callee found live

    pub host_row : HasArguments callee before → (progress : Progress) (z' : Position) (memory' : Contents) (w' : W)
        → IsCalled p.reply callee [] before k.store.memory k.world progress z' memory' w'
        → IsRow (next p (entry p k f fs)) k.world progress (record { store = with_memory k.store memory'; world = w'; term = term_of z'; calls = fs })
    host_row few progress z' memory' w' h =
        call_row p (entry p k f fs) before (tree.Call f) [] (here term_is) f (instruction_of-Call f) callee found progress z' memory' w' few h

  -- the code before a call makes no difference
  pub arguments_here : (c : Callee) → HasArguments c before → HasArguments c outside
  unfolding before close
  arguments_here (Own sort' locals body) h = h
  arguments_here (Outside sort' which') h = h

  pub arguments_there : (c : Callee) → HasArguments c outside → HasArguments c before
  unfolding before close
  arguments_there (Own sort' locals body) h = h
  arguments_there (Outside sort' which') h = h

  pub called_there : (c : Callee) (progress : Progress) (z' : Position) (memory' : Contents) (w' : W)
      → IsCalled p.reply c [] outside k.store.memory k.world progress z' memory' w' → IsCalled p.reply c [] before k.store.memory k.world progress z' memory' w'
  unfolding before close
  called_there (Own sort' locals body) progress z' memory' w' h = h
  called_there (Outside sort' which') progress z' memory' w' h = h
