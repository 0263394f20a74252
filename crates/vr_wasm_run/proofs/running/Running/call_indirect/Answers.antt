use Rattle.std.proofs.Common.{◌≡◌, ◌≢◌, ◌<◌, length, slice_get, Some, refl, ap, sym, ◌∙◌, subst, arith}
use Rattle.std.proofs.lemmas.Bool.{false≢true}
use Rattle.std.proofs.lemmas.Option.{slice_get_read}
use Rattle.vr_wasm_ast.specs.Instructions.{instruction_of}
use Rattle.vr_wasm_ast.proofs.InstructionLemmas.{instruction_of-CallIndirect}
use Rattle.vr_wasm_link.specs.Functions.{function_of}
use Rattle.vr_wasm_num.specs.declared.trap.TheConstants.{TABLE_OUT_OF_BOUNDS, UNINITIALISED_ELEMENT, CALL_TYPE_MISMATCH}
use Rattle.vr_wasm_steps.specs.Rows.{next, type_of}
use Rattle.vr_wasm_run.specs.Machines.{IsRow, program_of, config, pending}
use Rattle.vr_wasm_run.specs.Configs.{config_of}
use Rattle.vr_wasm_run.proofs.RowLemmas.{IsAt}
use Rattle.vr_wasm_run.proofs.CallLemmas.{indirect_operand, indirect_outside, indirect_empty, indirect_found, indirect_other, indirect_arguments, indirect_row}
use Rattle.vr_wasm_run.proofs.FunctionLemmas.{function_at, function_within, within}
use Rattle.vr_wasm_run.proofs.ProgressLemmas.{trapped_itself, as_many}
use Rattle.vr_wasm_run.proofs.running.Running.call_indirect.Goals as goal

pub pop-at-requires : goal.pop-at-requires
pop-at-requires g c =
    let here : IsAt (program_of g.H.Host.reply c.args.self.now) (config g.H.Host.world c.args.self.now) c.args.self.now.state.stacks c.args.instr.now c.args.rest.now = record { term = refl; rooted = c.requires.stands.rooted; code = c.requires.stands.code } in
    indirect_operand (program_of g.H.Host.reply c.args.self.now) (config g.H.Host.world c.args.self.now) c.args.self.now.state.stacks c.args.instr.now c.args.rest.now here c.args.wanted (ap instruction_of c.requires.calls ∙ instruction_of-CallIndirect c.args.wanted) c.requires.stands.live

pub returns-in-None : goal.returns-in-None
returns-in-None g c =
    let here : IsAt (program_of g.H.Host.reply c.args.self.now) (config g.H.Host.world c.args.self.now) c.args.self.now.state.stacks c.args.instr.now c.args.rest.now = record { term = refl; rooted = c.requires.stands.rooted; code = c.requires.stands.code } in
    record {
      row = indirect_outside (program_of g.H.Host.reply c.args.self.now) (config g.H.Host.world c.args.self.now) c.args.self.now.state.stacks c.args.instr.now c.args.rest.now here c.args.wanted (ap instruction_of c.requires.calls ∙ instruction_of-CallIndirect c.args.wanted) c.pop-at.new.self c.pop-at.result c.pop-at.ensures.value (ap (λ x. slice_get x c.pop-at.result) (sym c.deref.ensures.value) ∙ c.element.ensures ∙ c.in-None.is);
      program = refl;
      counted = as_many (g.H.Host.stops c.args.self.now.host);
      stopped = λ e. absurd (trapped_itself TABLE_OUT_OF_BOUNDS e);
    }

pub returns-in-Some-None : goal.returns-in-Some-None
returns-in-Some-None g c =
    let here : IsAt (program_of g.H.Host.reply c.args.self.now) (config g.H.Host.world c.args.self.now) c.args.self.now.state.stacks c.args.instr.now c.args.rest.now = record { term = refl; rooted = c.requires.stands.rooted; code = c.requires.stands.code } in
    record {
      row = indirect_empty (program_of g.H.Host.reply c.args.self.now) (config g.H.Host.world c.args.self.now) c.args.self.now.state.stacks c.args.instr.now c.args.rest.now here c.args.wanted (ap instruction_of c.requires.calls ∙ instruction_of-CallIndirect c.args.wanted) c.pop-at.new.self c.pop-at.result c.pop-at.ensures.value (ap (λ x. slice_get x c.pop-at.result) (sym c.deref.ensures.value) ∙ c.element.ensures ∙ c.in-Some-None.is ∙ ap Some c.in-Some-None.field-0-is);
      program = refl;
      counted = as_many (g.H.Host.stops c.args.self.now.host);
      stopped = λ e. absurd (trapped_itself UNINITIALISED_ELEMENT e);
    }

pub index-callee-requires : goal.index-callee-requires
index-callee-requires g c =
    let here : IsAt (program_of g.H.Host.reply c.args.self.now) (config g.H.Host.world c.args.self.now) c.args.self.now.state.stacks c.args.instr.now c.args.rest.now = record { term = refl; rooted = c.requires.stands.rooted; code = c.requires.stands.code } in
    let there : slice_get c.args.self.now.state.table.items c.pop-at.result ≡ Some (Some c.in-Some-Some.place) = ap (λ x. slice_get x c.pop-at.result) (sym c.deref.ensures.value) ∙ c.element.ensures ∙ c.in-Some-Some.is ∙ ap Some c.in-Some-Some.field-0-is in
    let inside = indirect_found (program_of g.H.Host.reply c.args.self.now) (config g.H.Host.world c.args.self.now) c.args.self.now.state.stacks c.args.instr.now c.args.rest.now here c.args.wanted (ap instruction_of c.requires.calls ∙ instruction_of-CallIndirect c.args.wanted) c.pop-at.new.self c.pop-at.result c.pop-at.ensures.value c.in-Some-Some.place there c.requires.stands.live in
    let place : c.in-Some-Some.place < length c.args.self.now.functions.items = function_within c.args.self.now.functions.items c.in-Some-Some.place inside.1 in
    omega (arith, place)

pub bounds-self-wanted : goal.bounds-self-wanted
bounds-self-wanted g c =
    let here : IsAt (program_of g.H.Host.reply c.args.self.now) (config g.H.Host.world c.args.self.now) c.args.self.now.state.stacks c.args.instr.now c.args.rest.now = record { term = refl; rooted = c.requires.stands.rooted; code = c.requires.stands.code } in
    let there : slice_get c.args.self.now.state.table.items c.pop-at.result ≡ Some (Some c.in-Some-Some.place) = ap (λ x. slice_get x c.pop-at.result) (sym c.deref.ensures.value) ∙ c.element.ensures ∙ c.in-Some-Some.is ∙ ap Some c.in-Some-Some.field-0-is in
    let inside = indirect_found (program_of g.H.Host.reply c.args.self.now) (config g.H.Host.world c.args.self.now) c.args.self.now.state.stacks c.args.instr.now c.args.rest.now here c.args.wanted (ap instruction_of c.requires.calls ∙ instruction_of-CallIndirect c.args.wanted) c.pop-at.new.self c.pop-at.result c.pop-at.ensures.value c.in-Some-Some.place there c.requires.stands.live in
    within c.args.self.now.types.now c.args.wanted inside.0

pub returns-then-not-equals : goal.returns-then-not-equals
returns-then-not-equals g c =
    let here : IsAt (program_of g.H.Host.reply c.args.self.now) (config g.H.Host.world c.args.self.now) c.args.self.now.state.stacks c.args.instr.now c.args.rest.now = record { term = refl; rooted = c.requires.stands.rooted; code = c.requires.stands.code } in
    let there : slice_get c.args.self.now.state.table.items c.pop-at.result ≡ Some (Some c.in-Some-Some.place) = ap (λ x. slice_get x c.pop-at.result) (sym c.deref.ensures.value) ∙ c.element.ensures ∙ c.in-Some-Some.is ∙ ap Some c.in-Some-Some.field-0-is in
    let inside = indirect_found (program_of g.H.Host.reply c.args.self.now) (config g.H.Host.world c.args.self.now) c.args.self.now.state.stacks c.args.instr.now c.args.rest.now here c.args.wanted (ap instruction_of c.requires.calls ∙ instruction_of-CallIndirect c.args.wanted) c.pop-at.new.self c.pop-at.result c.pop-at.ensures.value c.in-Some-Some.place there c.requires.stands.live in
    let place : c.in-Some-Some.place < length c.args.self.now.functions.items = function_within c.args.self.now.functions.items c.in-Some-Some.place inside.1 in
    let found : slice_get (program_of g.H.Host.reply c.args.self.now).functions c.in-Some-Some.place ≡ Some (function_of c.index-callee.result.now) = function_at c.args.self.now.functions.items c.in-Some-Some.place c.index-callee.result.now place c.index-callee.ensures in
    let typed : slice_get c.args.self.now.types.now c.args.wanted ≡ Some c.index-self-wanted.result = slice_get_read c.args.self.now.types.now (length c.args.self.now.types.now) c.args.wanted c.index-self-wanted.result refl (within c.args.self.now.types.now c.args.wanted inside.0) c.index-self-wanted.is in
    let other : type_of (function_of c.index-callee.result.now) ≢ c.index-self-wanted.result = λ e. false≢true (sym c.if-not-equals.true ∙ c.equals.ensures.1 (c.sort_of.ensures ∙ e ∙ c.index-self-wanted.is)) in
    record {
      row = indirect_other (program_of g.H.Host.reply c.args.self.now) (config g.H.Host.world c.args.self.now) c.args.self.now.state.stacks c.args.instr.now c.args.rest.now here c.args.wanted (ap instruction_of c.requires.calls ∙ instruction_of-CallIndirect c.args.wanted) c.pop-at.new.self c.pop-at.result c.pop-at.ensures.value c.in-Some-Some.place there c.index-self-wanted.result typed c.index-callee.result.now found other;
      program = refl;
      counted = as_many (g.H.Host.stops c.args.self.now.host);
      stopped = λ e. absurd (trapped_itself CALL_TYPE_MISMATCH e);
    }

pub invoke-requires-clause-callable : goal.invoke-requires-clause-callable
invoke-requires-clause-callable g c =
    let here : IsAt (program_of g.H.Host.reply c.args.self.now) (config g.H.Host.world c.args.self.now) c.args.self.now.state.stacks c.args.instr.now c.args.rest.now = record { term = refl; rooted = c.requires.stands.rooted; code = c.requires.stands.code } in
    let there : slice_get c.args.self.now.state.table.items c.pop-at.result ≡ Some (Some c.in-Some-Some.place) = ap (λ x. slice_get x c.pop-at.result) (sym c.deref.ensures.value) ∙ c.element.ensures ∙ c.in-Some-Some.is ∙ ap Some c.in-Some-Some.field-0-is in
    let inside = indirect_found (program_of g.H.Host.reply c.args.self.now) (config g.H.Host.world c.args.self.now) c.args.self.now.state.stacks c.args.instr.now c.args.rest.now here c.args.wanted (ap instruction_of c.requires.calls ∙ instruction_of-CallIndirect c.args.wanted) c.pop-at.new.self c.pop-at.result c.pop-at.ensures.value c.in-Some-Some.place there c.requires.stands.live in
    let place : c.in-Some-Some.place < length c.args.self.now.functions.items = function_within c.args.self.now.functions.items c.in-Some-Some.place inside.1 in
    let found : slice_get (program_of g.H.Host.reply c.args.self.now).functions c.in-Some-Some.place ≡ Some (function_of c.index-callee.result.now) = function_at c.args.self.now.functions.items c.in-Some-Some.place c.index-callee.result.now place c.index-callee.ensures in
    c.requires.callable c.in-Some-Some.place (function_of c.index-callee.result.now) found

pub invoke-requires-clause-arguments : goal.invoke-requires-clause-arguments
invoke-requires-clause-arguments g c =
    let here : IsAt (program_of g.H.Host.reply c.args.self.now) (config g.H.Host.world c.args.self.now) c.args.self.now.state.stacks c.args.instr.now c.args.rest.now = record { term = refl; rooted = c.requires.stands.rooted; code = c.requires.stands.code } in
    let there : slice_get c.args.self.now.state.table.items c.pop-at.result ≡ Some (Some c.in-Some-Some.place) = ap (λ x. slice_get x c.pop-at.result) (sym c.deref.ensures.value) ∙ c.element.ensures ∙ c.in-Some-Some.is ∙ ap Some c.in-Some-Some.field-0-is in
    let inside = indirect_found (program_of g.H.Host.reply c.args.self.now) (config g.H.Host.world c.args.self.now) c.args.self.now.state.stacks c.args.instr.now c.args.rest.now here c.args.wanted (ap instruction_of c.requires.calls ∙ instruction_of-CallIndirect c.args.wanted) c.pop-at.new.self c.pop-at.result c.pop-at.ensures.value c.in-Some-Some.place there c.requires.stands.live in
    let place : c.in-Some-Some.place < length c.args.self.now.functions.items = function_within c.args.self.now.functions.items c.in-Some-Some.place inside.1 in
    let found : slice_get (program_of g.H.Host.reply c.args.self.now).functions c.in-Some-Some.place ≡ Some (function_of c.index-callee.result.now) = function_at c.args.self.now.functions.items c.in-Some-Some.place c.index-callee.result.now place c.index-callee.ensures in
    let typed : slice_get c.args.self.now.types.now c.args.wanted ≡ Some c.index-self-wanted.result = slice_get_read c.args.self.now.types.now (length c.args.self.now.types.now) c.args.wanted c.index-self-wanted.result refl (within c.args.self.now.types.now c.args.wanted inside.0) c.index-self-wanted.is in
    let same : type_of (function_of c.index-callee.result.now) ≡ c.index-self-wanted.result = sym c.sort_of.ensures ∙ c.equals.ensures.0 c.if-not-equals.false ∙ sym c.index-self-wanted.is in
    indirect_arguments (program_of g.H.Host.reply c.args.self.now) (config g.H.Host.world c.args.self.now) c.args.self.now.state.stacks c.args.instr.now c.args.rest.now here c.args.wanted (ap instruction_of c.requires.calls ∙ instruction_of-CallIndirect c.args.wanted) c.pop-at.new.self c.pop-at.result c.pop-at.ensures.value c.in-Some-Some.place there c.index-self-wanted.result typed c.index-callee.result.now found same c.requires.stands.live

pub returns : goal.returns
returns g c =
    let here : IsAt (program_of g.H.Host.reply c.args.self.now) (config g.H.Host.world c.args.self.now) c.args.self.now.state.stacks c.args.instr.now c.args.rest.now = record { term = refl; rooted = c.requires.stands.rooted; code = c.requires.stands.code } in
    let there : slice_get c.args.self.now.state.table.items c.pop-at.result ≡ Some (Some c.in-Some-Some.place) = ap (λ x. slice_get x c.pop-at.result) (sym c.deref.ensures.value) ∙ c.element.ensures ∙ c.in-Some-Some.is ∙ ap Some c.in-Some-Some.field-0-is in
    let inside = indirect_found (program_of g.H.Host.reply c.args.self.now) (config g.H.Host.world c.args.self.now) c.args.self.now.state.stacks c.args.instr.now c.args.rest.now here c.args.wanted (ap instruction_of c.requires.calls ∙ instruction_of-CallIndirect c.args.wanted) c.pop-at.new.self c.pop-at.result c.pop-at.ensures.value c.in-Some-Some.place there c.requires.stands.live in
    let place : c.in-Some-Some.place < length c.args.self.now.functions.items = function_within c.args.self.now.functions.items c.in-Some-Some.place inside.1 in
    let found : slice_get (program_of g.H.Host.reply c.args.self.now).functions c.in-Some-Some.place ≡ Some (function_of c.index-callee.result.now) = function_at c.args.self.now.functions.items c.in-Some-Some.place c.index-callee.result.now place c.index-callee.ensures in
    let typed : slice_get c.args.self.now.types.now c.args.wanted ≡ Some c.index-self-wanted.result = slice_get_read c.args.self.now.types.now (length c.args.self.now.types.now) c.args.wanted c.index-self-wanted.result refl (within c.args.self.now.types.now c.args.wanted inside.0) c.index-self-wanted.is in
    let same : type_of (function_of c.index-callee.result.now) ≡ c.index-self-wanted.result = sym c.sort_of.ensures ∙ c.equals.ensures.0 c.if-not-equals.false ∙ sym c.index-self-wanted.is in
    record {
      row =
          subst (λ s. IsRow (next (program_of g.H.Host.reply c.args.self.now) (config g.H.Host.world c.args.self.now)) (g.H.Host.world c.args.self.now.host) c.invoke.result (config_of s (g.H.Host.world c.invoke.new.host) (pending c.args.self.now))) (sym c.invoke.ensures.others)
          (indirect_row (program_of g.H.Host.reply c.args.self.now) (config g.H.Host.world c.args.self.now) c.args.self.now.state.stacks c.args.instr.now c.args.rest.now here c.args.wanted (ap instruction_of c.requires.calls ∙ instruction_of-CallIndirect c.args.wanted) c.pop-at.new.self c.pop-at.result c.pop-at.ensures.value c.in-Some-Some.place there c.index-self-wanted.result typed c.index-callee.result.now found same c.invoke.result c.invoke.new.state.stacks c.invoke.new.state.memory (g.H.Host.world c.invoke.new.host) (indirect_arguments (program_of g.H.Host.reply c.args.self.now) (config g.H.Host.world c.args.self.now) c.args.self.now.state.stacks c.args.instr.now c.args.rest.now here c.args.wanted (ap instruction_of c.requires.calls ∙ instruction_of-CallIndirect c.args.wanted) c.pop-at.new.self c.pop-at.result c.pop-at.ensures.value c.in-Some-Some.place there c.index-self-wanted.result typed c.index-callee.result.now found same c.requires.stands.live) c.invoke.ensures.called);
      program = refl;
      counted = c.invoke.ensures.counted;
      stopped = c.invoke.ensures.stopped;
    }
