use Rattle.std.proofs.Common.{◌≡◌, ◌<◌, length, slice_get, Some, refl, ap, sym, ◌∙◌, subst, arith}
use Rattle.vr_wasm_ast.specs.Instructions.{instruction_of}
use Rattle.vr_wasm_ast.proofs.InstructionLemmas.{instruction_of-Call}
use Rattle.vr_wasm_link.specs.Functions.{function_of}
use Rattle.vr_wasm_steps.specs.Rows.{next}
use Rattle.vr_wasm_run.specs.Machines.{IsRow, program_of, config, pending}
use Rattle.vr_wasm_run.specs.Configs.{config_of}
use Rattle.vr_wasm_run.proofs.RowLemmas.{IsAt}
use Rattle.vr_wasm_run.proofs.CallLemmas.{call_found, call_arguments, call_row}
use Rattle.vr_wasm_run.proofs.FunctionLemmas.{function_at, function_within}
use Rattle.vr_wasm_run.proofs.running.Running.call.Goals as goal

pub index-callee-requires : goal.index-callee-requires
index-callee-requires g c =
    let here : IsAt (program_of g.H.Host.reply c.args.self.now) (config g.H.Host.world c.args.self.now) c.args.self.now.state.stacks c.args.instr.now c.args.rest.now = record { term = refl; rooted = c.requires.stands.rooted; code = c.requires.stands.code } in
    let inside : c.args.at < length c.args.self.now.functions.items =
    function_within c.args.self.now.functions.items c.args.at
    (call_found (program_of g.H.Host.reply c.args.self.now) (config g.H.Host.world c.args.self.now) c.args.self.now.state.stacks c.args.instr.now c.args.rest.now here c.args.at (ap instruction_of c.requires.calls ∙ instruction_of-Call c.args.at) (slice_get (program_of g.H.Host.reply c.args.self.now).functions c.args.at) refl c.requires.stands.live)
    in
    omega (arith, inside)

pub invoke-requires-clause-callable : goal.invoke-requires-clause-callable
invoke-requires-clause-callable g c =
    let here : IsAt (program_of g.H.Host.reply c.args.self.now) (config g.H.Host.world c.args.self.now) c.args.self.now.state.stacks c.args.instr.now c.args.rest.now = record { term = refl; rooted = c.requires.stands.rooted; code = c.requires.stands.code } in
    let inside : c.args.at < length c.args.self.now.functions.items =
    function_within c.args.self.now.functions.items c.args.at
    (call_found (program_of g.H.Host.reply c.args.self.now) (config g.H.Host.world c.args.self.now) c.args.self.now.state.stacks c.args.instr.now c.args.rest.now here c.args.at (ap instruction_of c.requires.calls ∙ instruction_of-Call c.args.at) (slice_get (program_of g.H.Host.reply c.args.self.now).functions c.args.at) refl c.requires.stands.live)
    in
    let found : slice_get (program_of g.H.Host.reply c.args.self.now).functions c.args.at ≡ Some (function_of c.index-callee.result.now) = function_at c.args.self.now.functions.items c.args.at c.index-callee.result.now inside c.index-callee.ensures in
    c.requires.callable c.args.at (function_of c.index-callee.result.now) found

pub invoke-requires-clause-arguments : goal.invoke-requires-clause-arguments
invoke-requires-clause-arguments g c =
    let here : IsAt (program_of g.H.Host.reply c.args.self.now) (config g.H.Host.world c.args.self.now) c.args.self.now.state.stacks c.args.instr.now c.args.rest.now = record { term = refl; rooted = c.requires.stands.rooted; code = c.requires.stands.code } in
    let inside : c.args.at < length c.args.self.now.functions.items =
    function_within c.args.self.now.functions.items c.args.at
    (call_found (program_of g.H.Host.reply c.args.self.now) (config g.H.Host.world c.args.self.now) c.args.self.now.state.stacks c.args.instr.now c.args.rest.now here c.args.at (ap instruction_of c.requires.calls ∙ instruction_of-Call c.args.at) (slice_get (program_of g.H.Host.reply c.args.self.now).functions c.args.at) refl c.requires.stands.live)
    in
    let found : slice_get (program_of g.H.Host.reply c.args.self.now).functions c.args.at ≡ Some (function_of c.index-callee.result.now) = function_at c.args.self.now.functions.items c.args.at c.index-callee.result.now inside c.index-callee.ensures in
    call_arguments (program_of g.H.Host.reply c.args.self.now) (config g.H.Host.world c.args.self.now) c.args.self.now.state.stacks c.args.instr.now c.args.rest.now here c.args.at (ap instruction_of c.requires.calls ∙ instruction_of-Call c.args.at) c.index-callee.result.now found c.requires.stands.live

pub returns : goal.returns
returns g c =
    let here : IsAt (program_of g.H.Host.reply c.args.self.now) (config g.H.Host.world c.args.self.now) c.args.self.now.state.stacks c.args.instr.now c.args.rest.now = record { term = refl; rooted = c.requires.stands.rooted; code = c.requires.stands.code } in
    let inside : c.args.at < length c.args.self.now.functions.items =
    function_within c.args.self.now.functions.items c.args.at
    (call_found (program_of g.H.Host.reply c.args.self.now) (config g.H.Host.world c.args.self.now) c.args.self.now.state.stacks c.args.instr.now c.args.rest.now here c.args.at (ap instruction_of c.requires.calls ∙ instruction_of-Call c.args.at) (slice_get (program_of g.H.Host.reply c.args.self.now).functions c.args.at) refl c.requires.stands.live)
    in
    let found : slice_get (program_of g.H.Host.reply c.args.self.now).functions c.args.at ≡ Some (function_of c.index-callee.result.now) = function_at c.args.self.now.functions.items c.args.at c.index-callee.result.now inside c.index-callee.ensures in
    record {
      row =
          subst (λ s. IsRow (next (program_of g.H.Host.reply c.args.self.now) (config g.H.Host.world c.args.self.now)) (g.H.Host.world c.args.self.now.host) c.invoke.result (config_of s (g.H.Host.world c.invoke.new.host) (pending c.args.self.now))) (sym c.invoke.ensures.others)
          (call_row (program_of g.H.Host.reply c.args.self.now) (config g.H.Host.world c.args.self.now) c.args.self.now.state.stacks c.args.instr.now c.args.rest.now here c.args.at (ap instruction_of c.requires.calls ∙ instruction_of-Call c.args.at) c.index-callee.result.now found c.invoke.result c.invoke.new.state.stacks c.invoke.new.state.memory (g.H.Host.world c.invoke.new.host) (call_arguments (program_of g.H.Host.reply c.args.self.now) (config g.H.Host.world c.args.self.now) c.args.self.now.state.stacks c.args.instr.now c.args.rest.now here c.args.at (ap instruction_of c.requires.calls ∙ instruction_of-Call c.args.at) c.index-callee.result.now found c.requires.stands.live) c.invoke.ensures.called);
      program = refl;
      counted = c.invoke.ensures.counted;
      stopped = c.invoke.ensures.stopped;
    }
