use Rattle.std.proofs.Common.{refl, ap, ◌∙◌, arith}
use Rattle.vr_wasm_ast.specs.Instructions.{instruction_of}
use Rattle.vr_wasm_ast.proofs.InstructionLemmas.{instruction_of-Return}
use Rattle.vr_wasm_run.specs.Machines.{program_of, config}
use Rattle.vr_wasm_run.proofs.RowLemmas.{IsAt}
use Rattle.vr_wasm_run.proofs.ControlLemmas.{return_step, return_some}
use Rattle.vr_wasm_run.proofs.running.Running.leave_function.Goals as goal

pub leave_function-requires : goal.leave_function-requires
leave_function-requires g c =
    let here : IsAt (program_of g.H.Host.reply c.args.self.now) (config g.H.Host.world c.args.self.now) c.args.self.now.state.stacks c.args.instr.now c.args.rest.now = record { term = refl; rooted = c.requires.stands.rooted; code = c.requires.stands.code } in
    return_some (program_of g.H.Host.reply c.args.self.now) (config g.H.Host.world c.args.self.now) c.args.self.now.state.stacks c.args.instr.now c.args.rest.now here (ap instruction_of c.requires.leaves ∙ instruction_of-Return) c.requires.stands.live

pub returns : goal.returns
returns g c =
    let here : IsAt (program_of g.H.Host.reply c.args.self.now) (config g.H.Host.world c.args.self.now) c.args.self.now.state.stacks c.args.instr.now c.args.rest.now = record { term = refl; rooted = c.requires.stands.rooted; code = c.requires.stands.code } in
    record {
      row = return_step (program_of g.H.Host.reply c.args.self.now) (config g.H.Host.world c.args.self.now) c.args.self.now.state.stacks c.args.instr.now c.args.rest.now here c.leave_function.new.self (ap instruction_of c.requires.leaves ∙ instruction_of-Return) c.leave_function.ensures;
      program = refl;
      counted = omega arith;
      stopped = λ e. absurd (cc);
    }
