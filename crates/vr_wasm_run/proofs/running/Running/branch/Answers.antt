use Rattle.std.proofs.Common.{refl, ap, ◌∙◌, arith}
use Rattle.vr_wasm_ast.specs.Instructions.{instruction_of, br}
use Rattle.vr_wasm_ast.proofs.InstructionLemmas.{instruction_of-Br}
use Rattle.vr_wasm_run.specs.Machines.{program_of, config}
use Rattle.vr_wasm_run.proofs.RowLemmas.{IsAt}
use Rattle.vr_wasm_run.proofs.ControlLemmas.{branch_step, branch_some}
use Rattle.vr_wasm_run.proofs.running.Running.branch.Goals as goal

pub branch-self-requires : goal.branch-self-requires
branch-self-requires g c =
    let here : IsAt (program_of g.H.Host.reply c.args.self.now) (config g.H.Host.world c.args.self.now) c.args.self.now.state.stacks c.args.instr.now c.args.rest.now = record { term = refl; rooted = c.requires.stands.rooted; code = c.requires.stands.code } in
    branch_some (program_of g.H.Host.reply c.args.self.now) (config g.H.Host.world c.args.self.now) c.args.self.now.state.stacks c.args.instr.now c.args.rest.now here (br c.args.label) c.args.label c.args.self.now.state.stacks.operands (ap instruction_of c.requires.branch ∙ instruction_of-Br c.args.label) refl c.requires.stands.live

pub returns : goal.returns
returns g c =
    let here : IsAt (program_of g.H.Host.reply c.args.self.now) (config g.H.Host.world c.args.self.now) c.args.self.now.state.stacks c.args.instr.now c.args.rest.now = record { term = refl; rooted = c.requires.stands.rooted; code = c.requires.stands.code } in
    record {
      row = branch_step (program_of g.H.Host.reply c.args.self.now) (config g.H.Host.world c.args.self.now) c.args.self.now.state.stacks c.args.instr.now c.args.rest.now here (br c.args.label) c.args.label c.args.self.now.state.stacks.operands c.branch-self.new.self (ap instruction_of c.requires.branch ∙ instruction_of-Br c.args.label) refl c.branch-self.ensures;
      program = refl;
      counted = omega arith;
      stopped = λ e. absurd (cc);
    }
