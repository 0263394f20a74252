use Rattle.std.proofs.Common.{refl, ap, sym, ◌∙◌, IsSome, subst, arith}
use Rattle.vr_wasm_stacks.specs.Positions.{jump}
use Rattle.vr_wasm_run.specs.Machines.{program_of, config}
use Rattle.vr_wasm_run.proofs.RowLemmas.{IsAt}
use Rattle.vr_wasm_run.proofs.OperandLemmas.{br_table_operand, br_table_some, br_table_step}
use Rattle.vr_wasm_run.proofs.running.Running.branch_table.Goals as goal

pub pop-at-requires : goal.pop-at-requires
pop-at-requires g c =
    let here : IsAt (program_of g.H.Host.reply c.args.self.now) (config g.H.Host.world c.args.self.now) c.args.self.now.state.stacks c.args.instr.now c.args.rest.now = record { term = refl; rooted = c.requires.stands.rooted; code = c.requires.stands.code } in
    br_table_operand (program_of g.H.Host.reply c.args.self.now) (config g.H.Host.world c.args.self.now) c.args.self.now.state.stacks c.args.instr.now c.args.rest.now here c.args.labels.now c.args.default c.requires.branches c.requires.stands.live

pub branch-self-requires : goal.branch-self-requires
branch-self-requires g c =
    let here : IsAt (program_of g.H.Host.reply c.args.self.now) (config g.H.Host.world c.args.self.now) c.args.self.now.state.stacks c.args.instr.now c.args.rest.now = record { term = refl; rooted = c.requires.stands.rooted; code = c.requires.stands.code } in
    subst (λ l. IsSome (jump c.pop-at.new.self l)) (sym c.label_at-label.ensures)
    (br_table_some (program_of g.H.Host.reply c.args.self.now) (config g.H.Host.world c.args.self.now) c.args.self.now.state.stacks c.args.instr.now c.args.rest.now here c.pop-at.new.self c.pop-at.result c.pop-at.ensures.value c.args.labels.now c.args.default c.requires.branches c.requires.stands.live)

pub returns : goal.returns
returns g c =
    let here : IsAt (program_of g.H.Host.reply c.args.self.now) (config g.H.Host.world c.args.self.now) c.args.self.now.state.stacks c.args.instr.now c.args.rest.now = record { term = refl; rooted = c.requires.stands.rooted; code = c.requires.stands.code } in
    record {
      row = br_table_step (program_of g.H.Host.reply c.args.self.now) (config g.H.Host.world c.args.self.now) c.args.self.now.state.stacks c.args.instr.now c.args.rest.now here c.pop-at.new.self c.pop-at.result c.pop-at.ensures.value c.args.labels.now c.args.default c.branch-self.new.self c.requires.branches (ap (λ l. jump c.pop-at.new.self l) (sym c.label_at-label.ensures) ∙ c.branch-self.ensures);
      program = refl;
      counted = omega arith;
      stopped = λ e. absurd (cc);
    }
