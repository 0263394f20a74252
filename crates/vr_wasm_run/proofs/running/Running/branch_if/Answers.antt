use Rattle.std.proofs.Common.{◌≡◌, ◌==◌, true, false, refl, ap, sym, ◌∙◌, arith}
use Rattle.std.proofs.lemmas.Bool.Decides.{nat_tests}
use Rattle.vr_wasm_steps.specs.Rows.{step}
use Rattle.vr_wasm_run.specs.Machines.{program_of, config}
use Rattle.vr_wasm_run.proofs.RowLemmas.{IsAt}
use Rattle.vr_wasm_run.proofs.ThroughLemmas.{moved}
use Rattle.vr_wasm_run.proofs.OperandLemmas.{br_if_operand, br_if_on, br_if_some, br_if_step}
use Rattle.vr_wasm_run.proofs.running.Running.branch_if.Goals as goal

pub pop-test-requires : goal.pop-test-requires
pop-test-requires g c =
    let here : IsAt (program_of g.H.Host.reply c.args.self.now) (config g.H.Host.world c.args.self.now) c.args.self.now.state.stacks c.args.instr.now c.args.rest.now = record { term = refl; rooted = c.requires.stands.rooted; code = c.requires.stands.code } in
    br_if_operand (program_of g.H.Host.reply c.args.self.now) (config g.H.Host.world c.args.self.now) c.args.self.now.state.stacks c.args.instr.now c.args.rest.now here c.args.label c.requires.branches c.requires.stands.live

pub returns-then-test-eq0 : goal.returns-then-test-eq0
returns-then-test-eq0 g c =
    let here : IsAt (program_of g.H.Host.reply c.args.self.now) (config g.H.Host.world c.args.self.now) c.args.self.now.state.stacks c.args.instr.now c.args.rest.now = record { term = refl; rooted = c.requires.stands.rooted; code = c.requires.stands.code } in
    let off : (c.pop-test.result == 0) ≡ true = grind (arith, nat_tests) in
    record {
      row =
          br_if_on (program_of g.H.Host.reply c.args.self.now) (config g.H.Host.world c.args.self.now) c.args.self.now.state.stacks c.args.instr.now c.args.rest.now here c.pop-test.new.self c.pop-test.result c.pop-test.ensures.value c.args.label c.requires.branches off
          ∙ ap (λ z. step 1 (moved (program_of g.H.Host.reply c.args.self.now) (config g.H.Host.world c.args.self.now) z)) (sym c.advance.ensures);
      program = refl;
      counted = omega arith;
      stopped = λ e. absurd (cc);
    }

pub branch-self-requires : goal.branch-self-requires
branch-self-requires g c =
    let here : IsAt (program_of g.H.Host.reply c.args.self.now) (config g.H.Host.world c.args.self.now) c.args.self.now.state.stacks c.args.instr.now c.args.rest.now = record { term = refl; rooted = c.requires.stands.rooted; code = c.requires.stands.code } in
    let on : (c.pop-test.result == 0) ≡ false = grind (arith, nat_tests) in
    br_if_some (program_of g.H.Host.reply c.args.self.now) (config g.H.Host.world c.args.self.now) c.args.self.now.state.stacks c.args.instr.now c.args.rest.now here c.pop-test.new.self c.pop-test.result c.pop-test.ensures.value c.args.label c.requires.branches on c.requires.stands.live

pub returns : goal.returns
returns g c =
    let here : IsAt (program_of g.H.Host.reply c.args.self.now) (config g.H.Host.world c.args.self.now) c.args.self.now.state.stacks c.args.instr.now c.args.rest.now = record { term = refl; rooted = c.requires.stands.rooted; code = c.requires.stands.code } in
    let on : (c.pop-test.result == 0) ≡ false = grind (arith, nat_tests) in
    record {
      row = br_if_step (program_of g.H.Host.reply c.args.self.now) (config g.H.Host.world c.args.self.now) c.args.self.now.state.stacks c.args.instr.now c.args.rest.now here c.pop-test.new.self c.pop-test.result c.pop-test.ensures.value c.args.label c.branch-self.new.self c.requires.branches on c.branch-self.ensures;
      program = refl;
      counted = omega arith;
      stopped = λ e. absurd (cc);
    }
