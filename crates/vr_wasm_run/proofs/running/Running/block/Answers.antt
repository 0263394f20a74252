use Rattle.std.proofs.Common.{refl, ap, sym, ◌∙◌, ◌<◌, ◌≤◌, [], arith}
use Rattle.std.proofs.lemmas.Bool.Decides.{nat_tests}
use Rattle.vr_wasm_ast.specs.Instructions.{instruction_of, instructions_of, block}
use Rattle.vr_wasm_ast.proofs.InstructionLemmas.{instruction_of-Block}
use Rattle.vr_wasm_steps.specs.declared.limits.TheConstants.{MAX_LABELS}
use Rattle.vr_wasm_steps.specs.Rows.{step, arity}
use Rattle.vr_wasm_steps.specs.Terms.{labels}
use Rattle.vr_wasm_stacks.specs.Positions.{term_of, entered}
use Rattle.vr_wasm_run.specs.Machines.{program_of, config}
use Rattle.vr_wasm_run.proofs.RowLemmas.{IsAt}
use Rattle.vr_wasm_run.proofs.ThroughLemmas.{moved}
use Rattle.vr_wasm_run.proofs.ControlLemmas.{enter_step, enter_full}
use Rattle.vr_wasm_run.proofs.running.Running.block.Goals as goal

pub returns-then-not-has_label : goal.returns-then-not-has_label
returns-then-not-has_label g c =
    let here : IsAt (program_of g.H.Host.reply c.args.self.now) (config g.H.Host.world c.args.self.now) c.args.self.now.state.stacks c.args.instr.now c.args.rest.now = record { term = refl; rooted = c.requires.stands.rooted; code = c.requires.stands.code } in
    let full : MAX_LABELS ≤ labels (term_of c.args.self.now.state.stacks) = grind (arith, nat_tests) in
    record {
      row = enter_full (program_of g.H.Host.reply c.args.self.now) (config g.H.Host.world c.args.self.now) c.args.self.now.state.stacks c.args.instr.now c.args.rest.now here (block c.args.value (instructions_of c.args.body.now)) c.args.self.now.state.stacks.operands (arity c.args.value) [] c.args.body.now (ap instruction_of c.requires.block ∙ instruction_of-Block c.args.value c.args.body.now) refl full;
      program = refl;
      counted = omega arith;
      stopped = λ e. absurd (cc);
    }

pub returns : goal.returns
returns g c =
    let here : IsAt (program_of g.H.Host.reply c.args.self.now) (config g.H.Host.world c.args.self.now) c.args.self.now.state.stacks c.args.instr.now c.args.rest.now = record { term = refl; rooted = c.requires.stands.rooted; code = c.requires.stands.code } in
    let room : labels (term_of c.args.self.now.state.stacks) < MAX_LABELS = grind (arith, nat_tests) in
    record {
      row =
          enter_step (program_of g.H.Host.reply c.args.self.now) (config g.H.Host.world c.args.self.now) c.args.self.now.state.stacks c.args.instr.now c.args.rest.now here (block c.args.value (instructions_of c.args.body.now)) c.args.self.now.state.stacks.operands (arity c.args.value) [] c.args.body.now (ap instruction_of c.requires.block ∙ instruction_of-Block c.args.value c.args.body.now) refl room
          ∙ ap (λ z. step 1 (moved (program_of g.H.Host.reply c.args.self.now) (config g.H.Host.world c.args.self.now) z))
          (ap (λ n. entered c.args.self.now.state.stacks n [] c.args.rest.now c.args.body.now) (sym c.arity_of.ensures) ∙ sym c.enter.ensures);
      program = refl;
      counted = omega arith;
      stopped = λ e. absurd (cc);
    }
