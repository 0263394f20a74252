use Rattle.std.proofs.Common.{refl, ap, sym, ◌∙◌, ◌<◌, ◌≤◌, [], arith}
use Rattle.std.proofs.lemmas.Bool.Decides.{nat_tests}
use Rattle.vr_wasm_steps.specs.declared.limits.TheConstants.{MAX_LABELS}
use Rattle.vr_wasm_steps.specs.Rows.{step}
use Rattle.vr_wasm_steps.specs.Terms.{labels}
use Rattle.vr_wasm_stacks.specs.Positions.{term_of, entered}
use Rattle.vr_wasm_run.specs.Machines.{program_of, config}
use Rattle.vr_wasm_run.proofs.RowLemmas.{IsAt}
use Rattle.vr_wasm_run.proofs.ThroughLemmas.{moved}
use Rattle.vr_wasm_run.proofs.OperandLemmas.{labels_popped, if_operand, if_step, if_full}
use Rattle.vr_wasm_run.proofs.running.Running.choose.Goals as goal

pub pop-test-requires : goal.pop-test-requires
pop-test-requires g c =
    let here : IsAt (program_of g.H.Host.reply c.args.self.now) (config g.H.Host.world c.args.self.now) c.args.self.now.state.stacks c.args.instr.now c.args.rest.now = record { term = refl; rooted = c.requires.stands.rooted; code = c.requires.stands.code } in
    if_operand (program_of g.H.Host.reply c.args.self.now) (config g.H.Host.world c.args.self.now) c.args.self.now.state.stacks c.args.instr.now c.args.rest.now here c.args.value c.args.taken.now c.args.other.now c.requires.chooses c.requires.stands.live

pub returns-then-not-has_label : goal.returns-then-not-has_label
returns-then-not-has_label g c =
    let here : IsAt (program_of g.H.Host.reply c.args.self.now) (config g.H.Host.world c.args.self.now) c.args.self.now.state.stacks c.args.instr.now c.args.rest.now = record { term = refl; rooted = c.requires.stands.rooted; code = c.requires.stands.code } in
    let full : MAX_LABELS ≤ labels (term_of c.args.self.now.state.stacks) = grind (arith, nat_tests, labels_popped c.args.self.now.state.stacks c.pop-test.new.self c.pop-test.result c.pop-test.ensures.value) in
    record {
      row = if_full (program_of g.H.Host.reply c.args.self.now) (config g.H.Host.world c.args.self.now) c.args.self.now.state.stacks c.args.instr.now c.args.rest.now here c.pop-test.new.self c.pop-test.result c.pop-test.ensures.value c.args.value c.args.taken.now c.args.other.now c.requires.chooses full;
      program = refl;
      counted = omega arith;
      stopped = λ e. absurd (cc);
    }

pub returns : goal.returns
returns g c =
    let here : IsAt (program_of g.H.Host.reply c.args.self.now) (config g.H.Host.world c.args.self.now) c.args.self.now.state.stacks c.args.instr.now c.args.rest.now = record { term = refl; rooted = c.requires.stands.rooted; code = c.requires.stands.code } in
    let room : labels (term_of c.args.self.now.state.stacks) < MAX_LABELS = grind (arith, nat_tests, labels_popped c.args.self.now.state.stacks c.pop-test.new.self c.pop-test.result c.pop-test.ensures.value) in
    record {
      row =
          if_step (program_of g.H.Host.reply c.args.self.now) (config g.H.Host.world c.args.self.now) c.args.self.now.state.stacks c.args.instr.now c.args.rest.now here c.pop-test.new.self c.pop-test.result c.pop-test.ensures.value c.args.value c.args.taken.now c.args.other.now c.chosen-body.result.now c.requires.chooses c.chosen-body.ensures room
          ∙ ap (λ z. step 1 (moved (program_of g.H.Host.reply c.args.self.now) (config g.H.Host.world c.args.self.now) z))
          (ap (λ n. entered c.pop-test.new.self n [] c.args.rest.now c.chosen-body.result.now) (sym c.arity_of.ensures) ∙ sym c.enter.ensures);
      program = refl;
      counted = omega arith;
      stopped = λ e. absurd (cc);
    }
