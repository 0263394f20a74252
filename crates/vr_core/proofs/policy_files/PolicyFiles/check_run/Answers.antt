use Rattle.std.proofs.Common.{rules}
use Rattle.vr_base.specs.Checks.{Tells}
use Rattle.vr_core.specs.Machine.{run_place}
use Rattle.vr_core.specs.Replies.{told}
use Rattle.vr_core.proofs.StartLemmas.{program_files, programs_refused, start_refused}
use Rattle.vr_core.proofs.policy_files.PolicyFiles.check_run.Goals as goal

pub returns-in_err-check_programs-clause-place : goal.returns-in_err-check_programs-clause-place
returns-in_err-check_programs-clause-place c =
    let fact : Tells (told c.in_err-check_programs.field-0.0) (run_place c.args.self.now.policy c.args.self.now.files.map c.args.who c.args.id) =
    rw (← c.self.view_is) (programs_refused c.self.inside.policy c.self.inside.files.map c.args.who c.args.id c.in_ok-caller.caller c.in_ok-caller.ensures.caller
    c.in_ok-pipeline.pipeline c.in_ok-pipeline.ensures.pipeline (told c.in_err-check_programs.field-0.0) c.in_err-check_programs.ensures) in
    search rules

pub returns-in_err-check_start-clause-place : goal.returns-in_err-check_start-clause-place
returns-in_err-check_start-clause-place c =
    let fact : Tells (told c.in_err-check_start.field-0.0) (run_place c.args.self.now.policy c.args.self.now.files.map c.args.who c.args.id) =
    rw (← c.self.view_is) (start_refused c.self.inside.policy c.self.inside.files.map c.args.who c.args.id c.in_ok-caller.caller c.in_ok-caller.ensures.caller
    c.in_ok-pipeline.pipeline c.in_ok-pipeline.ensures.pipeline c.in_ok-check_programs.ensures (told c.in_err-check_start.field-0.0) c.in_err-check_start.ensures) in
    search rules

pub returns-clause-ready : goal.returns-clause-ready
returns-clause-ready c = rw (← c.self.view_is) (record {
  listed = c.in_ok-pipeline.ensures.within;
  there = program_files c.self.inside.policy c.in_ok-pipeline.pipeline c.self.inside.files.map c.in_ok-check_start.ensures;
})
