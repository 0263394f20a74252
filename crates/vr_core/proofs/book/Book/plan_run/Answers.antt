use Rattle.std.proofs.Common.{◌≡◌, Ok, Err, refl, rules}
use Rattle.vr_base.specs.Checks.{result_map}
use Rattle.vr_base.specs.declared.calls.Reply.TheVariants.{OutOfFuel, Trapped}
use Rattle.vr_exec.specs.Outcomes.{PipelineComesTo}
use Rattle.vr_exec.specs.declared.outcome.Outcome.TheVariants as runs
use Rattle.vr_core.specs.Machine.{IsRunStep, run_place}
use Rattle.vr_core.specs.Plans.{plan_effect}
use Rattle.vr_core.specs.Replies.{GivesStep}
use Rattle.vr_core.proofs.ReplyLemmas.{outcome_run, refused_run, run_differences}
use Rattle.vr_core.proofs.book.Book.plan_run.Goals as goal

pub returns-in_err-pipeline-clause-plan : goal.returns-in_err-pipeline-clause-plan
returns-in_err-pipeline-clause-plan g c =
    let place = run_place c.args.self.now.origin.policy c.args.self.now.files c.args.who c.args.id in
    let fact : GivesStep (IsRunStep c.args.self.now.origin c.args.self.now.files place) c.args.self.now.files (Err c.in_err-pipeline.field-0.0) =
    refused_run c.args.self.now.origin c.args.self.now.files place c.in_err-pipeline.field-0.0 (rw (← c.self.view_is) c.in_err-pipeline.ensures.place) in
    search rules

pub plan_ended-requires : goal.plan_ended-requires
plan_ended-requires g c =
    let fact = run_differences c.self.inside.files.policy c.in_ok-pipeline.pipeline c.self.inside.files.files.map c.self.inside.fuel c.in-Ok-Ended.field-0 c.in-Ok-Ended.code c.in-Ok-Ended.out c.in-Ok-Ended.changes
    c.in-Ok-Ended.field-0-is c.in-Ok-Ended.ensures in
    rw (← c.self.view_is) fact

pub returns-in-Ok-Ended-clause-plan : goal.returns-in-Ok-Ended-clause-plan
returns-in-Ok-Ended-clause-plan g c =
    let origin = c.args.self.now.origin in
    let files = c.args.self.now.files in
    let place = run_place origin.policy files c.args.who c.args.id in
    let at : place ≡ Ok c.in_ok-pipeline.pipeline = rw (← c.self.view_is) c.in_ok-pipeline.ensures.place in
    let comes : PipelineComesTo origin.policy c.in_ok-pipeline.pipeline files origin.fuel c.in-Ok-Ended.field-0 = rw (← c.self.view_is) c.in-Ok-Ended.ensures in
    outcome_run origin files place c.in_ok-pipeline.pipeline c.in-Ok-Ended.field-0 (runs.Ended c.in-Ok-Ended.code c.in-Ok-Ended.out c.in-Ok-Ended.changes) c.in-Ok-Ended.field-0-is at comes (result_map (plan_effect files) c.plan_ended.result) c.plan_ended.ensures.plan

pub returns-in-Ok-Trapped-clause-plan : goal.returns-in-Ok-Trapped-clause-plan
returns-in-Ok-Trapped-clause-plan g c =
    let origin = c.args.self.now.origin in
    let files = c.args.self.now.files in
    let place = run_place origin.policy files c.args.who c.args.id in
    let at : place ≡ Ok c.in_ok-pipeline.pipeline = rw (← c.self.view_is) c.in_ok-pipeline.ensures.place in
    let comes : PipelineComesTo origin.policy c.in_ok-pipeline.pipeline files origin.fuel c.in-Ok-Trapped.field-0 = rw (← c.self.view_is) c.in-Ok-Trapped.ensures in
    outcome_run origin files place c.in_ok-pipeline.pipeline c.in-Ok-Trapped.field-0 (runs.Trapped c.in-Ok-Trapped.path c.in-Ok-Trapped.kind) c.in-Ok-Trapped.field-0-is at comes (Err (Trapped c.in-Ok-Trapped.path c.in-Ok-Trapped.kind)) refl

pub returns-in-Ok-OutOfFuel-clause-plan : goal.returns-in-Ok-OutOfFuel-clause-plan
returns-in-Ok-OutOfFuel-clause-plan g c =
    let origin = c.args.self.now.origin in
    let files = c.args.self.now.files in
    let place = run_place origin.policy files c.args.who c.args.id in
    let at : place ≡ Ok c.in_ok-pipeline.pipeline = rw (← c.self.view_is) c.in_ok-pipeline.ensures.place in
    let comes : PipelineComesTo origin.policy c.in_ok-pipeline.pipeline files origin.fuel c.in-Ok-OutOfFuel.field-0 = rw (← c.self.view_is) c.in-Ok-OutOfFuel.ensures in
    outcome_run origin files place c.in_ok-pipeline.pipeline c.in-Ok-OutOfFuel.field-0 (runs.OutOfFuel c.in-Ok-OutOfFuel.path) c.in-Ok-OutOfFuel.field-0-is at comes (Err (OutOfFuel c.in-Ok-OutOfFuel.path)) refl
