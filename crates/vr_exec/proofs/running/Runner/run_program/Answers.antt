use Rattle.std.proofs.Common.{ap}
use Rattle.vr_exec.proofs.RunLemmas.{program_found, runs_ended, runs_exhausted, runs_trapped, world_from}
use Rattle.vr_exec.specs.Runs.{grants_at}
use Rattle.vr_policy_read.specs.PolicyData.{PolicyData}
use Rattle.vr_wasi_fs.specs.declared.world.World.{World}
use Rattle.vr_exec.proofs.running.Runner.run_program.Goals as goal

pub returns-in_default : goal.returns-in_default
returns-in_default c are =
    program_found c.args.self.now.policy.now.pages c.args.files.base c.args.self.now.programs.now c.args.path.now c.find_program.result are c.find_program.ensures c.in_default.not-Some

pub returns-in-Ended-default : goal.returns-in-Ended-default
returns-in-Ended-default c are =
    let state = world_from c.in_ok-world.world.state c.args.path.now c.in_ok-copy.field-0 (grants_at c.args.self.now.policy.now c.args.path.now) c.in_ok-grants.grants c.args.files c.args.input c.in_ok-copy.ensures c.in_ok-grants.ensures
    (ap (λ (w : World). w.state) c.in_ok-world.ensures) in
    runs_ended c.args.self.now.policy.now c.args.files c.args.path.now c.args.input c.args.fuel c.args.self.now.programs.now c.in-Some.loaded.now c.in-Ok.linked c.in_ok-world.world.state _ _ _
    are c.in-Some.ensures (ap (λ (p : PolicyData). p.pages) c.policy.view_is) c.in-Ok.ensures.answer c.in-Ok.ensures.tree state c.in-Ok-new.ensures.program c.in-Ok-new.ensures.begins
    _ c.in-Ended-default.code c.in-Ended-default.used _ c.take-files.result.0 c.take-files.result.1 c.in-Ended-default.is-0 c.run.ensures.tells c.take-files.ensures.files c.take-files.ensures.output

pub returns-in_ok-copy-in-Trapped-default : goal.returns-in_ok-copy-in-Trapped-default
returns-in_ok-copy-in-Trapped-default c are =
    let state = world_from c.in_ok-world.world.state c.args.path.now c.in_ok-copy.field-0 (grants_at c.args.self.now.policy.now c.args.path.now) c.in_ok-grants.grants c.args.files c.args.input c.in_ok-copy.ensures c.in_ok-grants.ensures
    (ap (λ (w : World). w.state) c.in_ok-world.ensures) in
    runs_trapped c.args.self.now.policy.now c.args.files c.args.path.now c.args.input c.args.fuel c.args.self.now.programs.now c.in-Some.loaded.now c.in-Ok.linked c.in_ok-world.world.state _ _ _
    are c.in-Some.ensures (ap (λ (p : PolicyData). p.pages) c.policy.view_is) c.in-Ok.ensures.answer c.in-Ok.ensures.tree state c.in-Ok-new.ensures.program c.in-Ok-new.ensures.begins
    _ c.in-Trapped-default.kind c.in-Trapped-default.used-0 _ c.in_ok-copy-in-Trapped-default.field-0 c.in-Trapped-default.is-0 c.run.ensures.tells c.in_ok-copy-in-Trapped-default.ensures

pub returns-in_ok-copy-in-OutOfFuel-default : goal.returns-in_ok-copy-in-OutOfFuel-default
returns-in_ok-copy-in-OutOfFuel-default c are =
    let state = world_from c.in_ok-world.world.state c.args.path.now c.in_ok-copy.field-0 (grants_at c.args.self.now.policy.now c.args.path.now) c.in_ok-grants.grants c.args.files c.args.input c.in_ok-copy.ensures c.in_ok-grants.ensures
    (ap (λ (w : World). w.state) c.in_ok-world.ensures) in
    runs_exhausted c.args.self.now.policy.now c.args.files c.args.path.now c.args.input c.args.fuel c.args.self.now.programs.now c.in-Some.loaded.now c.in-Ok.linked c.in_ok-world.world.state _ _ _
    are c.in-Some.ensures (ap (λ (p : PolicyData). p.pages) c.policy.view_is) c.in-Ok.ensures.answer c.in-Ok.ensures.tree state c.in-Ok-new.ensures.program c.in-Ok-new.ensures.begins
    _ _ c.in_ok-copy-in-OutOfFuel-default.field-0 c.in-OutOfFuel-default.is-0 c.run.ensures.tells c.in_ok-copy-in-OutOfFuel-default.ensures
