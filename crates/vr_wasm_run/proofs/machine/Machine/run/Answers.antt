use Rattle.std.proofs.Common.{subst}
use Rattle.vr_wasm_run.specs.Answers.{Tells}
use Rattle.vr_wasm_run.specs.Machines.{program_of, config}
use Rattle.vr_wasm_run.proofs.AnswerLemmas.{exact}
use Rattle.vr_wasm_run.proofs.machine.Machine.run.Goals as goal

pub returns-clause-exact : goal.returns-clause-exact
returns-clause-exact g c =
    exact (program_of g.H.Host.reply c.args.self) c.args.fuel (config g.H.Host.world c.args.self) c.go_on.result.0 (g.H.Host.world c.go_on.result.1)
    (subst (λ m. Tells (program_of g.H.Host.reply m) c.args.fuel (config g.H.Host.world m) c.go_on.result.0 (g.H.Host.world c.go_on.result.1)) c.self.view_is c.go_on.ensures.tells)
