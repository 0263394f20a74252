use Rattle.std.proofs.Common.{refl, arith}
use Rattle.vr_wasm_run.specs.Machines.{program_of, config}
use Rattle.vr_wasm_run.proofs.OperandLemmas.{end_some, end_step}
use Rattle.vr_wasm_run.proofs.running.Running.leave.Goals as goal

pub leave-requires : goal.leave-requires
leave-requires g c = end_some (program_of g.H.Host.reply c.args.self.now) (config g.H.Host.world c.args.self.now) c.args.self.now.state.stacks refl c.requires.rooted c.requires.code c.requires.inside c.requires.live

pub returns : goal.returns
returns g c = record {
  row = end_step (program_of g.H.Host.reply c.args.self.now) (config g.H.Host.world c.args.self.now) c.args.self.now.state.stacks refl c.requires.rooted c.requires.code c.leave.new.self c.requires.inside c.leave.ensures;
  program = refl;
  counted = omega arith;
  stopped = λ e. absurd (cc);
}
