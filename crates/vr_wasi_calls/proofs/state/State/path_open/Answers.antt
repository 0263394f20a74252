use Rattle.std.proofs.Common.{rules}
use Rattle.vr_wasi_calls.proofs.RightsLemmas.{opened_fits}
use Rattle.vr_wasi_calls.specs.Worlds.{file_at}
use Rattle.vr_wasi_calls.proofs.state.State.path_open.Goals as goal

pub set_descriptor-requires-clause-allowed : goal.set_descriptor-requires-clause-allowed
set_descriptor-requires-clause-allowed c =
    opened_fits c.args.self.now c.prepare.new.self c.in_ok-path.path c.args.oflags c.args.asked
    c.word_on-word.result c.allowed.result
    (file_at c.args.self.now c.in_ok-path.path)
    (search rules) c.word_on-word.ensures c.allowed.ensures (search rules)
