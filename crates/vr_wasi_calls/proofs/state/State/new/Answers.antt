use Rattle.vr_wasi_calls.proofs.WorldLemmas.{first_is_world}
use Rattle.vr_wasi_calls.proofs.state.State.new.Goals as goal

pub invariant_of-result : goal.invariant_of-result
invariant_of-result c =
    first_is_world c.in_ok-argument.argument c.args.grants c.args.files c.args.input c.of.result
    c.in_ok-descriptors.descriptors.items c.in_ok-descriptors.ensures
