use Rattle.std.proofs.Common.{rules}
use Rattle.vr_wasi_calls.proofs.WorldLemmas.{set_is_world}
use Rattle.vr_wasi_calls.specs.Worlds.{assembled}
use Rattle.vr_wasi_calls.proofs.state.State.set_descriptor.Goals as goal

pub invariant_of-self : goal.invariant_of-self
invariant_of-self c =
    let inside = c.self.inside in
    let w = assembled inside.argument inside.grants inside.files inside.input inside.taken
    inside.output inside.descriptors.items in
    set_is_world w c.args.fd c.args.descriptor c.self.invariant (search rules)
