use Rattle.std.proofs.Common.{arith}
use Rattle.std.proofs.lemmas.Grind.{common_steps}
use Rattle.vr_wasm_stacks.proofs.CountLemmas.{slots_at}
use Rattle.vr_wasm_stacks.proofs.stacks.Stacks.push.Goals as goal

pub push_reserved-requires : goal.push_reserved-requires
push_reserved-requires c =
    let counted = slots_at c.args.self.now _ _ _ c.self.view_is c.self.invariant.rises in
    grind (arith, common_steps)

pub invariant_of-self : goal.invariant_of-self
invariant_of-self c =
    let counted = slots_at c.args.self.now _ _ _ c.self.view_is c.self.invariant.rises in
    grind (arith, common_steps)
