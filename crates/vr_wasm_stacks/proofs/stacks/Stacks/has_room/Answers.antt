use Rattle.std.proofs.Common.{arith}
use Rattle.std.proofs.lemmas.Bool.Decides.{nat_tests}
use Rattle.vr_wasm_stacks.proofs.CountLemmas.{slots_at}
use Rattle.vr_wasm_stacks.proofs.stacks.Stacks.has_room.Goals as goal

pub returns : goal.returns
returns c =
    let counted = slots_at c.args.self.now _ _ _ c.self.view_is c.self.invariant.rises in
    grind (arith, nat_tests)
