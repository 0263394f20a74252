use Rattle.std.proofs.Common.{arith}
use Rattle.std.proofs.lemmas.Grind.{common_steps}
use Rattle.std.proofs.lemmas.List.{length-reverse}
use Rattle.vr_wasm_stacks.proofs.CountLemmas.{labels_at, height_within}
use Rattle.vr_wasm_stacks.proofs.stacks.Stacks.enter.Goals as goal

pub push_reserved-requires : goal.push_reserved-requires
push_reserved-requires c =
    let counted = labels_at c.args.self.now _ _ _ c.self.view_is in
    let size = length-reverse c.self.inside.controls.items in
    grind (arith, common_steps)

pub invariant_of-self : goal.invariant_of-self
invariant_of-self c =
    let counted = labels_at c.args.self.now _ _ _ c.self.view_is in
    let size = length-reverse c.self.inside.controls.items in
    let within = height_within _ _ c.self.invariant.rises in
    grind (arith, common_steps)
