use Rattle.std.proofs.Common.{arith}
use Rattle.std.proofs.lemmas.List.{length-reverse}
use Rattle.std.proofs.lemmas.Bool.Decides.{nat_tests}
use Rattle.vr_wasm_stacks.proofs.CountLemmas.{labels_at}
use Rattle.vr_wasm_stacks.proofs.stacks.Stacks.has_label.Goals as goal

pub returns : goal.returns
returns c =
    let counted = labels_at c.args.self.now _ _ _ c.self.view_is in
    let size = length-reverse c.self.inside.controls.items in
    grind (arith, nat_tests)
