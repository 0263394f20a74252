use Rattle.std.proofs.Common.{arith}
use Rattle.std.proofs.lemmas.Bool.Decides.{nat_tests}
use Rattle.vr_wasm_stacks.proofs.CountLemmas.{frames_at}
use Rattle.vr_wasm_stacks.proofs.stacks.Stacks.has_frame.Goals as goal

pub returns : goal.returns
returns c =
    let counted = frames_at c.args.self.now _ _ _ c.self.view_is in
    grind (arith, nat_tests)
