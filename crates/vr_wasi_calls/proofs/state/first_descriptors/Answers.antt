use Rattle.std.proofs.Common.{◌≡◌, ◌∙◌, ap, arith}
use Rattle.vr_wasi_calls.proofs.WorldLemmas.{begun, begun_more}
use Rattle.vr_wasi_calls.proofs.state.first_descriptors.Goals as goal

pub loop-number-preserved : goal.loop-number-preserved
loop-number-preserved c = grind (arith, begun_more)

pub returns : goal.returns
returns c =
    let all : c.loop-number.number ≡ 64 = omega arith in
    c.loop-number.invariant ∙ ap begun all
