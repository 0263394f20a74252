use Rattle.std.proofs.Common.{◌+◌, ◌≤◌, ap, arith, length, refl}
use Rattle.std.specs.List.{enumerate_from}
use Rattle.std.proofs.lemmas.List.FromFn.{length-enumerate_from}
use Rattle.vr_wasm_valid.specs.Parts.{the_export}
use Rattle.vr_wasm_valid.proofs.AnswerLemmas.{judged}
use Rattle.vr_wasm_valid.proofs.PartLemmas.{index_below}
use Rattle.vr_wasm_valid.proofs.components.check_exports.Goals as goal

pub returns : goal.returns
returns c =
    let found = rw c.as_slice.ensures at c.in_ok-unfit.ensures in
    judged the_export refl refl found c.refuse.ensures

pub refuse-requires : goal.refuse-requires
refuse-requires c =
    let exports = c.as_slice.result.now in
    let within : 0 + length (enumerate_from 0 exports) ≤ 4294967296 =
    omega (arith, length-enumerate_from 0 exports, ap length c.as_slice.ensures, c.requires.limits.exports) in
    index_below 0 4294967296 c.in_ok-unfit.unfit c.in_ok-unfit.ensures within
