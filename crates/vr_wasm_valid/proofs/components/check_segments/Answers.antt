use Rattle.std.proofs.Common.{refl}
use Rattle.vr_wasm_valid.specs.Parts.{the_segment}
use Rattle.vr_wasm_valid.proofs.AnswerLemmas.{judged}
use Rattle.vr_wasm_valid.proofs.components.check_segments.Goals as goal

pub returns : goal.returns
returns c = judged the_segment c.as_slice.ensures refl c.unfit_segment.ensures c.refuse.ensures
