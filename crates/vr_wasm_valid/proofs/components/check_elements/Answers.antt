use Rattle.std.proofs.Common.{refl}
use Rattle.vr_wasm_valid.specs.Parts.{the_element}
use Rattle.vr_wasm_valid.proofs.AnswerLemmas.{judged}
use Rattle.vr_wasm_valid.proofs.components.check_elements.Goals as goal

pub returns : goal.returns
returns c = judged the_element c.as_slice.ensures refl c.unfit_element.ensures c.refuse.ensures
