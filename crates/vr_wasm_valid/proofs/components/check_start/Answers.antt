use Rattle.std.proofs.Common.{refl}
use Rattle.vr_wasm_valid.specs.Parts.{the_start}
use Rattle.vr_wasm_valid.proofs.AnswerLemmas.{judged}
use Rattle.vr_wasm_valid.proofs.components.check_start.Goals as goal

pub returns : goal.returns
returns c = judged the_start refl refl c.unfit_start.ensures c.refuse.ensures
