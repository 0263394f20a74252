use Rattle.std.proofs.Common.{refl}
use Rattle.vr_wasm_valid.specs.Parts.{the_import}
use Rattle.vr_wasm_valid.proofs.AnswerLemmas.{judged}
use Rattle.vr_wasm_valid.proofs.components.check_imports.Goals as goal

pub returns : goal.returns
returns c = judged the_import c.as_slice.ensures refl c.unfit_import.ensures c.refuse.ensures
