use Rattle.std.proofs.Common.{ap, refl}
use Rattle.vr_wasm_valid.specs.Context.{Spaces}
use Rattle.vr_wasm_valid.specs.Parts.{the_table}
use Rattle.vr_wasm_valid.proofs.AnswerLemmas.{judged}
use Rattle.vr_wasm_valid.proofs.components.check_tables.Goals as goal

pub returns : goal.returns
returns c =
    let same = ap (λ (s : Spaces). s.tables) c.requires in
    judged the_table same refl c.unfit_table.ensures c.refuse.ensures
