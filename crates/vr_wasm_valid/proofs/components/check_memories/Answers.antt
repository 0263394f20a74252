use Rattle.std.proofs.Common.{ap, refl}
use Rattle.vr_wasm_valid.specs.Context.{Spaces}
use Rattle.vr_wasm_valid.specs.Parts.{the_memory}
use Rattle.vr_wasm_valid.proofs.AnswerLemmas.{judged}
use Rattle.vr_wasm_valid.proofs.components.check_memories.Goals as goal

pub returns : goal.returns
returns c =
    let same = ap (λ (s : Spaces). s.memories) c.requires in
    judged the_memory same refl c.unfit_memory.ensures c.refuse.ensures
