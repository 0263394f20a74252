use Rattle.std.proofs.Common.{subst}
use Rattle.vr_wasm_valid.specs.Valid.{PartsFit}
use Rattle.vr_wasm_valid.proofs.ValidLemmas.{parts_fit}
use Rattle.vr_wasm_valid.proofs.validation.ValidModule.module.Goals as goal

pub returns-clause-parts : goal.returns-clause-parts
returns-clause-parts c = subst PartsFit c.self.view_is (parts_fit c.self.inside.tree c.self.invariant.typed)
