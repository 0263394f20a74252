use Rattle.std.proofs.Common.{subst}
use Rattle.vr_wasm_valid.specs.Answer.{Judges}
use Rattle.vr_wasm_valid.specs.Context.{Spaces}
use Rattle.vr_wasm_valid.specs.Parts.{IsTypedIn, components}
use Rattle.vr_wasm_valid.proofs.validation.check_module.Goals as goal

pub returns : goal.returns
returns c =
    let m = c.args.module.now in
    let P : Spaces → Type 0 = λ s. Judges (IsTypedIn s m) (components m) c.check_components.result in
    subst P c.in_ok-spaces.ensures c.check_components.ensures
