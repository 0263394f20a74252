use Rattle.vr_wasm_valid.specs.Context.{spaces_of}
use Rattle.vr_wasm_valid.specs.Parts.{IsTypedIn, components}
use Rattle.vr_wasm_valid.proofs.AnswerLemmas.{untyped}
use Rattle.vr_wasm_valid.proofs.validation.validate.Goals as goal

pub returns-in-Err-clause-untyped : goal.returns-in-Err-clause-untyped
returns-in-Err-clause-untyped c =
    untyped (IsTypedIn (spaces_of c.args.module) c.args.module) (components c.args.module) c.in-Err.invalid
    c.in-Err.ensures.refused
