use borrow.Author.Tests.{tests}
use Rattle.std.proofs.Common.{rules}
use Rattle.std.proofs.lemmas.Iterator.{IsFirst-from_position, YieldsList-from_slice}
use Rattle.vr_wasm_ast.specs.declared.tree.GlobalDef.{GlobalDef}
use Rattle.vr_wasm_ast.specs.Instructions.{instructions_of}
use Rattle.vr_wasm_valid.specs.Parts.{IsConstantExpression}
use Rattle.vr_wasm_valid.proofs.AnswerLemmas.{found_unfit}
use Rattle.vr_wasm_valid.proofs.parts.unfit_global.Goals as goal

pub returns : goal.returns
returns c =
    let fits : GlobalDef → Type 0 = λ g.
    IsConstantExpression c.args.imported.now g.sort.value (instructions_of g.init) in
    found_unfit c.args.globals.now c.position.result
    (IsFirst-from_position _ _ _ (λ g. fits g → ⊥) fits c.position.ensures.ran
    (YieldsList-from_slice c.args.globals.now cc)
    (λ x q k. search (rules, tests)) (λ x q k. search (rules, tests)))
