use borrow.Author.Tests.{tests}
use Rattle.std.proofs.Common.{rules}
use Rattle.std.proofs.lemmas.Iterator.{IsFirst-from_position, YieldsList-from_slice}
use Rattle.vr_wasm_ast.specs.declared.tree.Segment.{Segment}
use Rattle.vr_wasm_valid.specs.Parts.{SegmentFits}
use Rattle.vr_wasm_valid.specs.Scope.{spaces_in}
use Rattle.vr_wasm_valid.proofs.AnswerLemmas.{found_unfit}
use Rattle.vr_wasm_valid.proofs.parts.unfit_segment.Goals as goal

pub returns : goal.returns
returns c =
    let fits : Segment → Type 0 = SegmentFits (spaces_in c.args.spaces.now) in
    found_unfit c.args.segments.now c.position.result
    (IsFirst-from_position _ _ _ (λ e. fits e → ⊥) fits c.position.ensures.ran
    (YieldsList-from_slice c.args.segments.now cc)
    (λ x q k. search (rules, tests)) (λ x q k. search (rules, tests)))
