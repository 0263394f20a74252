use Rattle.std.proofs.Common.{ℕ, ◌<◌, ◌≤◌, get_or, length, arith}
use Rattle.std.proofs.lemmas.List.{get_or_default}
use Rattle.std.specs.List.{zip}
use Rattle.vr_wasm_ast.specs.declared.tree.Code.{Code}
use Rattle.vr_wasm_valid.specs.Parts.{BodyFits}
use Rattle.vr_wasm_valid.specs.Scope.{spaces_in}
use Rattle.vr_wasm_valid.proofs.AnswerLemmas.{length_pairs, no_more, one_more, pair_at, unfit_at}
use Rattle.vr_wasm_valid.proofs.parts.unfit_body.Goals as goal

pub loop-place-preserved : goal.loop-place-preserved
loop-place-preserved c =
    let functions = c.args.functions.now in
    let codes = c.args.codes.now in
    let i = c.loop-place.place in
    let code = c.index-codes-place.result in
    let sort : ℕ = get_or functions i 0 in
    let within : i < length (zip functions codes) = omega (arith, length_pairs functions codes c.requires) in
    let type_at = get_or_default functions i 0 sort (omega arith) in
    let at = pair_at functions codes i sort code c.requires c.loop-place-test.true type_at c.index-codes-place.is in
    one_more (λ (f : ℕ × Code). BodyFits (spaces_in c.args.spaces.now) f.0 f.1) (zip functions codes) i
    (sort, code) within at c.loop-place.invariant (c.in_ok-body_fits.ensures.0 c.if-not-branch.false)

pub returns-then-not-branch : goal.returns-then-not-branch
returns-then-not-branch c =
    let functions = c.args.functions.now in
    let codes = c.args.codes.now in
    let i = c.loop-place.place in
    let code = c.index-codes-place.result in
    let sort : ℕ = get_or functions i 0 in
    let s = spaces_in c.args.spaces.now in
    let within : i < length (zip functions codes) = omega (arith, length_pairs functions codes c.requires) in
    let type_at = get_or_default functions i 0 sort (omega arith) in
    let at = pair_at functions codes i sort code c.requires c.loop-place-test.true type_at c.index-codes-place.is in
    let unfit : BodyFits s sort code → ⊥ =
    λ fits. let never : ⊥ = cc (c.in_ok-body_fits.ensures.1 fits, c.if-not-branch.true) in never in
    record {
      none = tt;
      some = unfit_at (λ (f : ℕ × Code). BodyFits s f.0 f.1) (zip functions codes) i (sort, code) within at
          c.loop-place.invariant unfit;
    }

pub returns : goal.returns
returns c =
    let pairs = zip c.args.functions.now c.args.codes.now in
    let past : length pairs ≤ c.loop-place.place =
    omega (arith, length_pairs c.args.functions.now c.args.codes.now c.requires) in
    record {
      none = no_more (λ (f : ℕ × Code). BodyFits (spaces_in c.args.spaces.now) f.0 f.1) pairs
          c.loop-place.place past c.loop-place.invariant;
      some = tt;
    }
