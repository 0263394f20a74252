use Rattle.std.proofs.Common.{ℕ, refl, arith, length, ◌<◌, ◌≤◌}
use Rattle.std.specs.List.{enumerate_from}
use Rattle.std.proofs.lemmas.List.FromFn.{length-enumerate_from}
use Rattle.vr_wasm_ast.specs.declared.tree.Export.{Export}
use Rattle.vr_wasm_valid.specs.Parts.{ExportFits}
use Rattle.vr_wasm_valid.specs.Scope.{spaces_in}
use Rattle.vr_wasm_valid.proofs.AnswerLemmas.{enumerated_at, no_more, one_more, unfit_at}
use Rattle.vr_wasm_valid.proofs.ExportLemmas.{export_fits, holds_more, name_is_taken}
use Rattle.vr_wasm_valid.proofs.exports.unfit_export.Goals.{then-not-is_new-via-then-not-is_new, then-not-is_new-via-else-not-is_new+then-not-is_there}
use Rattle.vr_wasm_valid.proofs.exports.unfit_export.Goals as goal

pub loop-place-preserved : goal.loop-place-preserved
loop-place-preserved c =
    let exports = c.args.exports.now in
    let i = c.loop-place.place in
    let e = c.index-exports-place.result in
    let s = spaces_in c.args.spaces.now in
    let key = c.as_slice.result in
    let held = c.loop-place.invariant.names in
    let set = c.in_ok-is_new.ensures in
    let within : i < length (enumerate_from 0 exports) = omega (arith, length-enumerate_from 0 exports) in
    let at = enumerated_at exports i e c.loop-place-test.true c.index-exports-place.is in
    let there = c.if-not-is_there.ensures.0 refl in
    let fits = export_fits s key e exports i held c.as_slice.ensures set.added c.if-not-is_new.false there in
    record {
      names = holds_more key exports i c.loop-place-test.true c.index-exports-place.is c.as_slice.ensures held
          set.updates;
      fit = one_more (λ (x : ℕ × Export). ExportFits s exports x.0 x.1) (enumerate_from 0 exports) i (i, e)
          within at c.loop-place.invariant.fit fits;
    }

pub returns-then-not-is_new : goal.returns-then-not-is_new
returns-then-not-is_new c =
    let exports = c.args.exports.now in
    let i = c.loop-place.place in
    let e = c.index-exports-place.result in
    let s = spaces_in c.args.spaces.now in
    let within : i < length (enumerate_from 0 exports) = omega (arith, length-enumerate_from 0 exports) in
    let at = enumerated_at exports i e c.loop-place-test.true c.index-exports-place.is in
    let held = c.loop-place.invariant.names in
    let added = c.in_ok-is_new.ensures.added in
    let unfit : ExportFits s exports i e → ⊥ = elim c.then-not-is_new.branch [
      | then-not-is_new-via-then-not-is_new w ↦
          name_is_taken s c.as_slice.result e exports i held c.as_slice.ensures added w.if-not-is_new.true
      | then-not-is_new-via-else-not-is_new+then-not-is_there w ↦
          λ fits. let never : ⊥ = cc (w.if-not-is_there.ensures.1 fits.there) in never
    ] in
    record {
      none = tt;
      some = unfit_at (λ (x : ℕ × Export). ExportFits s exports x.0 x.1) (enumerate_from 0 exports) i (i, e)
          within at c.loop-place.invariant.fit unfit;
    }

pub returns : goal.returns
returns c =
    let exports = c.args.exports.now in
    let past : length (enumerate_from 0 exports) ≤ c.loop-place.place =
    omega (arith, length-enumerate_from 0 exports) in
    record {
      none = no_more (λ (x : ℕ × Export). ExportFits (spaces_in c.args.spaces.now) exports x.0 x.1)
          (enumerate_from 0 exports) c.loop-place.place past c.loop-place.invariant.fit;
      some = tt;
    }
