use Rattle.std.proofs.Common.{◌≡◌, ◌+◌, ◌-◌, ◌≤◌, ◌∙◌, List, ℕ, ap, arith, length, length-append, sym}
use Rattle.std.specs.List.{zip}
use Rattle.vr_wasm_ast.specs.declared.tree.Code.{Code}
use Rattle.vr_wasm_ast.specs.Imports.{imported_functions}
use Rattle.vr_wasm_valid.specs.Context.{Spaces}
use Rattle.vr_wasm_valid.specs.Parts.{the_body}
use Rattle.vr_wasm_valid.proofs.AnswerLemmas.{judged, length_pairs}
use Rattle.vr_wasm_valid.proofs.PartLemmas.{index_below}
use Rattle.vr_wasm_valid.proofs.components.check_bodies.Goals as goal

pub returns : goal.returns
returns c =
    let m = c.args.module.now in
    let imported = imported_functions m.imports in
    let whole = ap (λ (s : Spaces). length s.functions) c.requires.spaces_of in
    let first : c.len.result - length c.as_slice-own.result.now ≡ length imported =
    omega (arith, whole, length-append imported m.functions, ap length c.as_slice-own.ensures, c.len.ensures) in
    let pairs : zip c.as_slice-own.result.now c.as_slice.result.now ≡ zip m.functions m.codes =
    ap (λ (x : List ℕ). zip x c.as_slice.result.now) c.as_slice-own.ensures
    ∙ ap (λ (x : List Code). zip m.functions x) c.as_slice.ensures in
    judged the_body pairs first c.in_ok-unfit.ensures c.refuse.ensures

pub refuse-requires : goal.refuse-requires
refuse-requires c =
    let m = c.args.module.now in
    let first = c.len.result - length c.as_slice-own.result.now in
    let functions = c.as_slice-own.result.now in
    let codes = c.as_slice.result.now in
    let whole = ap (λ (s : Spaces). length s.functions) c.requires.spaces_of in
    let paired : length codes ≡ length functions =
    ap length c.as_slice.ensures ∙ (c.requires.codes ∙ sym (ap length c.as_slice-own.ensures)) in
    let within : first + length (zip functions codes) ≤ 4294967296 =
    omega (
      arith,
      whole,
      length-append (imported_functions m.imports) m.functions,
      length_pairs functions codes paired,
      ap length c.as_slice-own.ensures,
      c.len.ensures,
      c.requires.limits.functions,
      paired,
    ) in
    index_below first 4294967296 c.in_ok-unfit.unfit c.in_ok-unfit.ensures within
