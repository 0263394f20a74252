use Rattle.std.proofs.Common.{◌≡◌, ◌+◌, ◌-◌, ◌≤◌, ◌∙◌, ◌++◌, List, ap, arith, length, length-append, map, subst}
use Rattle.std.proofs.lemmas.List.{length-map}
use Rattle.vr_wasm_ast.specs.declared.tree.GlobalDef.{GlobalDef}
use Rattle.vr_wasm_ast.specs.declared.tree.GlobalType.{GlobalType}
use Rattle.vr_wasm_ast.specs.declared.tree.Import.{Import}
use Rattle.vr_wasm_ast.specs.Imports.{global_of, imported_globals}
use Rattle.vr_wasm_ast.specs.Instructions.{instructions_of}
use Rattle.vr_wasm_valid.specs.Answer.{FindsUnfit}
use Rattle.vr_wasm_valid.specs.Context.{Spaces}
use Rattle.vr_wasm_valid.specs.Parts.{IsConstantExpression, the_global}
use Rattle.vr_wasm_valid.proofs.AnswerLemmas.{judged}
use Rattle.vr_wasm_valid.proofs.PartLemmas.{imported_first, index_below, length-filter_map}
use Rattle.vr_wasm_valid.proofs.components.check_globals.Goals as goal

pub returns : goal.returns
returns c =
    let m = c.args.module.now in
    let imported = imported_globals m.imports in
    let own = map (λ (g : GlobalDef). g.sort) m.globals in
    let whole : c.as_slice.result.now ≡ imported ++ own =
    c.as_slice.ensures ∙ ap (λ (s : Spaces). s.globals) c.requires.spaces_of in
    let first : c.len.result - length c.as_slice-own.result.now ≡ length imported =
    omega (
      arith,
      ap length whole,
      length-append imported own,
      length-map m.globals (λ (g : GlobalDef). g.sort),
      ap length c.as_slice-own.ensures,
      ap length c.as_slice.ensures,
      c.len.ensures,
    ) in
    let P : List GlobalType → Type 0 = λ gs.
    FindsUnfit (λ (g : GlobalDef). IsConstantExpression gs g.sort.value (instructions_of g.init))
    c.as_slice-own.result.now c.unfit_global-unfit.result
    in
    let found = subst P (imported_first own whole first) c.unfit_global-unfit.ensures in
    judged the_global c.as_slice-own.ensures first found c.refuse.ensures

pub refuse-requires : goal.refuse-requires
refuse-requires c =
    let m = c.args.module.now in
    let first = c.len.result - length c.as_slice-own.result.now in
    let imported = imported_globals m.imports in
    let own = map (λ (g : GlobalDef). g.sort) m.globals in
    let whole = ap (λ (s : Spaces). length s.globals) c.requires.spaces_of in
    let within : first + length c.as_slice-own.result.now ≤ 4294967296 =
    omega (
      arith,
      whole,
      length-append imported own,
      length-map m.globals (λ (g : GlobalDef). g.sort),
      length-filter_map (λ (i : Import). global_of i.what) m.imports,
      ap length c.as_slice-own.ensures,
      c.len.ensures,
      c.requires.limits.imports,
      c.requires.limits.globals,
    ) in
    index_below first 4294967296 c.unfit_global-unfit.result c.unfit_global-unfit.ensures within
