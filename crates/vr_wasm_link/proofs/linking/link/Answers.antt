use Rattle.std.proofs.Common.{◌≡◌, ◌++◌, ◌∙◌, List, Err, Ok, ap, map, sym}
use Rattle.vr_wasm_ast.specs.declared.tree.Export.{Export}
use Rattle.vr_wasm_ast.specs.declared.tree.Module.{Module}
use Rattle.vr_wasm_steps.specs.Rows.{Callee}
use Rattle.vr_wasm_link.specs.Functions.{function_of}
use Rattle.vr_wasm_link.specs.Opening.{callees, imports_found, main_of, own_callees, sizes_fit}
use Rattle.vr_wasm_link.specs.Plans.{opening_in}
use Rattle.vr_wasm_link.proofs.CheckLemmas.{sizes_refused}
use Rattle.vr_wasm_link.proofs.linking.link.Goals as goal

pub returns-in_err-check_sizes-clause-answer : goal.returns-in_err-check_sizes-clause-answer
returns-in_err-check_sizes-clause-answer g c =
    let m = c.args.module.now in
    let finds = g.H.Host.finds in
    let f = c.in_err-check_sizes.field-0.0 in
    let module_is = c.module-module.ensures.value in
    let functions_are : map function_of c.as_slice.result.now ≡ callees finds m =
    ap (map function_of) c.as_slice.ensures.value ∙ c.in_ok-add_own.ensures
    ∙ ap (λ ys. ys ++ own_callees c.module-module.result.now) c.in_ok-add_imported.ensures.functions
    ∙ ap (λ (t : Module). callees finds t) module_is in
    let exports_are : c.as_slice-2.result.now ≡ m.exports =
    c.as_slice-2.ensures ∙ ap (λ (t : Module). t.exports) module_is in
    let found : imports_found finds m ≡ Ok c.in_ok-add_imported.field-0 =
    ap (λ (t : Module). imports_found finds t) (sym module_is) ∙ c.in_ok-add_imported.ensures.answer in
    let begins : main_of (callees finds m) m.exports ≡ Ok c.in_ok-main.main =
    ap (λ (fs : List Callee). main_of fs m.exports) (sym functions_are)
    ∙ ap (λ (es : List Export). main_of (map function_of c.as_slice.result.now) es) (sym exports_are)
    ∙ sym c.in_ok-main.ensures in
    let refused : sizes_fit m c.args.pages ≡ Err f =
    cc (c.check_sizes.ensures, c.in_err-check_sizes.was, module_is) in
    sizes_refused c.from_residual-in_err-check_sizes.result (opening_in finds) finds m c.args.pages c.in_ok-main.main f
    c.in_ok-add_imported.field-0 c.from_residual-in_err-check_sizes.ensures.1 found begins refused
