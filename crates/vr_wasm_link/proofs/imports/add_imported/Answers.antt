use Rattle.std.proofs.Common.{◌≡◌, ◌<◌, ◌∙◌, [], None, Some, false, ap, arith, get_or, length, zero-add}
use Rattle.std.specs.Prelude.{is_none}
use Rattle.vr_wasm_link.proofs.CalleeLemmas.{callee_here, pushed}
use Rattle.vr_wasm_link.proofs.PlaceLemmas.{found_next, none_more}
use Rattle.vr_wasm_link.specs.declared.faults.LinkKind.TheVariants as kinds
use Rattle.vr_wasm_link.specs.Faults.{none_at}
use Rattle.vr_wasm_link.specs.Functions.{function_of}
use Rattle.vr_wasm_link.specs.Opening.{imported_callee, is_missing}
use Rattle.vr_wasm_link.proofs.imports.add_imported.Goals as goal

pub returns-in-None-clause-answer : goal.returns-in-None-clause-answer
returns-in-None-clause-answer g c =
    let m = c.args.module.now in
    let finds = g.H.Host.finds in
    let place = c.loop-place.place in
    let x = c.import-item.result in
    let within : place < length m.imports = omega (arith, ap length c.as_slice-import-items.ensures) in
    let at : x ≡ get_or m.imports place x = cc in
    let none : imported_callee finds m.types x ≡ None =
    callee_here finds m.types c.as_slice.result.now x None c.as_slice.ensures c.in-None.ensures in
    let found = found_next (is_missing finds m.types) m.imports place x 0 within at
    c.loop-place.invariant.found (ap is_none none) in
    ap (none_at kinds.Import) (found ∙ ap Some (zero-add place))

pub loop-place-preserved : goal.loop-place-preserved
loop-place-preserved g c =
    let m = c.args.module.now in
    let finds = g.H.Host.finds in
    let place = c.loop-place.place in
    let x = c.import-item.result in
    let callee = c.in-Some.callee in
    let within : place < length m.imports = omega (arith, ap length c.as_slice-import-items.ensures) in
    let at : x ≡ get_or m.imports place x = cc in
    let some : imported_callee finds m.types x ≡ Some (function_of callee) =
    callee_here finds m.types c.as_slice.result.now x (Some (function_of callee)) c.as_slice.ensures
    c.in-Some.ensures in
    let there : is_missing finds m.types x ≡ false = ap is_none some in
    record {
      found = none_more (is_missing finds m.types) m.imports place x 0 within at c.loop-place.invariant.found there;
      functions = pushed function_of (imported_callee finds m.types) c.loop-place.functions.items
          c.push.new.self.items callee [] m.imports place x within at c.loop-place.invariant.functions some
          c.in_ok-push-in-Some.ensures.items;
    }
