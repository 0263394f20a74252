use Rattle.std.proofs.Common.{◌≡◌, map, take, None}
use Rattle.std.specs.List.{filter_map, position_from}
use Rattle.vr_wasm_link.specs.Functions.{function_of}
use Rattle.vr_wasm_link.specs.Opening.{imported_callee, is_missing}
use Rattle.vr_wasm_link.proofs.imports.add_imported.Given as goal

abbrev pub invariant-loop-place : goal.invariant-loop-place
invariant-loop-place g l = record {
  found : position_from (is_missing g.H.Host.finds l.module.types) 0 (take l.place l.module.imports) ≡ None;
  functions : map function_of l.functions.items
      ≡ filter_map (imported_callee g.H.Host.finds l.module.types) (take l.place l.module.imports);
}
