use Rattle.std.proofs.Common.{◌≡◌, ◌++◌, map, take}
use Rattle.std.specs.List.{filter_map, zip}
use Rattle.vr_wasm_link.specs.Functions.{function_of}
use Rattle.vr_wasm_link.specs.Opening.{own_callee}
use Rattle.vr_wasm_link.proofs.imports.add_own.Given as goal

abbrev pub invariant-loop-place : goal.invariant-loop-place
invariant-loop-place l =
    map function_of l.functions.items
    ≡ map function_of l.fn.functions.items
    ++ filter_map (own_callee l.module.types) (take l.place (zip l.module.functions l.module.codes))
