use Rattle.std.proofs.Common.{◌≡◌, ◌+◌, ◌++◌, Some, drop, map, take}
use Rattle.vr_wasm_link.proofs.writing.write_functions.Given as goal

abbrev pub invariant-loop-place : goal.invariant-loop-place
invariant-loop-place l =
    l.table ≡ take l.start l.fn.table ++ map Some (take l.place l.functions)
    ++ drop (l.start + l.place) l.fn.table
