use Rattle.std.proofs.Common.{◌≡◌, None, length, replicate, take}
use Rattle.std.specs.Prelude.{fold}
use Rattle.vr_wasm_link.specs.Opening.{least_size, with_element}
use Rattle.vr_wasm_link.proofs.writing.opening_table_of.Given as goal

abbrev pub invariant-loop-element : goal.invariant-loop-element
invariant-loop-element l = record {
  written : l.table.items ≡ fold (with_element l.globals) (replicate (least_size l.module.tables) None)
      (take l.element-index l.module.elements);
  size : length l.table.items ≡ least_size l.module.tables;
}
