use Rattle.std.proofs.Common.{◌≡◌, ◌*◌, length, take}
use Rattle.std.specs.Prelude.{fold}
use Rattle.vr_wasm_num.specs.declared.memory.TheConstants.{PAGE_SIZE}
use Rattle.vr_wasm_link.specs.Opening.{least_size, most_pages, with_segment, zeros}
use Rattle.vr_wasm_link.proofs.writing.opening_memory_of.Given as goal

abbrev pub invariant-loop-segment : goal.invariant-loop-segment
invariant-loop-segment l = record {
  written : l.memory ≡ fold (with_segment l.globals)
      (zeros (least_size l.module.memories) (most_pages l.pages l.module.memories))
      (take l.segment-index l.module.segments);
  size : length l.memory.bytes ≡ least_size l.module.memories * PAGE_SIZE;
}
