use Rattle.std.proofs.Common.{◌*◌}
use Rattle.vr_wasm_num.specs.declared.memory.TheConstants.{PAGE_SIZE}
use Rattle.vr_wasm_link.specs.Opening.{least_size, segment_overruns}
use Rattle.vr_wasm_link.proofs.PlaceLemmas.{index_fits}
use Rattle.vr_wasm_link.proofs.fitting.check_segments.Goals as goal

pub refuse-requires : goal.refuse-requires
refuse-requires c =
    let m = c.args.module.now in
    index_fits (segment_overruns c.args.globals.now (least_size m.memories * PAGE_SIZE)) m.segments
    c.overrunning_segment-found.result c.requires.limits.segments cc
