use Rattle.vr_wasm_link.specs.Opening.{element_overruns}
use Rattle.vr_wasm_link.proofs.PlaceLemmas.{index_fits}
use Rattle.vr_wasm_link.proofs.fitting.check_elements.Goals as goal

pub refuse-requires : goal.refuse-requires
refuse-requires c =
    let m = c.args.module.now in
    index_fits (element_overruns c.args.globals.now c.size_of-size.result) m.elements
    c.overrunning_element-found.result c.requires.limits.elements cc
