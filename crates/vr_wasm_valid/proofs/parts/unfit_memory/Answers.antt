use Rattle.std.proofs.Common.{◌≤◌, ap, arith, length}
use Rattle.vr_wasm_valid.specs.Parts.{MemoryFits}
use Rattle.vr_wasm_valid.proofs.AnswerLemmas.{not_alone}
use Rattle.vr_wasm_valid.proofs.parts.unfit_memory.Goals as goal

pub returns-in_default-2 : goal.returns-in_default-2
returns-in_default-2 c =
    let two : 2 ≤ length c.args.spaces.now.memories =
    omega (arith, ap length c.as_slice.ensures, c.in_default.len_at_least) in
    record { none = tt; some = not_alone MemoryFits c.args.spaces.now.memories two }
