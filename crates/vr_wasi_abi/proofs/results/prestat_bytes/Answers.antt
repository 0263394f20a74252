use Rattle.std.proofs.Common.{◌≡◌, ◌∙◌}
use Rattle.vr_wasm_num.specs.Memory.{bytes_of}
use Rattle.vr_wasi_abi.specs.Layouts.{prestat}
use Rattle.vr_wasi_abi.proofs.ByteLemmas.{four_bytes}
use Rattle.vr_wasi_abi.proofs.results.prestat_bytes.Goals as goal

pub returns : goal.returns
unfolding prestat
returns c =
    let len : c.copy_from_slice.new.self ≡ bytes_of 4 c.args.len = c.copy_from_slice.ensures.after ∙ c.to_le_bytes.ensures ∙ four_bytes c.args.len in
    rw len
