use Rattle.std.proofs.Common.{◌≡◌, arith, ◌∙◌}
use Rattle.vr_wasm_num.specs.Memory.{bytes_of}
use Rattle.vr_wasi_abi.specs.Layouts.{filestat}
use Rattle.vr_wasi_abi.proofs.ByteLemmas.{one_byte, eight_bytes}
use Rattle.vr_wasi_abi.proofs.results.filestat_bytes.Goals as goal

pub returns : goal.returns
unfolding filestat
returns c =
    let size : c.copy_from_slice.new.self ≡ bytes_of 8 c.args.size = c.copy_from_slice.ensures.after ∙ c.to_le_bytes.ensures ∙ eight_bytes c.args.size in
    rw size (rw (one_byte c.args.filetype (omega arith)))
