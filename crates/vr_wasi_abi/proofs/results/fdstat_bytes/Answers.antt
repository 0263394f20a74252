use Rattle.std.proofs.Common.{◌≡◌, arith, ◌∙◌}
use Rattle.vr_wasm_num.specs.Memory.{bytes_of}
use Rattle.vr_wasi_abi.specs.Layouts.{fdstat}
use Rattle.vr_wasi_abi.proofs.ByteLemmas.{one_byte, two_bytes, eight_bytes}
use Rattle.vr_wasi_abi.proofs.results.fdstat_bytes.Goals as goal

pub returns : goal.returns
unfolding fdstat
returns c =
    let flags : c.copy_from_slice.new.self ≡ bytes_of 2 c.args.flags = c.copy_from_slice.ensures.after ∙ c.to_le_bytes.ensures ∙ two_bytes c.args.flags in
    let base : c.copy_from_slice-2.new.self ≡ bytes_of 8 c.args.base = c.copy_from_slice-2.ensures.after ∙ c.to_le_bytes-2.ensures ∙ eight_bytes c.args.base in
    let inheriting : c.copy_from_slice-3.new.self ≡ bytes_of 8 c.args.inheriting = c.copy_from_slice-3.ensures.after ∙ c.to_le_bytes-3.ensures ∙ eight_bytes c.args.inheriting in
    rw (flags, base, inheriting) (rw (one_byte c.args.filetype (omega arith)))
