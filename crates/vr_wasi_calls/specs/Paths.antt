-- Paths that a program names by a range of its memory.
use Rattle.std.specs.Prelude.{ℕ, List, not}
use Rattle.vr_base.specs.Checks.{result_map_err}
use Rattle.vr_base.specs.Names.{path_of}
use Rattle.vr_wasm_num.specs.Memory.{Contents, is_within, part}
use Rattle.vr_wasi_calls.specs.Checks.{Checked, refuse_if}
use Rattle.vr_wasi_calls.specs.declared.errno.Errno.TheVariants.{Inval, Fault}

-- nothing, where so many bytes from a place on are within the memory
abbrev pub range_check : Contents → ℕ → ℕ → Checked (Unit {0})
range_check m at len = refuse_if (not (is_within m.bytes at len)) Fault

-- the path that the bytes spell
abbrev pub path_in : Contents → ℕ → ℕ → Checked (List ℕ)
path_in m at len = result_map_err (λ _. Inval) (path_of (part m.bytes at len))
