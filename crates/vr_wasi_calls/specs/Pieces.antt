-- The pieces of a program's memory that a list of vectors names.
use Rattle.std.specs.Prelude.{ℕ, List, [], ◌∷◌, take, drop, sum_by}
use Rattle.std.specs.List.{flat_map, AllPass}
use Rattle.vr_base.specs.Checks.{result_map_err}
use Rattle.vr_wasi_abi.specs.Iovecs.{reading, has_buffer}
use Rattle.vr_wasi_abi.specs.declared.fault.AbiFault.{AbiFault}
use Rattle.vr_wasi_abi.specs.declared.fault.AbiFault.TheVariants.{Inval, Fault, OutOfMemory}
use Rattle.vr_wasi_abi.specs.declared.iovecs.Iovec.{Iovec}
use Rattle.vr_wasi_calls.specs.Checks.{Checked}
use Rattle.vr_wasi_calls.specs.declared.errno.Errno.{Errno}
use Rattle.vr_wasi_calls.specs.declared.errno.Errno.TheVariants.{Inval as BadArgument, Fault as NotThere}
use Rattle.vr_wasm_num.specs.Memory.{Contents, part, with_piece}

-- how many bytes the pieces have
abbrev pub size_of : List Iovec → ℕ
size_of pieces = sum_by (λ piece. piece.length) pieces

-- the bytes of the pieces, one after the other
abbrev pub bytes_in : Contents → List Iovec → List ℕ
bytes_in m pieces = flat_map (λ piece. part m.bytes piece.pointer piece.length) pieces

-- the memory with bytes laid into the pieces in order, as far as they reach
abbrev pub spread : Contents → List Iovec → List ℕ → Contents
spread m [] bytes = m
spread m (piece ∷ pieces) bytes =
    spread (with_piece m piece.pointer (take piece.length bytes)) pieces (drop piece.length bytes)

-- the error number of a fault of reading; that memory ran out is never one
abbrev pub errno_of : AbiFault → Errno
errno_of Inval = BadArgument
errno_of Fault = NotThere
errno_of OutOfMemory = NotThere

-- the pieces that a program names for a call, each within the memory
abbrev pub pieces_of : Contents → ℕ → ℕ → Checked (List Iovec)
pieces_of m at count = result_map_err errno_of (reading m.bytes at count)

-- each of the pieces is within the memory
abbrev pub AreThere : Contents → List Iovec → Type 0
AreThere m pieces = AllPass (has_buffer m.bytes) pieces
