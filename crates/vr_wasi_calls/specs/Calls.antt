-- The calls of WASI snapshot preview 1: what each leaves of the world and of the memory, or the
-- error number of the first check that fails. Pointers, lengths and descriptors are read unsigned.
use Rattle.std.specs.Prelude.{ℕ, zero, suc, ◌+◌, ◌-◌, ◌^◌, min, Bool, not, ◌&&◌, ◌||◌, nat_lt, nat_le, ◌==◌, if◌then◌else◌, List, [], ◌∷◌, ◌++◌, length, drop, Option, Some, None, Ok, Err, bit_and, codes}
use Rattle.vr_base.specs.Rights.{has_bit, fd_read, fd_seek, fd_tell, fd_write, fd_filestat_get, fd_filestat_set_size, path_open, path_create_file, path_filestat_get, path_filestat_set_size, path_unlink_file}
use Rattle.vr_files.specs.Bodies.{written, resized}
use Rattle.vr_files.specs.FileMaps.{bytes_at}
use Rattle.vr_files.specs.declared.pages.TheConstants.{MOST_BYTES}
use Rattle.vr_wasi_abi.specs.Layouts.{fdstat, filestat, prestat}
use Rattle.vr_wasi_abi.specs.declared.iovecs.Iovec.{Iovec}
use Rattle.vr_wasm_num.specs.Memory.{Contents, bytes_of, with_piece}
use Rattle.vr_wasi_calls.specs.Checks.{Checked, refuse_if, or_fault, ◌>>=◌, ◌>>◌}
use Rattle.vr_wasi_calls.specs.Descriptors.{as_file, base_check, base_of, body_of as file_body, directory_check, file_rights, free_number, open_at, preopened_check, regular_file, stat_of, stream_at, type_of}
use Rattle.vr_wasi_calls.specs.declared.errno.Errno.TheVariants.{Badf, Exist, Fbig, Inval, Mfile, Noent, Nospc, Notcapable, Notsup}
use Rattle.vr_wasi_calls.specs.Paths.{path_in, range_check}
use Rattle.vr_wasi_calls.specs.Pieces.{bytes_in, pieces_of, size_of, spread}
use Rattle.vr_wasi_calls.specs.Worlds.{World, descriptor_at, file_at, with_body, with_descriptor, with_output, with_position, with_taken, without_body, word_at}
use Rattle.vr_wasi_calls.specs.declared.descriptors.Descriptor.{Descriptor}
use Rattle.vr_wasi_calls.specs.declared.descriptors.Descriptor.TheVariants.{Closed, Input, Output, Errors, File}
use Rattle.vr_wasi_calls.specs.declared.descriptors.OpenFile.{OpenFile}

-- What a call leaves that passes its checks.
pub record Done : Type 0 where
  pub world : World
  pub memory : Contents

-- the world and the memory after a call
abbrev pub after : World → Contents → Done
after w m = record { world = w; memory = m }

abbrev pub leaves : World → Contents → Checked Done
leaves w m = Ok (after w m)

-- the memory with a number of so many bytes at a place
abbrev pub with_number : Contents → ℕ → ℕ → ℕ → Contents
with_number m at width number = with_piece m at (bytes_of width number)

-- ---- reading

-- what is left at a stream: of the input, or of an open file from its position on
abbrev pub left_at : World → Descriptor → Checked (List ℕ)
left_at w Input = Ok (drop w.taken w.input)
left_at w (File file) = do
  body ← file_body w file
  Ok (drop file.position body)
left_at w descriptor = Err Badf

-- the world with so many bytes more read at a stream
abbrev pub moved_at : World → ℕ → Descriptor → ℕ → World
moved_at w fd Input count = with_taken w (w.taken + count)
moved_at w fd (File file) count = with_position w fd file (file.position + count)
moved_at w fd descriptor count = w

-- how many bytes a read gives: what is left, as far as there is room
abbrev pub count_read : List ℕ → List Iovec → ℕ
count_read left pieces = min (length left) (size_of pieces)

abbrev pub fd_read_call : World → Contents → ℕ → ℕ → ℕ → ℕ → Checked Done
fd_read_call w m fd at count out = do
  stream ← stream_at w fd
  base_check stream fd_read
  pieces ← pieces_of m at count
  range_check m out 4
  left ← left_at w stream
  leaves (moved_at w fd stream (count_read left pieces))
      (with_number (spread m pieces left) out 4 (count_read left pieces))

-- ---- writing

-- the most bytes of a program's output
abbrev pub most_output : ℕ
most_output = 1048576

-- where a write begins: at the end of a file that is appended to, else at the position
abbrev pub start_of : OpenFile → List ℕ → ℕ
start_of file body = if file.appends then length body else file.position

-- the world after bytes are written into an open file from a place on; writing none moves nothing
abbrev pub file_with : World → ℕ → Descriptor → ℕ → List ℕ → World
file_with w fd (File file) start (b ∷ bytes) =
    let body = written (bytes_at w.files.files file.path) start (b ∷ bytes) in
    with_position (with_body w file.path body) fd file (start + length (b ∷ bytes))
file_with w fd descriptor start bytes = w

-- nothing, where a stream has room for so many bytes more
abbrev pub room_check : World → Descriptor → ℕ → Checked (Unit {0})
room_check w Output size = refuse_if (nat_lt most_output (length w.output + size)) Nospc
room_check w Errors size = refuse_if (nat_lt most_output size) Nospc
room_check w (File file) size = do
  body ← file_body w file
  refuse_if (nat_lt MOST_BYTES (start_of file body + size)) Fbig
room_check w descriptor size = Err Badf

-- the world after bytes are written to a stream that has room for them
abbrev pub written_at : World → ℕ → Descriptor → List ℕ → World
written_at w fd Output bytes = with_output w bytes
written_at w fd (File file) bytes =
    file_with w fd (File file) (start_of file (bytes_at w.files.files file.path)) bytes
written_at w fd descriptor bytes = w

abbrev pub fd_write_call : World → Contents → ℕ → ℕ → ℕ → ℕ → Checked Done
fd_write_call w m fd at count out = do
  stream ← stream_at w fd
  base_check stream fd_write
  pieces ← pieces_of m at count
  range_check m out 4
  room_check w stream (size_of pieces)
  leaves (written_at w fd stream (bytes_in m pieces)) (with_number m out 4 (size_of pieces))

-- ---- positions

-- from where a seek counts: the beginning, the position or the end
abbrev pub origin_of : OpenFile → List ℕ → ℕ → ℕ
origin_of file body zero = 0
origin_of file body (suc zero) = file.position
origin_of file body whence = length body

-- the place so far after another
abbrev pub place_after : ℕ → ℕ → Checked ℕ
place_after origin distance = do
  refuse_if (nat_le (2 ^ 63) (origin + distance)) Inval
  Ok (origin + distance)

-- the place so far before another
abbrev pub place_before : ℕ → ℕ → Checked ℕ
place_before origin distance = do
  refuse_if (nat_lt origin distance) Inval
  Ok (origin - distance)

-- the place at an offset from another; the offset is signed, and told as a number below 2 ^ 64
abbrev pub place_from : ℕ → ℕ → Checked ℕ
place_from origin offset =
    if nat_lt offset (2 ^ 63) then place_after origin offset
    else place_before origin (2 ^ 64 - offset)

abbrev pub fd_seek_call : World → Contents → ℕ → ℕ → ℕ → ℕ → Checked Done
fd_seek_call w m fd offset whence out = do
  stream ← stream_at w fd
  base_check stream fd_seek
  refuse_if (nat_lt 2 whence) Inval
  range_check m out 8
  file ← as_file stream
  body ← file_body w file
  place ← place_from (origin_of file body whence) offset
  leaves (with_position w fd file place) (with_number m out 8 place)

-- whether a base word has neither of the rights that tell a position
abbrev pub tells_nothing : ℕ → Bool
tells_nothing base = not (has_bit base fd_seek) && not (has_bit base fd_tell)

abbrev pub fd_tell_call : World → Contents → ℕ → ℕ → Checked Done
fd_tell_call w m fd out = do
  stream ← stream_at w fd
  refuse_if (tells_nothing (base_of stream)) Notcapable
  range_check m out 8
  file ← as_file stream
  leaves w (with_number m out 8 file.position)

-- ---- descriptors

abbrev pub fd_close_call : World → Contents → ℕ → Checked Done
fd_close_call w m fd = do
  open_at w fd
  leaves (with_descriptor w fd Closed) m

abbrev pub fd_fdstat_get_call : World → Contents → ℕ → ℕ → Checked Done
fd_fdstat_get_call w m fd out = do
  descriptor ← open_at w fd
  range_check m out 24
  leaves w (with_piece m out (fdstat (stat_of descriptor)))

-- ---- files

-- nothing, where a file's descriptor lets its facts be told; other descriptors tell them always
abbrev pub stat_check : Descriptor → Checked (Unit {0})
stat_check (File file) = base_check (File file) fd_filestat_get
stat_check descriptor = Ok tt

-- the size of an open file; other descriptors have none
abbrev pub size_at : World → Descriptor → Checked ℕ
size_at w (File file) = do
  body ← file_body w file
  Ok (length body)
size_at w descriptor = Ok 0

abbrev pub fd_filestat_get_call : World → Contents → ℕ → ℕ → Checked Done
fd_filestat_get_call w m fd out = do
  descriptor ← open_at w fd
  stat_check descriptor
  range_check m out 64
  size ← size_at w descriptor
  leaves w (with_piece m out (filestat (type_of descriptor) size))

abbrev pub fd_filestat_set_size_call : World → Contents → ℕ → ℕ → Checked Done
fd_filestat_set_size_call w m fd size = do
  file ← as_file (descriptor_at w fd)
  base_check (File file) fd_filestat_set_size
  refuse_if (nat_lt MOST_BYTES size) Fbig
  body ← file_body w file
  leaves (with_body w file.path (resized body size)) m

abbrev pub path_filestat_get_call : World → Contents → ℕ → ℕ → ℕ → ℕ → Checked Done
path_filestat_get_call w m fd at len out = do
  directory_check w fd
  range_check m at len
  range_check m out 64
  path ← path_in m at len
  refuse_if (not (has_bit (word_at w path) path_filestat_get)) Notcapable
  body ← or_fault Noent (file_at w path)
  leaves w (with_piece m out (filestat regular_file (length body)))

abbrev pub path_unlink_file_call : World → Contents → ℕ → ℕ → ℕ → Checked Done
path_unlink_file_call w m fd at len = do
  directory_check w fd
  range_check m at len
  path ← path_in m at len
  refuse_if (not (has_bit (word_at w path) path_unlink_file)) Notcapable
  or_fault Noent (file_at w path)
  leaves (without_body w path) m

-- ---- opening

-- the flags of an opening, by their bits: make the file, want a directory, want a new file, cut it
-- to nothing
abbrev pub creates : ℕ → Bool
creates flags = has_bit flags 0

abbrev pub wants_directory : ℕ → Bool
wants_directory flags = has_bit flags 1

abbrev pub wants_new : ℕ → Bool
wants_new flags = has_bit flags 2

abbrev pub cuts : ℕ → Bool
cuts flags = has_bit flags 3

-- nothing, where the flags let a file that is there, or is not, be opened with this word
abbrev pub opening_check : ℕ → ℕ → Option (List ℕ) → Checked (Unit {0})
opening_check flags word None = do
  refuse_if (not (creates flags)) Noent
  refuse_if (not (has_bit word path_create_file)) Notcapable
opening_check flags word (Some body) = do
  refuse_if (creates flags && wants_new flags) Exist
  refuse_if (cuts flags && not (has_bit word path_filestat_set_size)) Notcapable

-- the world with the file at the path as it is when it has been opened
abbrev pub with_opened : World → List ℕ → ℕ → Option (List ℕ) → World
with_opened w path flags None = with_body w path []
with_opened w path flags (Some body) = if cuts flags then with_body w path [] else w

-- the open file: at its beginning, with what was asked for and the word lets pass
abbrev pub opened_file : World → List ℕ → ℕ → ℕ → OpenFile
opened_file w path asked fdflags = record {
  path = path;
  position = 0;
  appends = has_bit fdflags 0;
  base = bit_and asked (bit_and (word_at w path) file_rights);
}

abbrev pub path_open_call : World → Contents → ℕ → ℕ → ℕ → ℕ → ℕ → ℕ → ℕ → Checked Done
path_open_call w m fd at len oflags asked fdflags out = do
  directory_check w fd
  range_check m at len
  range_check m out 4
  path ← path_in m at len
  refuse_if (not (has_bit (word_at w path) path_open)) Notcapable
  refuse_if (nat_lt 15 oflags || nat_lt 31 fdflags) Inval
  refuse_if (wants_directory oflags) Notsup
  opening_check oflags (word_at w path) (file_at w path)
  number ← or_fault Mfile (free_number w)
  leaves (with_descriptor (with_opened w path oflags (file_at w path)) number
      (File (opened_file w path asked fdflags)))
      (with_number m out 4 number)

-- ---- the directory

abbrev pub fd_prestat_get_call : World → Contents → ℕ → ℕ → Checked Done
fd_prestat_get_call w m fd out = do
  preopened_check w fd
  range_check m out 8
  leaves w (with_piece m out (prestat 1))

abbrev pub fd_prestat_dir_name_call : World → Contents → ℕ → ℕ → ℕ → Checked Done
fd_prestat_dir_name_call w m fd at len = do
  preopened_check w fd
  refuse_if (len == 0) Inval
  range_check m at 1
  leaves w (with_piece m at (codes "/"))

-- ---- arguments and the environment

-- the program's one argument, its path, as a text that ends with a zero
abbrev pub argument : World → List ℕ
argument w = w.path ++ 0 ∷ []

abbrev pub args_sizes_get_call : World → Contents → ℕ → ℕ → Checked Done
args_sizes_get_call w m count size = do
  range_check m count 4
  range_check m size 4
  leaves w (with_number (with_number m count 4 1) size 4 (length (argument w)))

abbrev pub args_get_call : World → Contents → ℕ → ℕ → Checked Done
args_get_call w m list text = do
  range_check m list 4
  range_check m text (length (argument w))
  leaves w (with_piece (with_number m list 4 text) text (argument w))

abbrev pub environ_sizes_get_call : World → Contents → ℕ → ℕ → Checked Done
environ_sizes_get_call w m count size = do
  range_check m count 4
  range_check m size 4
  leaves w (with_number (with_number m count 4 0) size 4 0)
