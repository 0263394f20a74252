-- What descriptors are, and what may be done by them.
use Rattle.std.specs.Prelude.{ℕ, ◌+◌, ◌-◌, ◌^◌, Bool, true, false, not, if◌then◌else◌, List, [], ◌∷◌, Option, drop, option_map, position, Ok, Err}
use Rattle.vr_base.specs.Rights.{has_bit, fd_read, fd_seek, fd_tell, fd_write, fd_filestat_get, fd_filestat_set_size, word_of}
use Rattle.vr_wasi_abi.specs.declared.results.FdStat.{FdStat}
use Rattle.vr_wasi_calls.specs.Checks.{Checked, refuse_if, or_fault, ◌>>=◌, ◌>>◌}
use Rattle.vr_wasi_calls.specs.declared.errno.Errno.TheVariants.{Badf, Noent, Notcapable, Notdir}
use Rattle.vr_wasi_calls.specs.Worlds.{World, descriptor_at, file_at}
use Rattle.vr_wasi_calls.specs.declared.descriptors.Descriptor.{Descriptor}
use Rattle.vr_wasi_calls.specs.declared.descriptors.Descriptor.TheVariants.{Closed, Input, Output, Errors, Directory, File}
use Rattle.vr_wasi_calls.specs.declared.descriptors.OpenFile.{OpenFile}
use Rattle.vr_wasi_calls.specs.declared.descriptors.TheConstants.{FIRST_FILE}

-- ---- kinds

abbrev pub is_open : Descriptor → Bool
is_open Closed = false
is_open descriptor = true

abbrev pub is_directory : Descriptor → Bool
is_directory Directory = true
is_directory descriptor = false

abbrev pub is_file : Descriptor → Bool
is_file (File file) = true
is_file descriptor = false

-- file types: a character device, a directory, a regular file
abbrev pub device : ℕ
device = 2

abbrev pub directory : ℕ
directory = 3

abbrev pub regular_file : ℕ
regular_file = 4

abbrev pub type_of : Descriptor → ℕ
type_of Directory = directory
type_of (File file) = regular_file
type_of descriptor = device

-- ---- rights

-- every right of WASI preview 1, which the directory tells
abbrev pub every_wasi_right : ℕ
every_wasi_right = 2 ^ 29 - 1

-- what may be done by a descriptor
abbrev pub base_of : Descriptor → ℕ
base_of Closed = 0
base_of Input = word_of (fd_read ∷ [])
base_of Output = word_of (fd_write ∷ [])
base_of Errors = word_of (fd_write ∷ [])
base_of Directory = every_wasi_right
base_of (File file) = file.base

-- what may be done by descriptors that are opened from it
abbrev pub inheriting_of : Descriptor → ℕ
inheriting_of Directory = every_wasi_right
inheriting_of descriptor = 0

-- 1 where each write goes to the end
abbrev pub flags_of : Descriptor → ℕ
flags_of (File file) = if file.appends then 1 else 0
flags_of descriptor = 0

-- what is told of a descriptor
abbrev pub stat_of : Descriptor → FdStat
stat_of d =
    record {
      filetype = type_of d;
      flags = flags_of d;
      base = base_of d;
      inheriting = inheriting_of d;
    }

-- the rights that a file's descriptor can have
abbrev pub file_rights : ℕ
file_rights =
    word_of (fd_read ∷ fd_seek ∷ fd_tell ∷ fd_write ∷ fd_filestat_get ∷ fd_filestat_set_size ∷ [])

-- ---- checks

-- what stands at an open descriptor
abbrev pub open_at : World → ℕ → Checked Descriptor
open_at w fd = do
  refuse_if (not (is_open (descriptor_at w fd))) Badf
  Ok (descriptor_at w fd)

-- what stands at an open descriptor that is not the directory
abbrev pub stream_at : World → ℕ → Checked Descriptor
stream_at w fd = do
  descriptor ← open_at w fd
  refuse_if (is_directory descriptor) Badf
  Ok descriptor

-- the file that stands at a descriptor
abbrev pub as_file : Descriptor → Checked OpenFile
as_file (File file) = Ok file
as_file descriptor = Err Badf

-- nothing, where the descriptor is the directory
abbrev pub directory_check : World → ℕ → Checked (Unit {0})
directory_check w fd = do
  descriptor ← open_at w fd
  refuse_if (not (is_directory descriptor)) Notdir

-- nothing, where the descriptor is the directory; else it counts as closed
abbrev pub preopened_check : World → ℕ → Checked (Unit {0})
preopened_check w fd = refuse_if (not (is_directory (descriptor_at w fd))) Badf

-- nothing, where the base word has the bit
abbrev pub base_check : Descriptor → ℕ → Checked (Unit {0})
base_check descriptor bit = refuse_if (not (has_bit (base_of descriptor) bit)) Notcapable

-- the bytes of an open file, which may have been taken out
abbrev pub body_of : World → OpenFile → Checked (List ℕ)
body_of w file = or_fault Noent (file_at w file.path)

-- ---- numbers

-- the lowest number from that of the first file on at which nothing is open
abbrev pub free_number : World → Option ℕ
free_number w =
    option_map (λ place. FIRST_FILE + place)
    (position (λ descriptor. not (is_open descriptor)) (drop FIRST_FILE w.descriptors))
