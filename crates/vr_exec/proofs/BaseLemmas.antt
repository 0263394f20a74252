-- No call of a program changes the files with which the run began, and so no program does.
use Rattle.std.proofs.Common.{◌≡◌, ℕ, Bool, true, false, not, ◌&&◌, ◌||◌, ◌==◌, nat_lt, if◌then◌else◌, List, [], ◌∷◌, length, Option, Some, None, Ok, Err, refl, ◌∙◌}
use Rattle.vr_base.specs.Rights.{has_bit, fd_read, fd_seek, fd_tell, fd_write, fd_filestat_set_size, path_open, path_filestat_get, path_unlink_file}
use Rattle.vr_wasm_num.specs.Memory.{Contents}
use Rattle.vr_wasm_in_step.specs.Kept.{RepliesKeep, StayKept, world_after}
use Rattle.vr_wasm_in_step.proofs.KeptLemmas.{stays_kept}
use Rattle.vr_wasi_calls.specs.Calls.{Done, argument, args_get_call, args_sizes_get_call, count_read, cuts, environ_sizes_get_call, fd_close_call, fd_fdstat_get_call, fd_filestat_get_call, fd_filestat_set_size_call, fd_prestat_dir_name_call, fd_prestat_get_call, fd_read_call, fd_seek_call, fd_tell_call, fd_write_call, file_with, left_at, moved_at, opening_check, origin_of, path_filestat_get_call, path_open_call, path_unlink_file_call, place_from, room_check, size_at, stat_check, wants_directory, with_opened, written_at}
use Rattle.vr_wasi_calls.specs.Checks.{Checked, refuse_if, or_fault}
use Rattle.vr_wasi_calls.specs.Descriptors.{as_file, base_check, base_of, body_of as file_body, directory_check, free_number, open_at, preopened_check, stream_at}
use Rattle.vr_wasi_calls.specs.Functions.{function_of}
use Rattle.vr_wasi_calls.specs.Paths.{path_in, range_check}
use Rattle.vr_wasi_calls.specs.Pieces.{bytes_in, pieces_of, size_of}
use Rattle.vr_wasi_calls.specs.Replies.{answered, call_of, replied, reply}
use Rattle.vr_wasi_calls.specs.Worlds.{World, descriptor_at, file_at, with_body, word_at}
use Rattle.vr_wasi_calls.specs.declared.descriptors.Descriptor.{Descriptor}
use Rattle.vr_wasi_calls.specs.declared.descriptors.Descriptor.TheVariants.{Input, Output, File}
use Rattle.vr_wasi_calls.specs.declared.errno.Errno.TheVariants.{Fbig, Inval, Mfile, Noent, Notcapable, Notsup}
use Rattle.vr_wasi_calls.specs.declared.functions.Function.{Function}
use Rattle.vr_wasi_calls.specs.declared.functions.Function.TheVariants.{FdRead, FdWrite, FdSeek, FdTell, FdClose, FdFdstatGet, FdFilestatGet, FdFilestatSetSize, FdPrestatGet, FdPrestatDirName, PathOpen, PathFilestatGet, PathUnlinkFile, ArgsSizesGet, ArgsGet, EnvironSizesGet, EnvironGet, SchedYield, ClockTimeGet, RandomGet, ProcExit}
use Rattle.vr_wasi_fs.specs.Chains.{Passes, passes, refused, after_value, after_test}
use Rattle.vr_files.specs.declared.pages.TheConstants.{MOST_BYTES}

-- the world is over the same files as before
abbrev pub SameBase : World → World → Type 0
SameBase old new = new.files.base ≡ old.files.base

module _ (w : World) where
  abbrev Based : Done → Type 0
  Based done = SameBase w done.world

  moved : (fd count : ℕ) (stream : Descriptor) → SameBase w (moved_at w fd stream count)
  moved fd count Input = refl
  moved fd count (File file) = refl
  moved fd count stream = refl

  filed : (fd start : ℕ) (stream : Descriptor) (bytes : List ℕ) → SameBase w (file_with w fd stream start bytes)
  filed fd start (File file) (b ∷ bytes) = refl
  filed fd start stream bytes = refl

  was_written : (fd : ℕ) (stream : Descriptor) (bytes : List ℕ) → SameBase w (written_at w fd stream bytes)
  was_written fd Output bytes = refl
  was_written fd (File file) bytes = filed fd _ (File file) bytes
  was_written fd stream bytes = refl

  was_opened : (path : List ℕ) (flags : ℕ) (body : Option (List ℕ)) → SameBase w (with_opened w path flags body)
  was_opened path flags None = refl
  was_opened path flags (Some body) = by_test (cuts flags)
    where
      by_test : (b : Bool) → SameBase w (if b then with_body w path [] else w)
      by_test true = refl
      by_test false = refl

  module _ (m : Contents) where
    read_based : (fd at count out : ℕ) → Passes Based (fd_read_call w m fd at count out)
    read_based fd at count out =
        after_value Based (stream_at w fd) _ (λ stream _.
        after_test Based (base_check stream fd_read) _ (λ _ _.
        after_value Based (pieces_of m at count) _ (λ pieces _.
        after_test Based (range_check m out 4) _ (λ _ _.
        after_value Based (left_at w stream) _ (λ left _. passes (moved fd (count_read left pieces) stream))))))

    write_based : (fd at count out : ℕ) → Passes Based (fd_write_call w m fd at count out)
    write_based fd at count out =
        after_value Based (stream_at w fd) _ (λ stream _.
        after_test Based (base_check stream fd_write) _ (λ _ _.
        after_value Based (pieces_of m at count) _ (λ pieces _.
        after_test Based (range_check m out 4) _ (λ _ _.
        after_test Based (room_check w stream (size_of pieces)) _ (λ _ _. passes (was_written fd stream (bytes_in m pieces)))))))

    seek_based : (fd offset whence out : ℕ) → Passes Based (fd_seek_call w m fd offset whence out)
    seek_based fd offset whence out =
        after_value Based (stream_at w fd) _ (λ stream _.
        after_test Based (base_check stream fd_seek) _ (λ _ _.
        after_test Based (refuse_if (nat_lt 2 whence) Inval) _ (λ _ _.
        after_test Based (range_check m out 8) _ (λ _ _.
        after_value Based (as_file stream) _ (λ file _.
        after_value Based (file_body w file) _ (λ body _.
        after_value Based (place_from (origin_of file body whence) offset) _ (λ place _. passes refl)))))))

    tell_based : (fd out : ℕ) → Passes Based (fd_tell_call w m fd out)
    tell_based fd out =
        after_value Based (stream_at w fd) _ (λ stream _.
        after_test Based (refuse_if (not (has_bit (base_of stream) fd_seek) && not (has_bit (base_of stream) fd_tell)) Notcapable) _ (λ _ _.
        after_test Based (range_check m out 8) _ (λ _ _.
        after_value Based (as_file stream) _ (λ file _. passes refl))))

    close_based : (fd : ℕ) → Passes Based (fd_close_call w m fd)
    close_based fd = after_test Based (open_at w fd) _ (λ _ _. passes refl)

    fdstat_based : (fd out : ℕ) → Passes Based (fd_fdstat_get_call w m fd out)
    fdstat_based fd out = after_value Based (open_at w fd) _ (λ descriptor _. after_test Based (range_check m out 24) _ (λ _ _. passes refl))

    filestat_based : (fd out : ℕ) → Passes Based (fd_filestat_get_call w m fd out)
    filestat_based fd out =
        after_value Based (open_at w fd) _ (λ descriptor _.
        after_test Based (stat_check descriptor) _ (λ _ _.
        after_test Based (range_check m out 64) _ (λ _ _.
        after_value Based (size_at w descriptor) _ (λ size _. passes refl))))

    set_size_based : (fd size : ℕ) → Passes Based (fd_filestat_set_size_call w m fd size)
    set_size_based fd size =
        after_value Based (as_file (descriptor_at w fd)) _ (λ file _.
        after_test Based (base_check (File file) fd_filestat_set_size) _ (λ _ _.
        after_test Based (refuse_if (nat_lt MOST_BYTES size) Fbig) _ (λ _ _.
        after_value Based (file_body w file) _ (λ body _. passes refl))))

    path_filestat_based : (fd at len out : ℕ) → Passes Based (path_filestat_get_call w m fd at len out)
    path_filestat_based fd at len out =
        after_test Based (directory_check w fd) _ (λ _ _.
        after_test Based (range_check m at len) _ (λ _ _.
        after_test Based (range_check m out 64) _ (λ _ _.
        after_value Based (path_in m at len) _ (λ path _.
        after_test Based (refuse_if (not (has_bit (word_at w path) path_filestat_get)) Notcapable) _ (λ _ _.
        after_value Based (or_fault Noent (file_at w path)) _ (λ body _. passes refl))))))

    unlink_based : (fd at len : ℕ) → Passes Based (path_unlink_file_call w m fd at len)
    unlink_based fd at len =
        after_test Based (directory_check w fd) _ (λ _ _.
        after_test Based (range_check m at len) _ (λ _ _.
        after_value Based (path_in m at len) _ (λ path _.
        after_test Based (refuse_if (not (has_bit (word_at w path) path_unlink_file)) Notcapable) _ (λ _ _.
        after_test Based (or_fault Noent (file_at w path)) _ (λ _ _. passes refl)))))

    open_based : (fd at len oflags asked fdflags out : ℕ) → Passes Based (path_open_call w m fd at len oflags asked fdflags out)
    open_based fd at len oflags asked fdflags out =
        after_test Based (directory_check w fd) _ (λ _ _.
        after_test Based (range_check m at len) _ (λ _ _.
        after_test Based (range_check m out 4) _ (λ _ _.
        after_value Based (path_in m at len) _ (λ path _.
        after_test Based (refuse_if (not (has_bit (word_at w path) path_open)) Notcapable) _ (λ _ _.
        after_test Based (refuse_if (nat_lt 15 oflags || nat_lt 31 fdflags) Inval) _ (λ _ _.
        after_test Based (refuse_if (wants_directory oflags) Notsup) _ (λ _ _.
        after_test Based (opening_check oflags (word_at w path) (file_at w path)) _ (λ _ _.
        after_value Based (or_fault Mfile (free_number w)) _ (λ number _. passes (was_opened path oflags (file_at w path)))))))))))

    prestat_based : (fd out : ℕ) → Passes Based (fd_prestat_get_call w m fd out)
    prestat_based fd out = after_test Based (preopened_check w fd) _ (λ _ _. after_test Based (range_check m out 8) _ (λ _ _. passes refl))

    dir_name_based : (fd at len : ℕ) → Passes Based (fd_prestat_dir_name_call w m fd at len)
    dir_name_based fd at len =
        after_test Based (preopened_check w fd) _ (λ _ _.
        after_test Based (refuse_if (len == 0) Inval) _ (λ _ _.
        after_test Based (range_check m at 1) _ (λ _ _. passes refl)))

    sizes_based : (count size : ℕ) → Passes Based (args_sizes_get_call w m count size)
    sizes_based count size = after_test Based (range_check m count 4) _ (λ _ _. after_test Based (range_check m size 4) _ (λ _ _. passes refl))

    no_sizes_based : (count size : ℕ) → Passes Based (environ_sizes_get_call w m count size)
    no_sizes_based count size = after_test Based (range_check m count 4) _ (λ _ _. after_test Based (range_check m size 4) _ (λ _ _. passes refl))

    args_based : (list text : ℕ) → Passes Based (args_get_call w m list text)
    args_based list text = after_test Based (range_check m list 4) _ (λ _ _. after_test Based (range_check m text (length (argument w))) _ (λ _ _. passes refl))

    call_based : (f : Function) (args : List ℕ) → Passes Based (call_of w m f args)
    call_based FdRead (fd ∷ at ∷ count ∷ out ∷ []) = read_based fd at count out
    call_based FdWrite (fd ∷ at ∷ count ∷ out ∷ []) = write_based fd at count out
    call_based FdSeek (fd ∷ offset ∷ whence ∷ out ∷ []) = seek_based fd offset whence out
    call_based FdTell (fd ∷ out ∷ []) = tell_based fd out
    call_based FdClose (fd ∷ []) = close_based fd
    call_based FdFdstatGet (fd ∷ out ∷ []) = fdstat_based fd out
    call_based FdFilestatGet (fd ∷ out ∷ []) = filestat_based fd out
    call_based FdFilestatSetSize (fd ∷ size ∷ []) = set_size_based fd size
    call_based FdPrestatGet (fd ∷ out ∷ []) = prestat_based fd out
    call_based FdPrestatDirName (fd ∷ at ∷ len ∷ []) = dir_name_based fd at len
    call_based PathOpen (fd ∷ dirflags ∷ at ∷ len ∷ oflags ∷ asked ∷ inheriting ∷ fdflags ∷ out ∷ []) = open_based fd at len oflags asked fdflags out
    call_based PathFilestatGet (fd ∷ flags ∷ at ∷ len ∷ out ∷ []) = path_filestat_based fd at len out
    call_based PathUnlinkFile (fd ∷ at ∷ len ∷ []) = unlink_based fd at len
    call_based ArgsSizesGet (count ∷ size ∷ []) = sizes_based count size
    call_based ArgsGet (list ∷ text ∷ []) = args_based list text
    call_based EnvironSizesGet (count ∷ size ∷ []) = no_sizes_based count size
    call_based EnvironGet (list ∷ text ∷ []) = passes refl
    call_based SchedYield [] = passes refl
    call_based ClockTimeGet (clock ∷ precision ∷ out ∷ []) = refused
    call_based RandomGet (at ∷ len ∷ []) = refused
    call_based f args = refused

    answer_based : (c : Checked Done) → Passes Based c → SameBase w (world_after (answered w m c))
    answer_based (Ok done) (passes h) = h
    answer_based (Err errno) refused = refl

    reply_based : (f : Function) (args : List ℕ) → SameBase w (world_after (replied w m f args))
    reply_based ProcExit (code ∷ []) = refl
    reply_based ProcExit args = refl
    reply_based f args = answer_based (call_of w m f args) (call_based f args)

replies_keep_base : (first : World) → RepliesKeep (SameBase first) reply
replies_keep_base first w h which args memory = reply_based w memory (function_of which) args ∙ h

-- a run leaves the files with which it began
pub base_kept : (first : World) → StayKept (SameBase first) reply
base_kept first = stays_kept (SameBase first) reply (replies_keep_base first)
