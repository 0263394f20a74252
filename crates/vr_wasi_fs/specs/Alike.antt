-- Calls in two worlds that agree have the same answer and memory, and leave worlds that agree.
use Rattle.std.proofs.Common.{◌≡◌, ℕ, ◌+◌, Bool, true, false, not, ◌||◌, ◌==◌, nat_lt, if◌then◌else◌, List, [], ◌∷◌, length, drop, Option, Some, None, Ok, Err, IsTrue, refl, ap, subst, sym, ◌∙◌}
use Rattle.std.specs.FinMap.{get}
use Rattle.std.specs.Option.{unwrap_or}
use Rattle.vr_base.specs.Rights.{has_bit, fd_filestat_set_size, fd_read, fd_seek, fd_write, path_filestat_get, path_open, path_unlink_file, word_on}
use Rattle.vr_files.specs.Bodies.{resized, written}
use Rattle.vr_files.specs.Changes.{Layers, with_file, without_file}
use Rattle.vr_files.specs.FileMaps.{FileMap, bytes_at}
use Rattle.vr_files.specs.declared.pages.TheConstants.{MOST_BYTES}
use Rattle.vr_wasm_num.specs.Memory.{Contents}
use Rattle.vr_wasi_calls.specs.Calls.{Done, after, argument, count_read, cuts, file_with, left_at, moved_at, opened_file, opening_check, origin_of, place_from, room_check, size_at, start_of, stat_check, tells_nothing, wants_directory, with_opened, written_at, args_get_call, args_sizes_get_call, environ_sizes_get_call, fd_close_call, fd_fdstat_get_call, fd_filestat_get_call, fd_filestat_set_size_call, fd_prestat_dir_name_call, fd_prestat_get_call, fd_read_call, fd_seek_call, fd_tell_call, fd_write_call, path_filestat_get_call, path_open_call, path_unlink_file_call}
use Rattle.vr_wasi_calls.specs.Checks.{Checked, refuse_if, or_fault, ◌>>=◌, ◌>>◌}
use Rattle.vr_wasi_calls.specs.Descriptors.{as_file, base_check, base_of, body_of as file_body, directory_check, free_number, open_at, is_open, preopened_check, stream_at}
use Rattle.vr_wasi_calls.specs.Paths.{path_in, range_check}
use Rattle.vr_wasi_calls.specs.Pieces.{bytes_in, pieces_of, size_of}
use Rattle.vr_wasi_calls.specs.Replies.{call_of}
use Rattle.vr_wasi_calls.specs.Worlds.{World, IsWorld, descriptor_at, file_at, with_body, with_descriptor, with_output, with_position, with_taken, without_body, word_at}
use Rattle.vr_wasi_calls.specs.declared.descriptors.Descriptor.{Descriptor}
use Rattle.vr_wasi_calls.specs.declared.descriptors.Descriptor.TheVariants.{Closed, Input, Output, Errors, Directory, File}
use Rattle.vr_wasi_calls.specs.declared.descriptors.OpenFile.{OpenFile}
use Rattle.vr_wasi_calls.specs.declared.errno.Errno.TheVariants.{Badf, Fbig, Inval, Mfile, Noent, Notcapable, Notsup}
use Rattle.vr_wasi_calls.specs.declared.functions.Function.{Function}
use Rattle.vr_wasi_calls.specs.declared.functions.Function.TheVariants.{FdRead, FdWrite, FdSeek, FdTell, FdClose, FdFdstatGet, FdFilestatGet, FdFilestatSetSize, FdPrestatGet, FdPrestatDirName, PathOpen, PathFilestatGet, PathUnlinkFile, ArgsSizesGet, ArgsGet, EnvironSizesGet, EnvironGet, SchedYield, ClockTimeGet, RandomGet}
use Rattle.vr_wasi_fs.specs.Agreement.{Agree, is_observing}
use Rattle.vr_wasi_fs.specs.Chains.{Same, both, neither, same_value, same_test, same_by, same_test_by, found}
use Rattle.vr_wasi_fs.specs.Files.{insert_same, remove_same, open_allowed, sees_facts, sees_opened, sees_removed}
use Rattle.vr_wasi_fs.specs.Leaving.{file_is, stream_is}

-- ---- worlds with other files

-- the world with other files
abbrev pub with_files : World → Layers → World
with_files w others = record w { files = others }

-- other files that are the same where the program can learn of them
pub record AgreeOn (grants : List (List ℕ × ℕ)) (files others : FileMap) : Type 0 where
  pub seen : (path : List ℕ) → IsTrue (is_observing (word_on path grants))
      → get others path ≡ get files path

-- such files make a world that agrees
pub agree_with : (w : World) (others : Layers) → AgreeOn w.grants w.files.files others.files
    → Agree w (with_files w others)
agree_with w others on = record {
  path = refl;
  grants = refl;
  input = refl;
  taken = refl;
  output = refl;
  descriptors = refl;
  files = on.seen;
}

on_body : (grants : List (List ℕ × ℕ)) (files others : Layers) (path body : List ℕ)
    → AgreeOn grants files.files others.files
    → AgreeOn grants (with_file files path body).files (with_file others path body).files
on_body grants files others path body on =
    record {
      seen = λ other sees. insert_same files.files others.files path body other
          (on.seen other sees);
    }

on_without : (grants : List (List ℕ × ℕ)) (files others : Layers) (path : List ℕ)
    → AgreeOn grants files.files others.files
    → AgreeOn grants (without_file files path).files (without_file others path).files
on_without grants files others path on =
    record {
      seen = λ other sees. remove_same files.files others.files path other
          (on.seen other sees);
    }

-- what two calls leave is the same to the program
pub record SameDone (d e : Done) : Type 0 where
  pub memory : d.memory ≡ e.memory
  pub world : Agree d.world e.world

-- the same memory, and worlds that differ in their files alone
pub ends_with : (w : World) (others : Layers) (m : Contents)
    → AgreeOn w.grants w.files.files others.files
    → Same SameDone (Ok (after w m)) (Ok (after (with_files w others) m))
ends_with w others m on = both (record { memory = refl; world = agree_with w others on })

module _ (w : World) (others : Layers) (is : IsWorld w)
    (on : AgreeOn w.grants w.files.files others.files) where
  -- ---- an open file is seen

  seen_open : (fd : ℕ) (file : OpenFile) → descriptor_at w fd ≡ File file
      → get others.files file.path ≡ get w.files.files file.path
  seen_open fd file at = on.seen file.path (sees_opened (word_at w file.path)
      (open_allowed w fd file is at).opened)

  same_body : (fd : ℕ) (file : OpenFile) → descriptor_at w fd ≡ File file
      → file_body (with_files w others) file ≡ file_body w file
  same_body fd file at = ap (or_fault Noent) (seen_open fd file at)

  same_bytes : (fd : ℕ) (file : OpenFile) → descriptor_at w fd ≡ File file
      → bytes_at others.files file.path ≡ bytes_at w.files.files file.path
  same_bytes fd file at = ap (λ (o : Option (List ℕ)). unwrap_or o []) (seen_open fd file at)

  -- ---- reading

  same_left : (fd : ℕ) (stream : Descriptor) → descriptor_at w fd ≡ stream
      → left_at (with_files w others) stream ≡ left_at w stream
  same_left fd Input at = refl
  same_left fd (File file) at =
      ap (λ (body : Checked (List ℕ)). body >>= λ bytes. Ok (drop file.position bytes))
      (same_body fd file at)
  same_left fd Closed at = refl
  same_left fd Output at = refl
  same_left fd Errors at = refl
  same_left fd Directory at = refl

  ends_moved : (m : Contents) (fd : ℕ) (stream : Descriptor) (count : ℕ)
      → Same SameDone (Ok (after (moved_at w fd stream count) m)) (Ok (after (moved_at
      (with_files w others) fd stream count) m))
  ends_moved m fd Input count = ends_with (with_taken w (w.taken + count)) others m on
  ends_moved m fd (File file) count = ends_with (with_position w fd file
      (file.position + count)) others m on
  ends_moved m fd Closed count = ends_with w others m on
  ends_moved m fd Output count = ends_with w others m on
  ends_moved m fd Errors count = ends_with w others m on
  ends_moved m fd Directory count = ends_with w others m on

  same_read : (m : Contents) (fd at count out : ℕ)
      → Same SameDone (fd_read_call w m fd at count out) (fd_read_call
      (with_files w others) m fd at count out)
  same_read m fd at count out =
      same_value SameDone (stream_at w fd) _ _ (λ stream stands.
      same_test SameDone (base_check stream fd_read) _ _ (λ _ may.
      same_value SameDone (pieces_of m at count) _ _ (λ pieces named.
      same_test SameDone (range_check m out 4) _ _ (λ _ fits.
      same_by SameDone (left_at w stream) (left_at (with_files w others) stream) _ _
      (same_left fd stream (stream_is w fd stream stands)) (λ left rest.
      ends_moved _ fd stream (count_read left pieces))))))

  -- ---- writing

  same_room : (fd : ℕ) (stream : Descriptor) (size : ℕ) → descriptor_at w fd ≡ stream
      → room_check (with_files w others) stream size ≡ room_check w stream size
  same_room fd (File file) size at =
      ap (λ (body : Checked (List ℕ)). body >>= λ bytes. refuse_if (nat_lt MOST_BYTES
      (start_of file bytes + size)) Fbig) (same_body fd file at)
  same_room fd Input size at = refl
  same_room fd Closed size at = refl
  same_room fd Output size at = refl
  same_room fd Errors size at = refl
  same_room fd Directory size at = refl

  ends_file : (m : Contents) (fd : ℕ) (file : OpenFile) (start : ℕ) (bytes body : List ℕ)
      → body ≡ bytes_at w.files.files file.path → bytes_at others.files file.path ≡ body
      → Same SameDone (Ok (after (file_with w fd (File file) start bytes) m)) (Ok (after (file_with
      (with_files w others) fd (File file) start bytes) m))
  ends_file m fd file start [] body here there = ends_with w others m on
  ends_file m fd file start (b ∷ bytes) body here there =
      let more : List ℕ = b ∷ bytes in
      let end : ℕ = start + length more in
      let Ends : List ℕ → List ℕ → Type 0 = λ mine theirs.
      Same SameDone (Ok (after (with_position (with_body w file.path
      (written mine start more)) fd file end) m))
      (Ok (after (with_position (with_body (with_files w others) file.path
      (written theirs start more)) fd file end) m)) in
      let alike : Ends body body = ends_with (with_position (with_body w file.path
      (written body start more)) fd file end)
      (with_file others file.path (written body start more)) m
      (on_body w.grants w.files others file.path (written body start more) on) in
      subst (λ mine. Ends mine (bytes_at others.files file.path)) here (subst
      (λ theirs. Ends body theirs) (sym there) alike)

  ends_written : (m : Contents) (fd : ℕ) (stream : Descriptor) (bytes : List ℕ)
      → descriptor_at w fd ≡ stream
      → Same SameDone (Ok (after (written_at w fd stream bytes) m)) (Ok (after (written_at
      (with_files w others) fd stream bytes) m))
  ends_written m fd Output bytes at = ends_with (with_output w bytes) others m on
  ends_written m fd (File file) bytes at =
      let mine : List ℕ = bytes_at w.files.files file.path in
      let Ends : List ℕ → Type 0 = λ theirs.
      Same SameDone (Ok (after (file_with w fd (File file) (start_of file mine) bytes) m))
      (Ok (after (file_with (with_files w others) fd (File file)
      (start_of file theirs) bytes) m)) in
      subst Ends (sym (same_bytes fd file at)) (ends_file m fd file
      (start_of file mine) bytes mine refl (same_bytes fd file at))
  ends_written m fd Closed bytes at = ends_with w others m on
  ends_written m fd Input bytes at = ends_with w others m on
  ends_written m fd Errors bytes at = ends_with w others m on
  ends_written m fd Directory bytes at = ends_with w others m on

  same_write : (m : Contents) (fd at count out : ℕ)
      → Same SameDone (fd_write_call w m fd at count out) (fd_write_call
      (with_files w others) m fd at count out)
  same_write m fd at count out =
      same_value SameDone (stream_at w fd) _ _ (λ stream stands.
      same_test SameDone (base_check stream fd_write) _ _ (λ _ may.
      same_value SameDone (pieces_of m at count) _ _ (λ pieces named.
      same_test SameDone (range_check m out 4) _ _ (λ _ fits.
      same_test_by SameDone (room_check w stream (size_of pieces)) (room_check
      (with_files w others) stream (size_of pieces)) _ _ (same_room fd stream (size_of pieces)
      (stream_is w fd stream stands)) (λ _ room.
      ends_written _ fd stream (bytes_in m pieces) (stream_is w fd stream stands))))))

  -- ---- positions and descriptors

  same_seek : (m : Contents) (fd offset whence out : ℕ)
      → Same SameDone (fd_seek_call w m fd offset whence out) (fd_seek_call
      (with_files w others) m fd offset whence out)
  same_seek m fd offset whence out =
      same_value SameDone (stream_at w fd) _ _ (λ stream stands.
      same_test SameDone (base_check stream fd_seek) _ _ (λ _ may.
      same_test SameDone (refuse_if (nat_lt 2 whence) Inval) _ _ (λ _ known.
      same_test SameDone (range_check m out 8) _ _ (λ _ fits.
      same_value SameDone (as_file stream) _ _ (λ file shown.
      same_by SameDone (file_body w file) (file_body (with_files w others) file) _ _
      (same_body fd file (stream_is w fd stream stands
      ∙ file_is stream file shown)) (λ body there.
      same_value SameDone (place_from (origin_of file body whence) offset) _ _ (λ place within.
      ends_with (with_position w fd file place) others _ on)))))))

  same_tell : (m : Contents) (fd out : ℕ)
      → Same SameDone (fd_tell_call w m fd out) (fd_tell_call (with_files w others) m fd out)
  same_tell m fd out =
      same_value SameDone (stream_at w fd) _ _ (λ stream stands.
      same_test SameDone (refuse_if (tells_nothing (base_of stream)) Notcapable) _ _ (λ _ may.
      same_test SameDone (range_check m out 8) _ _ (λ _ fits.
      same_value SameDone (as_file stream) _ _ (λ file shown.
      ends_with w others _ on))))

  same_close : (m : Contents) (fd : ℕ)
      → Same SameDone (fd_close_call w m fd) (fd_close_call (with_files w others) m fd)
  same_close m fd =
      same_test SameDone (open_at w fd) _ _ (λ d stands. ends_with
      (with_descriptor w fd Closed) others m on)

  same_fdstat : (m : Contents) (fd out : ℕ)
      → Same SameDone (fd_fdstat_get_call w m fd out) (fd_fdstat_get_call
      (with_files w others) m fd out)
  same_fdstat m fd out =
      same_value SameDone (open_at w fd) _ _ (λ d stands.
      same_test SameDone (range_check m out 24) _ _ (λ _ fits.
      ends_with w others _ on))

  -- ---- files

  stands_open : (fd : ℕ) (d : Descriptor) → open_at w fd ≡ Ok d → descriptor_at w fd ≡ d
  stands_open fd d h = by_test (not_open (descriptor_at w fd)) (descriptor_at w fd) h
    where
      not_open : Descriptor → Checked (Unit {0})
      not_open s = refuse_if (not (is_open s)) Badf

      by_test : (c : Checked (Unit {0})) (s : Descriptor) → c >> Ok s ≡ Ok d → s ≡ d
      by_test (Ok u) s h = cc
      by_test (Err errno) s h = absurd cc

  same_size_at : (fd : ℕ) (d : Descriptor) → descriptor_at w fd ≡ d
      → size_at (with_files w others) d ≡ size_at w d
  same_size_at fd (File file) at = ap (λ (body : Checked (List ℕ)). body >>= λ bytes. Ok
      (length bytes)) (same_body fd file at)
  same_size_at fd Input at = refl
  same_size_at fd Closed at = refl
  same_size_at fd Output at = refl
  same_size_at fd Errors at = refl
  same_size_at fd Directory at = refl

  same_filestat : (m : Contents) (fd out : ℕ)
      → Same SameDone (fd_filestat_get_call w m fd out) (fd_filestat_get_call
      (with_files w others) m fd out)
  same_filestat m fd out =
      same_value SameDone (open_at w fd) _ _ (λ d stands.
      same_test SameDone (stat_check d) _ _ (λ _ may.
      same_test SameDone (range_check m out 64) _ _ (λ _ fits.
      same_by SameDone (size_at w d) (size_at (with_files w others) d) _ _ (same_size_at fd d
      (stands_open fd d stands)) (λ size there.
      ends_with w others _ on))))

  same_set_size : (m : Contents) (fd size : ℕ)
      → Same SameDone (fd_filestat_set_size_call w m fd size) (fd_filestat_set_size_call
      (with_files w others) m fd size)
  same_set_size m fd size =
      same_value SameDone (as_file (descriptor_at w fd)) _ _ (λ file shown.
      same_test SameDone (base_check (File file) fd_filestat_set_size) _ _ (λ _ may.
      same_test SameDone (refuse_if (nat_lt MOST_BYTES size) Fbig) _ _ (λ _ few.
      same_by SameDone (file_body w file) (file_body (with_files w others) file) _ _
      (same_body fd file (file_is (descriptor_at w fd) file shown)) (λ body there.
      ends_with (with_body w file.path (resized body size)) (with_file others file.path
      (resized body size)) m
      (on_body w.grants w.files others file.path (resized body size) on)))))

  same_path_filestat : (m : Contents) (fd at len out : ℕ)
      → Same SameDone (path_filestat_get_call w m fd at len out) (path_filestat_get_call
      (with_files w others) m fd at len out)
  same_path_filestat m fd at len out =
      same_test SameDone (directory_check w fd) _ _ (λ _ directory.
      same_test SameDone (range_check m at len) _ _ (λ _ named.
      same_test SameDone (range_check m out 64) _ _ (λ _ fits.
      same_value SameDone (path_in m at len) _ _ (λ path spelled.
      same_test SameDone (refuse_if (not (has_bit
      (word_at w path) path_filestat_get)) Notcapable) _ _ (λ _ may.
      same_by SameDone (or_fault Noent (file_at w path)) (or_fault Noent (file_at
      (with_files w others) path)) _ _
      (ap (or_fault Noent) (on.seen path (sees_facts (word_at w path) (found (has_bit
      (word_at w path) path_filestat_get) Notcapable may)))) (λ body there.
      ends_with w others _ on))))))

  same_unlink : (m : Contents) (fd at len : ℕ)
      → Same SameDone (path_unlink_file_call w m fd at len) (path_unlink_file_call
      (with_files w others) m fd at len)
  same_unlink m fd at len =
      same_test SameDone (directory_check w fd) _ _ (λ _ directory.
      same_test SameDone (range_check m at len) _ _ (λ _ named.
      same_value SameDone (path_in m at len) _ _ (λ path spelled.
      same_test SameDone (refuse_if (not (has_bit
      (word_at w path) path_unlink_file)) Notcapable) _ _ (λ _ may.
      same_test_by SameDone (or_fault Noent (file_at w path)) (or_fault Noent (file_at
      (with_files w others) path)) _ _
      (ap (or_fault Noent) (on.seen path (sees_removed (word_at w path) (found (has_bit
      (word_at w path) path_unlink_file) Notcapable may)))) (λ body there.
      ends_with (without_body w path) (without_file others path) m
      (on_without w.grants w.files others path on))))))

  -- ---- opening

  ends_opened : (m : Contents) (path : List ℕ) (flags number : ℕ) (d : Descriptor) (body : Option
      (List ℕ)) → Same SameDone (Ok (after (with_descriptor
      (with_opened w path flags body) number d) m)) (Ok (after (with_descriptor (with_opened
      (with_files w others) path flags body) number d) m))
  ends_opened m path flags number d None =
      ends_with (with_descriptor (with_body w path []) number d) (with_file others path []) m
      (on_body w.grants w.files others path [] on)
  ends_opened m path flags number d (Some body) = by_cut (cuts flags)
    where
      by_cut : (cut : Bool)
          → Same SameDone (Ok (after (with_descriptor
          (if cut then with_body w path [] else w) number d) m)) (Ok (after (with_descriptor
          (if cut then with_body (with_files w others) path [] else with_files w others) number d)
          m))
      by_cut true = ends_with (with_descriptor (with_body w path []) number d)
          (with_file others path []) m (on_body w.grants w.files others path [] on)
      by_cut false = ends_with (with_descriptor w number d) others m on

  ends_opening : (m : Contents) (path : List ℕ) (flags number : ℕ) (d : Descriptor)
      → get others.files path ≡ get w.files.files path
      → Same SameDone (Ok (after (with_descriptor (with_opened w path flags
      (file_at w path)) number d) m)) (Ok (after (with_descriptor (with_opened
      (with_files w others) path flags (file_at (with_files w others) path)) number d) m))
  ends_opening m path flags number d seen =
      let Ends : Option (List ℕ) → Type 0 = λ theirs.
      Same SameDone (Ok (after (with_descriptor (with_opened w path flags
      (file_at w path)) number d) m))
      (Ok (after (with_descriptor (with_opened (with_files w others) path flags theirs) number
      d) m)) in
      subst Ends (sym seen) (ends_opened m path flags number d (file_at w path))

  same_open : (m : Contents) (fd at len oflags asked fdflags out : ℕ)
      → Same SameDone (path_open_call w m fd at len oflags asked fdflags out) (path_open_call
      (with_files w others) m fd at len oflags asked fdflags out)
  same_open m fd at len oflags asked fdflags out =
      same_test SameDone (directory_check w fd) _ _ (λ _ directory.
      same_test SameDone (range_check m at len) _ _ (λ _ named.
      same_test SameDone (range_check m out 4) _ _ (λ _ fits.
      same_value SameDone (path_in m at len) _ _ (λ path spelled.
      same_test SameDone (refuse_if (not (has_bit (word_at w path) path_open)) Notcapable) _ _
      (λ _ may.
      same_test SameDone (refuse_if (nat_lt 15 oflags || nat_lt 31 fdflags) Inval) _ _ (λ _ known.
      same_test SameDone (refuse_if (wants_directory oflags) Notsup) _ _ (λ _ plain.
      let seen : get others.files path ≡ get w.files.files path = on.seen path (sees_opened
      (word_at w path) (found (has_bit (word_at w path) path_open) Notcapable may)) in
      same_test_by SameDone (opening_check oflags (word_at w path) (file_at w path))
      (opening_check oflags (word_at w path) (file_at (with_files w others) path)) _ _
      (ap (opening_check oflags (word_at w path)) seen) (λ _ may_open.
      same_value SameDone (or_fault Mfile (free_number w)) _ _ (λ number free.
      ends_opening _ path oflags number (File (opened_file w path asked fdflags)) seen)))))))))

  -- ---- the directory and the arguments

  same_prestat : (m : Contents) (fd out : ℕ)
      → Same SameDone (fd_prestat_get_call w m fd out) (fd_prestat_get_call
      (with_files w others) m fd out)
  same_prestat m fd out =
      same_test SameDone (preopened_check w fd) _ _ (λ _ directory.
      same_test SameDone (range_check m out 8) _ _ (λ _ fits.
      ends_with w others _ on))

  same_dir_name : (m : Contents) (fd at len : ℕ)
      → Same SameDone (fd_prestat_dir_name_call w m fd at len) (fd_prestat_dir_name_call
      (with_files w others) m fd at len)
  same_dir_name m fd at len =
      same_test SameDone (preopened_check w fd) _ _ (λ _ directory.
      same_test SameDone (refuse_if (len == 0) Inval) _ _ (λ _ some.
      same_test SameDone (range_check m at 1) _ _ (λ _ fits.
      ends_with w others _ on)))

  same_args_sizes : (m : Contents) (count size : ℕ)
      → Same SameDone (args_sizes_get_call w m count size) (args_sizes_get_call
      (with_files w others) m count size)
  same_args_sizes m count size =
      same_test SameDone (range_check m count 4) _ _ (λ _ here.
      same_test SameDone (range_check m size 4) _ _ (λ _ there.
      ends_with w others _ on))

  same_args_get : (m : Contents) (list text : ℕ)
      → Same SameDone (args_get_call w m list text) (args_get_call
      (with_files w others) m list text)
  same_args_get m list text =
      same_test SameDone (range_check m list 4) _ _ (λ _ here.
      same_test SameDone (range_check m text (length (argument w))) _ _ (λ _ there.
      ends_with w others _ on))

  same_environ_sizes : (m : Contents) (count size : ℕ)
      → Same SameDone (environ_sizes_get_call w m count size) (environ_sizes_get_call
      (with_files w others) m count size)
  same_environ_sizes m count size =
      same_test SameDone (range_check m count 4) _ _ (λ _ here.
      same_test SameDone (range_check m size 4) _ _ (λ _ there.
      ends_with w others _ on))

  -- ---- each call

  -- each call is the same to the program in both worlds
  pub call_same : (m : Contents) (f : Function) (args : List ℕ)
      → Same SameDone (call_of w m f args) (call_of (with_files w others) m f args)
  call_same m FdRead (fd ∷ at ∷ count ∷ out ∷ []) = same_read m fd at count out
  call_same m FdWrite (fd ∷ at ∷ count ∷ out ∷ []) = same_write m fd at count out
  call_same m FdSeek (fd ∷ offset ∷ whence ∷ out ∷ []) = same_seek m fd offset whence out
  call_same m FdTell (fd ∷ out ∷ []) = same_tell m fd out
  call_same m FdClose (fd ∷ []) = same_close m fd
  call_same m FdFdstatGet (fd ∷ out ∷ []) = same_fdstat m fd out
  call_same m FdFilestatGet (fd ∷ out ∷ []) = same_filestat m fd out
  call_same m FdFilestatSetSize (fd ∷ size ∷ []) = same_set_size m fd size
  call_same m FdPrestatGet (fd ∷ out ∷ []) = same_prestat m fd out
  call_same m FdPrestatDirName (fd ∷ at ∷ len ∷ []) = same_dir_name m fd at len
  call_same m PathOpen (fd ∷ dirflags ∷ at ∷ len ∷ oflags ∷ asked ∷ inheriting ∷ fdflags ∷ out ∷ [])
      = same_open m fd at len oflags asked fdflags out
  call_same m PathFilestatGet (fd ∷ flags ∷ at ∷ len ∷ out ∷ []) = same_path_filestat m fd at len
      out
  call_same m PathUnlinkFile (fd ∷ at ∷ len ∷ []) = same_unlink m fd at len
  call_same m ArgsSizesGet (count ∷ size ∷ []) = same_args_sizes m count size
  call_same m ArgsGet (list ∷ text ∷ []) = same_args_get m list text
  call_same m EnvironSizesGet (count ∷ size ∷ []) = same_environ_sizes m count size
  call_same m EnvironGet (list ∷ text ∷ []) = ends_with w others m on
  call_same m SchedYield [] = ends_with w others m on
  call_same m ClockTimeGet (clock ∷ precision ∷ out ∷ []) = neither
  call_same m RandomGet (at ∷ len ∷ []) = neither
  call_same m f args = neither
