-- What a call leaves: a memory of the same size, and a world in which only files that the program
-- may change are others.
use Rattle.std.proofs.Common.{◌≡◌, ℕ, ◌+◌, ◌≤◌, Bool, true, false, not, ◌&&◌, ◌||◌, ◌==◌, nat_lt, nat_le, if◌then◌else◌, List, [], ◌∷◌, length, take, drop, Option, Some, None, Result, Ok, Err, IsTrue, bit_and, codes, refl, ap, subst, sym, ◌∙◌, arith}
use Rattle.std.proofs.lemmas.List.{length-take}
use Rattle.std.proofs.lemmas.List.Elements.{All-head, All-tail}
use Rattle.vr_base.specs.Checks.{result_map_err}
use Rattle.vr_base.specs.Rights.{has_bit, fd_filestat_set_size, fd_read, fd_seek, fd_write, path_create_file, path_filestat_get, path_filestat_set_size, path_open, path_unlink_file, word_on}
use Rattle.vr_files.specs.Bodies.{resized, written}
use Rattle.vr_files.specs.FileMaps.{bytes_at}
use Rattle.vr_files.specs.declared.pages.TheConstants.{MOST_BYTES}
use Rattle.vr_wasi_abi.specs.Iovecs.{has_buffer, reading}
use Rattle.vr_wasi_abi.specs.Layouts.{fdstat, filestat, prestat}
use Rattle.vr_wasi_abi.specs.declared.fault.AbiFault.{AbiFault}
use Rattle.vr_wasi_abi.specs.declared.iovecs.Iovec.{Iovec}
use Rattle.vr_wasi_abi.specs.declared.results.FdStat.{FdStat}
use Rattle.vr_wasm_num.specs.Memory.{Contents, bytes_of, is_within, with_piece}
use Rattle.vr_wasm_steps.specs.Hosts.{SameSize}
use Rattle.vr_wasi_calls.proofs.MemoryLemmas.{piece_keeps_size}
use Rattle.vr_wasi_calls.proofs.PieceLemmas.{read_there}
use Rattle.vr_wasi_calls.proofs.ReadLemmas.{part_within, there_in}
use Rattle.vr_wasi_calls.proofs.RightsLemmas.{opened_grants, opened_is_allowed}
use Rattle.vr_wasi_calls.proofs.WorldLemmas.{set_is_world}
use Rattle.vr_wasi_calls.specs.Calls.{Done, argument, count_read, creates, cuts, file_with, left_at, leaves, moved_at, opened_file, opening_check, origin_of, place_from, room_check, size_at, start_of, stat_check, tells_nothing, wants_directory, wants_new, with_number, with_opened, written_at, args_get_call, fd_close_call, fd_fdstat_get_call, fd_filestat_get_call, fd_filestat_set_size_call, fd_prestat_dir_name_call, fd_prestat_get_call, fd_read_call, fd_seek_call, fd_tell_call, fd_write_call, path_filestat_get_call, path_open_call, path_unlink_file_call}
use Rattle.vr_wasi_calls.specs.Checks.{Checked, refuse_if, or_fault, ◌>>=◌, ◌>>◌}
use Rattle.vr_wasi_calls.specs.Descriptors.{as_file, base_check, base_of, body_of as file_body, directory_check, file_rights, free_number, is_directory, is_open, open_at, preopened_check, regular_file, stat_of, stream_at, type_of}
use Rattle.vr_wasi_calls.specs.Paths.{path_in, range_check}
use Rattle.vr_wasi_calls.specs.Pieces.{AreThere, bytes_in, errno_of, pieces_of, size_of, spread}
use Rattle.vr_wasi_calls.specs.Replies.{call_of}
use Rattle.vr_wasi_calls.specs.Worlds.{World, IsWorld, IsAllowed, DescriptorFits, descriptor_at, file_at, with_body, with_descriptor, with_position, without_body, word_at}
use Rattle.vr_wasi_calls.specs.declared.descriptors.Descriptor.{Descriptor}
use Rattle.vr_wasi_calls.specs.declared.descriptors.Descriptor.TheVariants.{Closed, Input, Output, Errors, Directory, File}
use Rattle.vr_wasi_calls.specs.declared.descriptors.OpenFile.{OpenFile}
use Rattle.vr_wasi_calls.specs.declared.errno.Errno.TheVariants.{Badf, Exist, Fault, Fbig, Inval, Mfile, Noent, Notcapable, Notsup}
use Rattle.vr_wasi_calls.specs.declared.functions.Function.{Function}
use Rattle.vr_wasi_calls.specs.declared.functions.Function.TheVariants.{FdRead, FdWrite, FdSeek, FdTell, FdClose, FdFdstatGet, FdFilestatGet, FdFilestatSetSize, FdPrestatGet, FdPrestatDirName, PathOpen, PathFilestatGet, PathUnlinkFile, ArgsSizesGet, ArgsGet, EnvironSizesGet, EnvironGet, SchedYield, ClockTimeGet, RandomGet}
use Rattle.vr_wasi_fs.specs.Agreement.{Keeps, is_modifying}
use Rattle.vr_wasi_fs.specs.Chains.{Passes, passes, refused, after_value, after_test, found}
use Rattle.vr_wasi_fs.specs.Files.{insert_leaves, remove_leaves, may_cut, may_make, may_remove, may_size, may_write, open_allowed}

-- what a call leaves of the memory and of the world
pub record Leaves (w : World) (m : Contents) (done : Done) : Type 0 where
  pub memory : SameSize m done.memory
  pub world : Keeps w done.world

-- ---- the memory

-- a memory has its own size
pub same_size : (m : Contents) → SameSize m m
same_size m = record { size = refl; most = refl }

-- a piece that is written where there is room for it
pub size_with : (m n : Contents) (at : ℕ) (piece : List ℕ) → SameSize m n
    → IsTrue (is_within m.bytes at (length piece)) → SameSize m (with_piece n at piece)
size_with m n at piece same is =
    let Within : ℕ → Type 0 = λ size. IsTrue (if length piece == 0 then true else nat_le
    (at + length piece) size) in
    record {
      size = piece_keeps_size n at piece (subst Within (sym same.size) is) ∙ same.size;
      most = same.most;
    }

-- a range that passes its check is within the memory
pub checked_range : (m : Contents) (at len : ℕ) → range_check m at len ≡ Ok tt
    → IsTrue (is_within m.bytes at len)
checked_range m at len h = found (is_within m.bytes at len) Fault h

fdstat_sized : (s : FdStat) → length (fdstat s) ≡ 24
unfolding fdstat
fdstat_sized s = refl

filestat_sized : (sort size : ℕ) → length (filestat sort size) ≡ 64
unfolding filestat
filestat_sized sort size = refl

prestat_sized : (len : ℕ) → length (prestat len) ≡ 8
unfolding prestat
prestat_sized len = refl

-- a layout that is written where there is room for it
laid : (m : Contents) (at len : ℕ) (piece : List ℕ) → length piece ≡ len
    → range_check m at len ≡ Ok tt → SameSize m (with_piece m at piece)
laid m at len piece sized h =
    let Fits : ℕ → Type 0 = λ n. IsTrue (is_within m.bytes at n) in
    size_with m m at piece (same_size m) (subst Fits (sym sized) (checked_range m at len h))

-- bytes that are spread over pieces within the memory
spread_same : (m : Contents) (pieces : List Iovec) (bytes : List ℕ) → AreThere m pieces
    → SameSize m (spread m pieces bytes)
spread_same m [] bytes there = same_size m
spread_same m (piece ∷ pieces) bytes there =
    let front : List ℕ = take piece.length bytes in
    let n : Contents = with_piece m piece.pointer front in
    let few : length front ≤ piece.length = simp length-take (omega arith) in
    let first : IsTrue (is_within m.bytes piece.pointer piece.length) = All-head
    (λ p. has_buffer m.bytes p ≡ true) piece pieces there in
    let here : SameSize m n = size_with m m piece.pointer front (same_size m)
    (part_within m piece.pointer piece.length (length front) first few) in
    let others : AreThere n pieces = there_in m n pieces here.size (All-tail
    (λ p. has_buffer m.bytes p ≡ true) piece pieces there) in
    let rest : SameSize n (spread n pieces (drop piece.length bytes)) = spread_same n pieces
    (drop piece.length bytes) others in
    record { size = rest.size ∙ here.size; most = rest.most ∙ here.most }

-- pieces that are named are within the memory
pieces_there : (m : Contents) (at count : ℕ) (pieces : List Iovec)
    → pieces_of m at count ≡ Ok pieces → AreThere m pieces
pieces_there m at count pieces named = read_there m.bytes at count pieces (was_read
    (reading m.bytes at count) named)
  where
    was_read : (r : Result (List Iovec) AbiFault) → result_map_err errno_of r ≡ Ok pieces
        → r ≡ Ok pieces
    was_read (Ok ps) h = cc
    was_read (Err refusal) h = absurd cc

-- ---- the world

-- nothing is changed
pub keeps_all : (w : World) → Keeps w w
keeps_all w = record {
  grants = refl;
  fits = λ is. is;
  changes = λ is. record {
    files = λ path
        fixed. refl;
  };
}

-- something else stands at a descriptor, which is allowed
keeps_descriptor : (w : World) (fd : ℕ) (d : Descriptor) → (IsWorld w → DescriptorFits w.grants d)
    → Keeps w (with_descriptor w fd d)
keeps_descriptor w fd d fits = record {
  grants = refl;
  fits = λ is. set_is_world w fd d is (fits is);
  changes = λ is. record { files = λ path fixed. refl };
}

-- a file is made or replaced, or taken out, which the program may do
keeps_body : (w : World) (path body : List ℕ) → (IsWorld w → IsTrue (is_modifying (word_at w path)))
    → Keeps w (with_body w path body)
keeps_body w path body may = record {
  grants = refl;
  fits = λ is. record { all = is.all; allowed = is.allowed };
  changes = λ is. record {
    files = λ other fixed. insert_leaves (λ p. is_modifying
        (word_at w p)) w.files.files path body other (may is) fixed;
  };
}

keeps_without : (w : World) (path : List ℕ) → (IsWorld w → IsTrue (is_modifying (word_at w path)))
    → Keeps w (without_body w path)
keeps_without w path may = record {
  grants = refl;
  fits = λ is. record { all = is.all; allowed = is.allowed };
  changes = λ is. record {
    files = λ other fixed. remove_leaves (λ p. is_modifying (word_at w p)) w.files.files path other
        (may is) fixed;
  };
}

-- one change after another
pub keeps_then : (u v w : World) → Keeps u v → Keeps v w → Keeps u w
keeps_then u v w first second = record {
  grants = second.grants ∙ first.grants;
  fits = λ is. second.fits (first.fits is);
  changes = λ is. record {
    files = λ path fixed.
        let word : is_modifying (word_at v path) ≡ false = ap (λ grants. is_modifying
        (word_on path grants)) first.grants ∙ fixed in
        (second.changes (first.fits is)).files path word ∙ (first.changes is).files path fixed;
  };
}

-- ---- descriptors that pass their checks

-- what was found at a descriptor stands there
pub stream_is : (w : World) (fd : ℕ) (d : Descriptor) → stream_at w fd ≡ Ok d
    → descriptor_at w fd ≡ d
stream_is w fd d h = by_kind (descriptor_at w fd) h
  where
    by_kind : (s : Descriptor)
        → ((refuse_if (not (is_open s)) Badf >> Ok s) >>= λ o. (refuse_if
        (is_directory o) Badf >> Ok o)) ≡ Ok d → s ≡ d
    by_kind Closed h = absurd cc
    by_kind Directory h = absurd cc
    by_kind Input h = cc
    by_kind Output h = cc
    by_kind Errors h = cc
    by_kind (File file) h = cc

pub file_is : (d : Descriptor) (file : OpenFile) → as_file d ≡ Ok file → d ≡ File file
file_is (File other) file h = cc
file_is Closed file h = absurd cc
file_is Input file h = absurd cc
file_is Output file h = absurd cc
file_is Errors file h = absurd cc
file_is Directory file h = absurd cc

-- a right that was checked is there
pub based : (d : Descriptor) (bit : ℕ) → base_check d bit ≡ Ok tt → IsTrue (has_bit (base_of d) bit)
based d bit h = found (has_bit (base_of d) bit) Notcapable h

-- ---- what descriptors change

keeps_position : (w : World) (fd : ℕ) (file : OpenFile) (position : ℕ)
    → descriptor_at w fd ≡ File file → Keeps w (with_position w fd file position)
keeps_position w fd file position at =
    keeps_descriptor w fd (File (record file { position = position }))
    (λ is. open_allowed w fd file is at)

keeps_moved : (w : World) (fd : ℕ) (stream : Descriptor) (count : ℕ) → descriptor_at w fd ≡ stream
    → Keeps w (moved_at w fd stream count)
keeps_moved w fd Input count at = record {
  grants = refl;
  fits = λ is. record { all = is.all; allowed = is.allowed };
  changes = λ is. record { files = λ path fixed. refl };
}
keeps_moved w fd (File file) count at = keeps_position w fd file (file.position + count) at
keeps_moved w fd Closed count at = keeps_all w
keeps_moved w fd Output count at = keeps_all w
keeps_moved w fd Errors count at = keeps_all w
keeps_moved w fd Directory count at = keeps_all w

keeps_file : (w : World) (fd : ℕ) (file : OpenFile) (start : ℕ) (bytes : List ℕ)
    → descriptor_at w fd ≡ File file → IsTrue (has_bit file.base fd_write)
    → Keeps w (file_with w fd (File file) start bytes)
keeps_file w fd file start [] at has = keeps_all w
keeps_file w fd file start (b ∷ bytes) at has =
    let v : World = with_body w file.path (written (bytes_at w.files.files file.path) start
    (b ∷ bytes)) in
    let next : OpenFile = record file { position = start + length (b ∷ bytes) } in
    keeps_then w v (with_descriptor v fd (File next))
    (keeps_body w file.path (written (bytes_at w.files.files file.path) start (b ∷ bytes))
    (λ is. may_write (word_at w file.path) (open_allowed w fd file is at).opened
    ((open_allowed w fd file is at).bounded fd_write has)))
    (keeps_descriptor v fd (File next) (λ is. open_allowed w fd file
    (record { all = is.all; allowed = is.allowed }) at))

keeps_written : (w : World) (fd : ℕ) (stream : Descriptor) (bytes : List ℕ)
    → descriptor_at w fd ≡ stream → IsTrue (has_bit (base_of stream) fd_write)
    → Keeps w (written_at w fd stream bytes)
keeps_written w fd Output bytes at has = record {
  grants = refl;
  fits = λ is. record { all = is.all; allowed = is.allowed };
  changes = λ is. record { files = λ path fixed. refl };
}
keeps_written w fd (File file) bytes at has = keeps_file w fd file (start_of file
    (bytes_at w.files.files file.path)) bytes at has
keeps_written w fd Closed bytes at has = keeps_all w
keeps_written w fd Input bytes at has = keeps_all w
keeps_written w fd Errors bytes at has = keeps_all w
keeps_written w fd Directory bytes at has = keeps_all w

-- ---- openings

second_passes : (a b : Checked (Unit {0})) → a >> b ≡ Ok tt → b ≡ Ok tt
second_passes (Ok x) b h = h
second_passes (Err errno) b h = absurd cc

keeps_opened : (w : World) (path : List ℕ) (flags : ℕ) (body : Option (List ℕ))
    → IsTrue (has_bit (word_at w path) path_open)
    → opening_check flags (word_at w path) body ≡ Ok tt → Keeps w (with_opened w path flags body)
keeps_opened w path flags None opens h =
    let may : IsTrue (has_bit (word_at w path) path_create_file) =
    found (has_bit (word_at w path) path_create_file) Notcapable (second_passes (refuse_if (not
    (creates flags)) Noent) (refuse_if (not (has_bit
    (word_at w path) path_create_file)) Notcapable) h) in
    keeps_body w path [] (λ is. may_make (word_at w path) opens may)
keeps_opened w path flags (Some body) opens h =
    by_cut (cuts flags) (has_bit (word_at w path) path_filestat_set_size)
    (second_passes (refuse_if (creates flags && wants_new flags) Exist) (refuse_if
    (cuts flags && not (has_bit (word_at w path) path_filestat_set_size)) Notcapable) h)
    (λ may. may_cut (word_at w path) opens may)
  where
    by_cut : (cut may : Bool) → refuse_if (cut && not may) Notcapable ≡ Ok tt → (may ≡ true
        → IsTrue (is_modifying (word_at w path))) → Keeps w (if cut then with_body w path [] else w)
    by_cut false may h modifies = keeps_all w
    by_cut true true h modifies = keeps_body w path [] (λ is. modifies refl)
    by_cut true false h modifies = absurd cc

keeps_opening : (w : World) (path : List ℕ) (flags asked fdflags number : ℕ)
    → IsTrue (has_bit (word_at w path) path_open)
    → opening_check flags (word_at w path) (file_at w path) ≡ Ok tt
    → Keeps w (with_descriptor (with_opened w path flags (file_at w path)) number (File
    (opened_file w path asked fdflags)))
keeps_opening w path flags asked fdflags number opens h =
    let v : World = with_opened w path flags (file_at w path) in
    let Allowed : List (List ℕ × ℕ)
    → Type 0 = λ grants. IsAllowed (word_on path grants) (bit_and asked (bit_and
    (word_at w path) file_rights)) in
    let allowed : Allowed v.grants = subst Allowed (sym (opened_grants w path flags
    (file_at w path))) (opened_is_allowed (word_at w path) asked opens) in
    keeps_then w v (with_descriptor v number (File (opened_file w path asked fdflags)))
    (keeps_opened w path flags (file_at w path) opens h)
    (keeps_descriptor v number (File (opened_file w path asked fdflags)) (λ is. allowed))

-- ---- the calls

read_leaves : (w : World) (m : Contents) (fd at count out : ℕ)
    → Passes (Leaves w m) (fd_read_call w m fd at count out)
read_leaves w m fd at count out =
    after_value (Leaves w m) (stream_at w fd) _ (λ stream stands.
    after_test (Leaves w m) (base_check stream fd_read) _ (λ _ may.
    after_value (Leaves w m) (pieces_of m at count) _ (λ pieces named.
    after_test (Leaves w m) (range_check m out 4) _ (λ _ fits.
    after_value (Leaves w m) (left_at w stream) _ (λ left rest. passes (record {
      memory = size_with m (spread m pieces left) out (bytes_of 4 (count_read left pieces))
          (spread_same m pieces left (pieces_there m at count pieces named))
          (checked_range m out 4 fits);
      world = keeps_moved w fd stream (count_read left pieces) (stream_is w fd stream stands);
    }))))))

write_leaves : (w : World) (m : Contents) (fd at count out : ℕ)
    → Passes (Leaves w m) (fd_write_call w m fd at count out)
write_leaves w m fd at count out =
    after_value (Leaves w m) (stream_at w fd) _ (λ stream stands.
    after_test (Leaves w m) (base_check stream fd_write) _ (λ _ may.
    after_value (Leaves w m) (pieces_of m at count) _ (λ pieces named.
    after_test (Leaves w m) (range_check m out 4) _ (λ _ fits.
    after_test (Leaves w m) (room_check w stream (size_of pieces)) _ (λ _ room. passes (record {
      memory = laid m out 4 (bytes_of 4 (size_of pieces)) refl fits;
      world = keeps_written w fd stream (bytes_in m pieces) (stream_is w fd stream stands)
          (based stream fd_write may);
    }))))))

seek_leaves : (w : World) (m : Contents) (fd offset whence out : ℕ)
    → Passes (Leaves w m) (fd_seek_call w m fd offset whence out)
seek_leaves w m fd offset whence out =
    after_value (Leaves w m) (stream_at w fd) _ (λ stream stands.
    after_test (Leaves w m) (base_check stream fd_seek) _ (λ _ may.
    after_test (Leaves w m) (refuse_if (nat_lt 2 whence) Inval) _ (λ _ known.
    after_test (Leaves w m) (range_check m out 8) _ (λ _ fits.
    after_value (Leaves w m) (as_file stream) _ (λ file is.
    after_value (Leaves w m) (file_body w file) _ (λ body there.
    after_value (Leaves w m) (place_from (origin_of file body whence) offset) _
    (λ place within. passes (record {
      memory = laid m out 8 (bytes_of 8 place) refl fits;
      world = keeps_position w fd file place (stream_is w fd stream stands
          ∙ file_is stream file is);
    }))))))))

tell_leaves : (w : World) (m : Contents) (fd out : ℕ)
    → Passes (Leaves w m) (fd_tell_call w m fd out)
tell_leaves w m fd out =
    after_value (Leaves w m) (stream_at w fd) _ (λ stream stands.
    after_test (Leaves w m) (refuse_if (tells_nothing (base_of stream)) Notcapable) _ (λ _ may.
    after_test (Leaves w m) (range_check m out 8) _ (λ _ fits.
    after_value (Leaves w m) (as_file stream) _ (λ file is. passes (record {
      memory = laid m out 8 (bytes_of 8 file.position) refl fits;
      world = keeps_all w;
    })))))

close_leaves : (w : World) (m : Contents) (fd : ℕ) → Passes (Leaves w m) (fd_close_call w m fd)
close_leaves w m fd =
    after_test (Leaves w m) (open_at w fd) _ (λ d stands. passes (record {
      memory = same_size m;
      world = keeps_descriptor w fd Closed (λ is. tt);
    }))

fdstat_leaves : (w : World) (m : Contents) (fd out : ℕ)
    → Passes (Leaves w m) (fd_fdstat_get_call w m fd out)
fdstat_leaves w m fd out =
    after_value (Leaves w m) (open_at w fd) _ (λ d stands.
    after_test (Leaves w m) (range_check m out 24) _ (λ _ fits. passes (record {
      memory = laid m out 24 (fdstat (stat_of d)) (fdstat_sized (stat_of d)) fits;
      world = keeps_all w;
    })))

filestat_leaves : (w : World) (m : Contents) (fd out : ℕ)
    → Passes (Leaves w m) (fd_filestat_get_call w m fd out)
filestat_leaves w m fd out =
    after_value (Leaves w m) (open_at w fd) _ (λ d stands.
    after_test (Leaves w m) (stat_check d) _ (λ _ may.
    after_test (Leaves w m) (range_check m out 64) _ (λ _ fits.
    after_value (Leaves w m) (size_at w d) _ (λ size there. passes (record {
      memory = laid m out 64 (filestat (type_of d) size) (filestat_sized (type_of d) size) fits;
      world = keeps_all w;
    })))))

set_size_leaves : (w : World) (m : Contents) (fd size : ℕ)
    → Passes (Leaves w m) (fd_filestat_set_size_call w m fd size)
set_size_leaves w m fd size =
    after_value (Leaves w m) (as_file (descriptor_at w fd)) _ (λ file is.
    after_test (Leaves w m) (base_check (File file) fd_filestat_set_size) _ (λ _ may.
    after_test (Leaves w m) (refuse_if (nat_lt MOST_BYTES size) Fbig) _ (λ _ few.
    after_value (Leaves w m) (file_body w file) _ (λ body there.
    let at : descriptor_at w fd ≡ File file = file_is (descriptor_at w fd) file is in
    passes (record {
      memory = same_size m;
      world = keeps_body w file.path (resized body size) (λ ok. may_size (word_at w file.path)
          (open_allowed w fd file ok at).opened
          ((open_allowed w fd file ok at).bounded fd_filestat_set_size (based
          (File file) fd_filestat_set_size may)));
    })))))

path_filestat_leaves : (w : World) (m : Contents) (fd at len out : ℕ)
    → Passes (Leaves w m) (path_filestat_get_call w m fd at len out)
path_filestat_leaves w m fd at len out =
    after_test (Leaves w m) (directory_check w fd) _ (λ _ directory.
    after_test (Leaves w m) (range_check m at len) _ (λ _ named.
    after_test (Leaves w m) (range_check m out 64) _ (λ _ fits.
    after_value (Leaves w m) (path_in m at len) _ (λ path spelled.
    after_test (Leaves w m) (refuse_if (not (has_bit
    (word_at w path) path_filestat_get)) Notcapable) _ (λ _ may.
    after_value (Leaves w m) (or_fault Noent (file_at w path)) _ (λ body there. passes (record {
      memory = laid m out 64 (filestat regular_file (length body)) (filestat_sized regular_file
          (length body)) fits;
      world = keeps_all w;
    })))))))

unlink_leaves : (w : World) (m : Contents) (fd at len : ℕ)
    → Passes (Leaves w m) (path_unlink_file_call w m fd at len)
unlink_leaves w m fd at len =
    after_test (Leaves w m) (directory_check w fd) _ (λ _ directory.
    after_test (Leaves w m) (range_check m at len) _ (λ _ named.
    after_value (Leaves w m) (path_in m at len) _ (λ path spelled.
    after_test (Leaves w m) (refuse_if (not (has_bit
    (word_at w path) path_unlink_file)) Notcapable) _ (λ _ may.
    after_test (Leaves w m) (or_fault Noent (file_at w path)) _ (λ body there. passes (record {
      memory = same_size m;
      world = keeps_without w path (λ is. may_remove (word_at w path) (found (has_bit
          (word_at w path) path_unlink_file) Notcapable may));
    }))))))

open_leaves : (w : World) (m : Contents) (fd at len oflags asked fdflags out : ℕ)
    → Passes (Leaves w m) (path_open_call w m fd at len oflags asked fdflags out)
open_leaves w m fd at len oflags asked fdflags out =
    after_test (Leaves w m) (directory_check w fd) _ (λ _ directory.
    after_test (Leaves w m) (range_check m at len) _ (λ _ named.
    after_test (Leaves w m) (range_check m out 4) _ (λ _ fits.
    after_value (Leaves w m) (path_in m at len) _ (λ path spelled.
    after_test (Leaves w m) (refuse_if (not (has_bit (word_at w path) path_open)) Notcapable) _
    (λ _ may.
    after_test (Leaves w m) (refuse_if (nat_lt 15 oflags || nat_lt 31 fdflags) Inval) _ (λ _ known.
    after_test (Leaves w m) (refuse_if (wants_directory oflags) Notsup) _ (λ _ plain.
    after_test (Leaves w m) (opening_check oflags (word_at w path) (file_at w path)) _
    (λ _ may_open.
    after_value (Leaves w m) (or_fault Mfile (free_number w)) _ (λ number free. passes (record {
      memory = laid m out 4 (bytes_of 4 number) refl fits;
      world = keeps_opening w path oflags asked fdflags number (found (has_bit
          (word_at w path) path_open) Notcapable may) may_open;
    }))))))))))

prestat_leaves : (w : World) (m : Contents) (fd out : ℕ)
    → Passes (Leaves w m) (fd_prestat_get_call w m fd out)
prestat_leaves w m fd out =
    after_test (Leaves w m) (preopened_check w fd) _ (λ _ directory.
    after_test (Leaves w m) (range_check m out 8) _ (λ _ fits. passes (record {
      memory = laid m out 8 (prestat 1) (prestat_sized 1) fits;
      world = keeps_all w;
    })))

dir_name_leaves : (w : World) (m : Contents) (fd at len : ℕ)
    → Passes (Leaves w m) (fd_prestat_dir_name_call w m fd at len)
dir_name_leaves w m fd at len =
    after_test (Leaves w m) (preopened_check w fd) _ (λ _ directory.
    after_test (Leaves w m) (refuse_if (len == 0) Inval) _ (λ _ some.
    after_test (Leaves w m) (range_check m at 1) _ (λ _ fits. passes (record {
      memory = laid m at 1 (codes "/") refl fits;
      world = keeps_all w;
    }))))

-- two numbers of four bytes, one after the other
two_numbers : (w : World) (m : Contents) (first second one two : ℕ)
    → Passes (Leaves w m) (range_check m first 4 >> (range_check m second 4 >> leaves w (with_number
    (with_number m first 4 one) second 4 two)))
two_numbers w m first second one two =
    after_test (Leaves w m) (range_check m first 4) _ (λ _ here.
    after_test (Leaves w m) (range_check m second 4) _ (λ _ there. passes (record {
      memory = size_with m (with_number m first 4 one) second (bytes_of 4 two) (laid m first 4
          (bytes_of 4 one) refl here) (checked_range m second 4 there);
      world = keeps_all w;
    })))

args_get_leaves : (w : World) (m : Contents) (list text : ℕ)
    → Passes (Leaves w m) (args_get_call w m list text)
args_get_leaves w m list text =
    after_test (Leaves w m) (range_check m list 4) _ (λ _ here.
    after_test (Leaves w m) (range_check m text (length (argument w))) _ (λ _ there. passes
    (record {
      memory = size_with m (with_number m list 4 text) text (argument w) (laid m list 4
          (bytes_of 4 text) refl here) (checked_range m text (length (argument w)) there);
      world = keeps_all w;
    })))

-- each call leaves a memory of the same size, and no other changes than the program may make
pub call_leaves : (w : World) (m : Contents) (f : Function) (args : List ℕ)
    → Passes (Leaves w m) (call_of w m f args)
call_leaves w m FdRead (fd ∷ at ∷ count ∷ out ∷ []) = read_leaves w m fd at count out
call_leaves w m FdWrite (fd ∷ at ∷ count ∷ out ∷ []) = write_leaves w m fd at count out
call_leaves w m FdSeek (fd ∷ offset ∷ whence ∷ out ∷ []) = seek_leaves w m fd offset whence out
call_leaves w m FdTell (fd ∷ out ∷ []) = tell_leaves w m fd out
call_leaves w m FdClose (fd ∷ []) = close_leaves w m fd
call_leaves w m FdFdstatGet (fd ∷ out ∷ []) = fdstat_leaves w m fd out
call_leaves w m FdFilestatGet (fd ∷ out ∷ []) = filestat_leaves w m fd out
call_leaves w m FdFilestatSetSize (fd ∷ size ∷ []) = set_size_leaves w m fd size
call_leaves w m FdPrestatGet (fd ∷ out ∷ []) = prestat_leaves w m fd out
call_leaves w m FdPrestatDirName (fd ∷ at ∷ len ∷ []) = dir_name_leaves w m fd at len
call_leaves w m PathOpen (fd ∷ dirflags ∷ at ∷ len ∷ oflags ∷ asked ∷ inheriting ∷ fdflags ∷ out ∷
    []) = open_leaves w m fd at len oflags asked fdflags out
call_leaves w m PathFilestatGet (fd ∷ flags ∷ at ∷ len ∷ out ∷ []) = path_filestat_leaves w m fd at
    len out
call_leaves w m PathUnlinkFile (fd ∷ at ∷ len ∷ []) = unlink_leaves w m fd at len
call_leaves w m ArgsSizesGet (count ∷ size ∷ []) = two_numbers w m count size 1 (length
    (argument w))
call_leaves w m ArgsGet (list ∷ text ∷ []) = args_get_leaves w m list text
call_leaves w m EnvironSizesGet (count ∷ size ∷ []) = two_numbers w m count size 0 0
call_leaves w m EnvironGet (list ∷ text ∷ []) = passes
    (record { memory = same_size m; world = keeps_all w })
call_leaves w m SchedYield [] = passes (record { memory = same_size m; world = keeps_all w })
call_leaves w m ClockTimeGet (clock ∷ precision ∷ out ∷ []) = refused
call_leaves w m RandomGet (at ∷ len ∷ []) = refused
call_leaves w m f args = refused
