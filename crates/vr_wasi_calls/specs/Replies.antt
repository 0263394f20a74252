-- What the runtime replies to a call of a program.
use Rattle.std.specs.Prelude.{ℕ, List, [], ◌∷◌, Ok, Err}
use Rattle.vr_wasm_num.specs.Memory.{Contents}
use Rattle.vr_wasm_steps.specs.Hosts.{Reply, gives_value, gives_nothing, exits}
use Rattle.vr_wasi_calls.specs.Calls.{Done, leaves, args_get_call, args_sizes_get_call, environ_sizes_get_call, fd_close_call, fd_fdstat_get_call, fd_filestat_get_call, fd_filestat_set_size_call, fd_prestat_dir_name_call, fd_prestat_get_call, fd_read_call, fd_seek_call, fd_tell_call, fd_write_call, path_filestat_get_call, path_open_call, path_unlink_file_call}
use Rattle.vr_wasi_calls.specs.Checks.{Checked}
use Rattle.vr_wasi_calls.specs.Errnos.{number, success}
use Rattle.vr_wasi_calls.specs.declared.errno.Errno.TheVariants.{Inval, Nosys, Notsup}
use Rattle.vr_wasi_calls.specs.Functions.{function_of}
use Rattle.vr_wasi_calls.specs.Worlds.{World}
use Rattle.vr_wasi_calls.specs.declared.functions.Function.{Function}
use Rattle.vr_wasi_calls.specs.declared.functions.Function.TheVariants.{FdRead, FdWrite, FdSeek, FdTell, FdClose, FdFdstatGet, FdFilestatGet, FdFilestatSetSize, FdPrestatGet, FdPrestatDirName, PathOpen, PathFilestatGet, PathUnlinkFile, ArgsSizesGet, ArgsGet, EnvironSizesGet, EnvironGet, SchedYield, ClockTimeGet, RandomGet, ProcExit, Unsupported}

-- what a call of a function that answers an error number leaves; no call has other arguments than
-- those of its type
abbrev pub call_of : World → Contents → Function → List ℕ → Checked Done
call_of w m FdRead (fd ∷ at ∷ count ∷ out ∷ []) = fd_read_call w m fd at count out
call_of w m FdWrite (fd ∷ at ∷ count ∷ out ∷ []) = fd_write_call w m fd at count out
call_of w m FdSeek (fd ∷ offset ∷ whence ∷ out ∷ []) = fd_seek_call w m fd offset whence out
call_of w m FdTell (fd ∷ out ∷ []) = fd_tell_call w m fd out
call_of w m FdClose (fd ∷ []) = fd_close_call w m fd
call_of w m FdFdstatGet (fd ∷ out ∷ []) = fd_fdstat_get_call w m fd out
call_of w m FdFilestatGet (fd ∷ out ∷ []) = fd_filestat_get_call w m fd out
call_of w m FdFilestatSetSize (fd ∷ size ∷ []) = fd_filestat_set_size_call w m fd size
call_of w m FdPrestatGet (fd ∷ out ∷ []) = fd_prestat_get_call w m fd out
call_of w m FdPrestatDirName (fd ∷ at ∷ len ∷ []) = fd_prestat_dir_name_call w m fd at len
call_of w m PathOpen (fd ∷ dirflags ∷ at ∷ len ∷ oflags ∷ asked ∷ inheriting ∷ fdflags ∷ out ∷ []) =
    path_open_call w m fd at len oflags asked fdflags out
call_of w m PathFilestatGet (fd ∷ flags ∷ at ∷ len ∷ out ∷ []) =
    path_filestat_get_call w m fd at len out
call_of w m PathUnlinkFile (fd ∷ at ∷ len ∷ []) = path_unlink_file_call w m fd at len
call_of w m ArgsSizesGet (count ∷ size ∷ []) = args_sizes_get_call w m count size
call_of w m ArgsGet (list ∷ text ∷ []) = args_get_call w m list text
call_of w m EnvironSizesGet (count ∷ size ∷ []) = environ_sizes_get_call w m count size
call_of w m EnvironGet (list ∷ text ∷ []) = leaves w m
call_of w m SchedYield [] = leaves w m
call_of w m ClockTimeGet (clock ∷ precision ∷ out ∷ []) = Err Nosys
call_of w m RandomGet (at ∷ len ∷ []) = Err Nosys
call_of w m Unsupported args = Err Notsup
call_of w m function args = Err Inval

-- the answer of a call, and what it leaves: a refused one changes nothing
abbrev pub answered : World → Contents → Checked Done → Reply World
answered w m (Ok done) = gives_value success done.memory done.world
answered w m (Err errno) = gives_value (number errno) m w

-- the end of the program with a code, or the answer of a call
abbrev pub replied : World → Contents → Function → List ℕ → Reply World
replied w m ProcExit (code ∷ []) = exits code m w
replied w m ProcExit args = gives_nothing m w
replied w m function args = answered w m (call_of w m function args)

-- the reply to a call of the function of a number
abbrev pub reply : World → ℕ → List ℕ → Contents → Reply World
reply w which args m = replied w m (function_of which) args
