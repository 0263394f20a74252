-- The functions of WASI snapshot preview 1: their names and types, in the order of their numbers.
use Rattle.std.specs.Prelude.{ℕ, Bool, ◌&&◌, if◌then◌else◌, List, [], ◌∷◌, length, codes, bytes_eq, position, find, is_some, slice_get, Option, Some, None, unwrap_or, IsTrue}
use Rattle.vr_wasm_ast.specs.declared.tree.FuncType.{FuncType}
use Rattle.vr_wasm_ast.specs.declared.tree.ValType.{ValType}
use Rattle.vr_wasm_ast.specs.declared.tree.ValType.TheVariants.{I32, I64}
use Rattle.vr_wasm_steps.specs.Rows.{same_types}
use Rattle.vr_wasm_steps.specs.Store.{are_of}
use Rattle.vr_wasi_calls.specs.declared.functions.Function.{Function}
use Rattle.vr_wasi_calls.specs.declared.functions.Function.TheVariants.{FdRead, FdWrite, FdSeek, FdTell, FdClose, FdFdstatGet, FdFilestatGet, FdFilestatSetSize, FdPrestatGet, FdPrestatDirName, PathOpen, PathFilestatGet, PathUnlinkFile, ArgsSizesGet, ArgsGet, EnvironSizesGet, EnvironGet, SchedYield, ClockTimeGet, RandomGet, ProcExit, Unsupported}

-- every function that does something, or is known not to, in the order of their numbers
abbrev pub functions : List Function
functions =
    FdRead ∷ FdWrite ∷ FdSeek ∷ FdTell ∷ FdClose ∷ FdFdstatGet ∷ FdFilestatGet ∷
    FdFilestatSetSize ∷ FdPrestatGet ∷ FdPrestatDirName ∷ PathOpen ∷ PathFilestatGet ∷
    PathUnlinkFile ∷ ArgsSizesGet ∷ ArgsGet ∷ EnvironSizesGet ∷ EnvironGet ∷ SchedYield ∷
    ClockTimeGet ∷ RandomGet ∷ ProcExit ∷ []

-- the name by which a function is imported
abbrev pub name_of : Function → List ℕ
name_of FdRead = codes "fd_read"
name_of FdWrite = codes "fd_write"
name_of FdSeek = codes "fd_seek"
name_of FdTell = codes "fd_tell"
name_of FdClose = codes "fd_close"
name_of FdFdstatGet = codes "fd_fdstat_get"
name_of FdFilestatGet = codes "fd_filestat_get"
name_of FdFilestatSetSize = codes "fd_filestat_set_size"
name_of FdPrestatGet = codes "fd_prestat_get"
name_of FdPrestatDirName = codes "fd_prestat_dir_name"
name_of PathOpen = codes "path_open"
name_of PathFilestatGet = codes "path_filestat_get"
name_of PathUnlinkFile = codes "path_unlink_file"
name_of ArgsSizesGet = codes "args_sizes_get"
name_of ArgsGet = codes "args_get"
name_of EnvironSizesGet = codes "environ_sizes_get"
name_of EnvironGet = codes "environ_get"
name_of SchedYield = codes "sched_yield"
name_of ClockTimeGet = codes "clock_time_get"
name_of RandomGet = codes "random_get"
name_of ProcExit = codes "proc_exit"
name_of Unsupported = []

-- the types of a function's parameters
abbrev pub params_of : Function → List ValType
params_of FdRead = I32 ∷ I32 ∷ I32 ∷ I32 ∷ []
params_of FdWrite = I32 ∷ I32 ∷ I32 ∷ I32 ∷ []
params_of FdSeek = I32 ∷ I64 ∷ I32 ∷ I32 ∷ []
params_of FdTell = I32 ∷ I32 ∷ []
params_of FdClose = I32 ∷ []
params_of FdFdstatGet = I32 ∷ I32 ∷ []
params_of FdFilestatGet = I32 ∷ I32 ∷ []
params_of FdFilestatSetSize = I32 ∷ I64 ∷ []
params_of FdPrestatGet = I32 ∷ I32 ∷ []
params_of FdPrestatDirName = I32 ∷ I32 ∷ I32 ∷ []
params_of PathOpen = I32 ∷ I32 ∷ I32 ∷ I32 ∷ I32 ∷ I64 ∷ I64 ∷ I32 ∷ I32 ∷ []
params_of PathFilestatGet = I32 ∷ I32 ∷ I32 ∷ I32 ∷ I32 ∷ []
params_of PathUnlinkFile = I32 ∷ I32 ∷ I32 ∷ []
params_of ArgsSizesGet = I32 ∷ I32 ∷ []
params_of ArgsGet = I32 ∷ I32 ∷ []
params_of EnvironSizesGet = I32 ∷ I32 ∷ []
params_of EnvironGet = I32 ∷ I32 ∷ []
params_of SchedYield = []
params_of ClockTimeGet = I32 ∷ I64 ∷ I32 ∷ []
params_of RandomGet = I32 ∷ I32 ∷ []
params_of ProcExit = I32 ∷ []
params_of Unsupported = []

-- the types of its results: an error number, but where the program ends
abbrev pub results_of : Function → List ValType
results_of ProcExit = []
results_of function = I32 ∷ []

-- the name of the module that the functions are imported from
abbrev pub module_name : List ℕ
module_name = codes "wasi_snapshot_preview1"

-- whether a function has this type
abbrev pub has_type : FuncType → Function → Bool
has_type sort f = same_types sort.params (params_of f) && same_types sort.results (results_of f)

-- whether a function has this name
abbrev pub has_name : List ℕ → Function → Bool
has_name name f = bytes_eq (name_of f) name

-- the number of a function that is not supported
abbrev pub unsupported : ℕ
unsupported = length functions

-- whether a type has the one result of a function that answers an error number
abbrev pub answers_errno : FuncType → Bool
answers_errno sort = same_types sort.results (I32 ∷ [])

-- the number of the function of a name and a type: of a known name where the type is the one
-- written, of any other name where the type has the one result of an error number
abbrev pub number_of : List ℕ → FuncType → Option ℕ
number_of name sort =
    if is_some (find (has_name name) functions) then
    position (λ f. has_name name f && has_type sort f) functions
    else (if answers_errno sort then Some unsupported else None)

-- the number of the function of these names and this type
abbrev pub finds : List ℕ → List ℕ → FuncType → Option ℕ
finds from name sort = if bytes_eq from module_name then number_of name sort else None

-- the function of a number
abbrev pub function_of : ℕ → Function
function_of which = unwrap_or (slice_get functions which) Unsupported

-- the arguments are as many as the function has parameters, each of its type; what is not supported
-- may have any
abbrev pub ArgumentsFit : Function → List ℕ → Type 0
ArgumentsFit Unsupported args = Unit {0}
ArgumentsFit function args = IsTrue (are_of (params_of function) args)
