-- The error numbers of WASI snapshot preview 1 that a program is answered.
use Rattle.std.specs.Prelude.{ℕ}
use Rattle.vr_wasi_calls.specs.declared.errno.Errno.{Errno}
use Rattle.vr_wasi_calls.specs.declared.errno.Errno.TheVariants.{Badf, Exist, Fault, Fbig, Inval, Mfile, Noent, Nospc, Nosys, Notdir, Notsup, Notcapable}

-- nothing failed
abbrev pub success : ℕ
success = 0

-- the number of a refusal
abbrev pub number : Errno → ℕ
number Badf = 8
number Exist = 20
number Fault = 21
number Fbig = 22
number Inval = 28
number Mfile = 33
number Noent = 44
number Nospc = 51
number Nosys = 52
number Notdir = 54
number Notsup = 58
number Notcapable = 76
