-- Each reply fits the type of the function that was found.
use Rattle.std.proofs.Common.{ℕ, List, [], ◌∷◌, Ok, Err, IsTrue, refl, subst, sym}
use Rattle.vr_wasm_ast.specs.declared.tree.ValType.{ValType}
use Rattle.vr_wasm_ast.specs.declared.tree.ValType.TheVariants.{I32}
use Rattle.vr_wasm_num.specs.Memory.{Contents}
use Rattle.vr_wasm_steps.specs.Hosts.{FitsResults, RepliesFit}
use Rattle.vr_wasm_steps.specs.Store.{is_of}
use Rattle.vr_wasi_calls.proofs.FunctionLemmas.{found_results}
use Rattle.vr_wasi_calls.specs.Calls.{Done}
use Rattle.vr_wasi_calls.specs.Checks.{Checked}
use Rattle.vr_wasi_calls.specs.Errnos.{number}
use Rattle.vr_wasi_calls.specs.Functions.{finds, function_of, results_of}
use Rattle.vr_wasi_calls.specs.Replies.{answered, call_of, replied, reply}
use Rattle.vr_wasi_calls.specs.Worlds.{World}
use Rattle.vr_wasi_calls.specs.declared.errno.Errno.{Errno}
use Rattle.vr_wasi_calls.specs.declared.errno.Errno.TheVariants.{Badf, Exist, Fault, Fbig, Inval, Mfile, Noent, Nospc, Nosys, Notdir, Notsup, Notcapable}
use Rattle.vr_wasi_calls.specs.declared.functions.Function.{Function}
use Rattle.vr_wasi_calls.specs.declared.functions.Function.TheVariants.{ProcExit}
use Rattle.vr_wasi_fs.specs.Chains.{Passes, passes, refused}
use Rattle.vr_wasi_fs.specs.Leaving.{Leaves, call_leaves, same_size}

-- an error number is a number of 32 bits
number_small : (errno : Errno) → IsTrue (is_of I32 (number errno))
number_small Badf = refl
number_small Exist = refl
number_small Fault = refl
number_small Fbig = refl
number_small Inval = refl
number_small Mfile = refl
number_small Noent = refl
number_small Nospc = refl
number_small Nosys = refl
number_small Notdir = refl
number_small Notsup = refl
number_small Notcapable = refl

-- so an answer is of the one result's type
answer_fits : (w : World) (m : Contents) (c : Checked Done) → Passes (Leaves w m) c
    → FitsResults (I32 ∷ []) m (answered w m c)
answer_fits w m (Ok done) (passes left) = (refl, left.memory)
answer_fits w m (Err errno) refused = (number_small errno, same_size m)

-- and each reply is of its function's results
reply_fits : (w : World) (m : Contents) (f : Function) (args : List ℕ)
    → FitsResults (results_of f) m (replied w m f args)
reply_fits w m ProcExit (code ∷ []) = same_size m
reply_fits w m ProcExit args = same_size m
reply_fits w m f args = answer_fits w m (call_of w m f args) (call_leaves w m f args)

-- the law: each reply fits the results of the function that was found
pub replies_fit_each : RepliesFit finds reply
replies_fit_each from name sort which w args memory at fit =
    let Fits : List ValType
    → Type 0 = λ results. FitsResults results memory (reply w which args memory) in
    subst Fits (sym (found_results from name sort which at)) (reply_fits w memory
    (function_of which) args)
