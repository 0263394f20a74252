-- What may be asked of a host fits the function that is asked.
use Rattle.std.proofs.Common.{◌≡◌, ℕ, Bool, true, false, ◌&&◌, if◌then◌else◌, List, [], ◌∷◌, get_or, Some, None, IsTrue, position, refl, ap, subst, ◌∙◌}
use Rattle.std.specs.Prelude.{find, is_some, slice_get, unwrap_or, bytes_eq}
use Rattle.std.proofs.lemmas.List.Quantifiers.{position-Some}
use Rattle.std.proofs.lemmas.Option.{slice_get-get_or}
use Rattle.vr_wasm_ast.specs.declared.tree.FuncType.{FuncType}
use Rattle.vr_wasm_ast.specs.declared.tree.ValType.{ValType}
use Rattle.vr_wasm_ast.specs.declared.tree.ValType.TheVariants.{I32}
use Rattle.vr_wasm_num.specs.Memory.{Contents}
use Rattle.vr_wasm_steps.specs.Hosts.{IsAskable}
use Rattle.vr_wasm_steps.specs.Rows.{same_types}
use Rattle.vr_wasm_steps.specs.Store.{are_of}
use Rattle.vr_wasi_calls.proofs.TypeLemmas.{same_types_is}
use Rattle.vr_wasi_calls.specs.Functions.{ArgumentsFit, answers_errno, finds, function_of, functions, has_name, has_type, module_name, number_of, params_of, results_of}
use Rattle.vr_wasi_calls.specs.Replies.{answered, call_of, replied}
use Rattle.vr_wasi_calls.specs.Worlds.{World}
use Rattle.vr_wasi_calls.specs.declared.functions.Function.{Function}
use Rattle.vr_wasi_calls.specs.declared.functions.Function.TheVariants.{FdRead, FdWrite, FdSeek, FdTell, FdClose, FdFdstatGet, FdFilestatGet, FdFilestatSetSize, FdPrestatGet, FdPrestatDirName, PathOpen, PathFilestatGet, PathUnlinkFile, ArgsSizesGet, ArgsGet, EnvironSizesGet, EnvironGet, SchedYield, ClockTimeGet, RandomGet, ProcExit, Unsupported}

-- arguments of the parameters' types fit
pub fits_any : (f : Function) (args : List ℕ) → IsTrue (are_of (params_of f) args)
    → ArgumentsFit f args
fits_any FdRead args fit = fit
fits_any FdWrite args fit = fit
fits_any FdSeek args fit = fit
fits_any FdTell args fit = fit
fits_any FdClose args fit = fit
fits_any FdFdstatGet args fit = fit
fits_any FdFilestatGet args fit = fit
fits_any FdFilestatSetSize args fit = fit
fits_any FdPrestatGet args fit = fit
fits_any FdPrestatDirName args fit = fit
fits_any PathOpen args fit = fit
fits_any PathFilestatGet args fit = fit
fits_any PathUnlinkFile args fit = fit
fits_any ArgsSizesGet args fit = fit
fits_any ArgsGet args fit = fit
fits_any EnvironSizesGet args fit = fit
fits_any EnvironGet args fit = fit
fits_any SchedYield args fit = fit
fits_any ClockTimeGet args fit = fit
fits_any RandomGet args fit = fit
fits_any ProcExit args fit = fit
fits_any Unsupported args fit = tt

both_first : (a b : Bool) → (a && b) ≡ true → a ≡ true
both_first true b h = refl
both_first false b h = h

both_second : (a b : Bool) → (a && b) ≡ true → b ≡ true
both_second true b h = h
both_second false b h = absurd cc

-- a function that is found in the table has the wanted type
placed_typed : (name : List ℕ) (sort : FuncType) (which : ℕ)
    → position (λ f. has_name name f && has_type sort f) functions ≡ Some which
    → has_type sort (function_of which) ≡ true
placed_typed name sort which at =
    let test : Function → Bool = λ f. has_name name f && has_type sort f in
    let found = position-Some test functions which Unsupported at in
    let there : slice_get functions which ≡ Some
    (get_or functions which Unsupported) = slice_get-get_or functions which Unsupported found.0
    in
    let same : function_of which ≡ get_or functions which Unsupported = ap
    (λ o. unwrap_or o Unsupported) there in
    ap (has_type sort) same
    ∙ both_second (has_name name (get_or functions which Unsupported)) (has_type sort
    (get_or functions which Unsupported)) found.1

-- a function that is found takes arguments of the wanted type
found_fits : (name : List ℕ) (sort : FuncType) (which : ℕ) (args : List ℕ)
    → number_of name sort ≡ Some which → IsTrue (are_of sort.params args)
    → ArgumentsFit (function_of which) args
found_fits name sort which args found fit = by_name (is_some (find (has_name name) functions))
    (answers_errno sort) found
  where
    by_name : (known plain : Bool)
        → (if known then position (λ f. has_name name f && has_type sort f) functions else
        (if plain then Some 21 else None)) ≡ Some which → ArgumentsFit (function_of which) args
    by_name true plain at =
        let typed = placed_typed name sort which at in
        let same : sort.params ≡ params_of (function_of which) =
        same_types_is sort.params (params_of (function_of which)) (both_first
        (same_types sort.params (params_of (function_of which))) (same_types sort.results
        (results_of (function_of which))) typed) in
        let Of : List ValType → Type 0 = λ params. IsTrue (are_of params args) in
        fits_any (function_of which) args (subst Of same fit)
    by_name false true at =
        let last : 21 ≡ which = cc in
        let Fits : ℕ → Type 0 = λ which. ArgumentsFit (function_of which) args in
        subst Fits last tt
    by_name false false at = absurd cc

-- and has the results of the wanted type
pub found_results : (from name : List ℕ) (sort : FuncType) (which : ℕ)
    → finds from name sort ≡ Some which → sort.results ≡ results_of (function_of which)
found_results from name sort which at = by_module (bytes_eq from module_name) at
  where
    by_name : (known plain : Bool) → answers_errno sort ≡ plain
        → (if known then position (λ f. has_name name f && has_type sort f) functions else
        (if plain then Some 21 else None)) ≡ Some which
        → sort.results ≡ results_of (function_of which)
    by_name true plain is h =
        let f : Function = function_of which in
        same_types_is sort.results (results_of f) (both_second (same_types sort.params
        (params_of f)) (same_types sort.results (results_of f))
        (placed_typed name sort which h))
    by_name false true is h =
        let last : 21 ≡ which = cc in
        same_types_is sort.results (I32 ∷ []) is ∙ ap (λ n. results_of (function_of n)) last
    by_name false false is h = absurd cc

    by_module : (ours : Bool) → (if ours then number_of name sort else None) ≡ Some which
        → sort.results ≡ results_of (function_of which)
    by_module true h = by_name (is_some (find (has_name name) functions))
        (answers_errno sort) refl h
    by_module false h = absurd cc

-- what a function replies that doesn't end the program
pub replied_others : (w : World) (m : Contents) (f : Function) (args : List ℕ) → (f ≡ ProcExit → ⊥)
    → replied w m f args ≡ answered w m (call_of w m f args)
replied_others w m ProcExit args others = absurd (others refl)
replied_others w m f args others = refl

pub askable_fits : (which : ℕ) (args : List ℕ) → IsAskable finds which args
    → ArgumentsFit (function_of which) args
askable_fits which args (from, name, sort, found, fit) = by_module (bytes_eq from module_name) found
  where
    by_module : (ours : Bool) → (if ours then number_of name sort else None) ≡ Some which
        → ArgumentsFit (function_of which) args
    by_module true at = found_fits name sort which args at fit
    by_module false at = absurd cc
