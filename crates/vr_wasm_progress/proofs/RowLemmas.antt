-- The row of a typed term: it goes on as a typed term, or ends, or traps.
use Rattle.std.proofs.Common.{ℕ, zero, suc, ◌+◌, ◌^◌, ◌≡◌, ◌≤◌, List, [], ◌∷◌, ◌++◌, length, take, drop as dropped, reverse, replicate, refl, ap, sym, ◌∙◌, subst, arith, append-nil, Option, Some, None, slice_get, true, if◌then◌else◌, nat_le, nat_lt, ◌==◌}
use Rattle.std.specs.Prelude.{unwrap_or}
use Rattle.std.proofs.lemmas.Bool.{le-leb, eq-eqb, ltb-true}
use Rattle.std.proofs.lemmas.List.{length-reverse}
use Rattle.vr_wasm_ast.specs.declared.tree.FuncType.{FuncType}
use Rattle.vr_wasm_ast.specs.declared.tree.ValType.{ValType}
use Rattle.vr_wasm_ast.specs.declared.tree.ValType.TheVariants.{I32, I64}
use Rattle.vr_wasm_ast.specs.Instructions.{Instruction, Instructions, block, loop, if_, br, br_if, br_table, return_, call, call_indirect, done, then as then_}
use Rattle.vr_wasm_num.specs.declared.trap.TheConstants.{CALL_TYPE_MISMATCH, TOO_MANY_FRAMES, TOO_MANY_VALUES, TOO_MANY_LABELS}
use Rattle.vr_wasm_steps.specs.declared.limits.TheConstants.{MAX_FRAMES, MAX_SLOTS, MAX_LABELS}
use Rattle.vr_wasm_steps.specs.Effects.{Effect, leaves, trapped, stuck, effect}
use Rattle.vr_wasm_steps.specs.Hosts.{Reply, FitsResults, gives_value, gives_nothing, exits}
use Rattle.vr_wasm_steps.specs.Rows.{Callee, own, outside, type_of, Program, Config, Outcome, stepped, finished, branching, returning, exited, traps_with, no_row, arity, goes, settles, enters, takes_along, in_label, in_frame, replied, called, same_type, same_types, same_sort, called_as, called_by, row, walk}
use Rattle.vr_wasm_steps.specs.Store.{are_of, width}
use Rattle.vr_wasm_steps.specs.Terms.{Term, end, value, plain, label, frame, plains, unwind, frames, slots, labels}
use Rattle.vr_wasm_valid.specs.Context.{Context, function_type, inside_block, inside_function, result_list, result_of}
use Rattle.vr_wasm_valid.specs.Steps.{Takes, Step, Types}
use Rattle.vr_wasm_valid.specs.Typing.{AllWant, arguments_of, results_of}
use Rattle.vr_wasm_valid.proofs.ValidLemmas.{all_at}
use Rattle.vr_wasm_progress.specs.Typed.{Fits, Brings, NamesFunction, StoreFits, CalleeFits, HasFunction, ProgramFits, TermTypes, EffectFits, OutcomeFits}
use Rattle.vr_wasm_progress.proofs.CaseLemmas.{both_true, either_way, surely, where_true}
use Rattle.vr_wasm_progress.proofs.EffectLemmas.{effect_fits, taken_off, with_memory_fits}
use Rattle.vr_wasm_progress.proofs.FittingLemmas.{fits_along, fits_append, fits_drop, fits_enough, fits_length, fits_reverse, fits_take, fits_zeros, are_from_fits}
use Rattle.vr_wasm_progress.proofs.MemoryLemmas.{replied_memory}
use Rattle.vr_wasm_progress.proofs.TermLemmas.{along, all_unwound, body_typed, plains_typed, result_length, types_above, unwound}

-- ---- types of functions that were compared

type_same : (a b : ValType) → same_type a b ≡ true → a ≡ b
type_same I32 I32 e = refl
type_same I32 I64 e = let never : ⊥ = cc e in absurd never
type_same I64 I32 e = let never : ⊥ = cc e in absurd never
type_same I64 I64 e = refl

types_same : (a b : List ValType) → same_types a b ≡ true → a ≡ b
types_same [] [] e = refl
types_same [] (u ∷ us) e = let never : ⊥ = cc e in absurd never
types_same (t ∷ ts) [] e = let never : ⊥ = cc e in absurd never
types_same (t ∷ ts) (u ∷ us) e =
    let both : (same_type t u ≡ true) × (same_types ts us ≡ true) = both_true (same_type t u) (same_types ts us) e in
    let x : t ≡ u = type_same t u both.0 in
    let y : ts ≡ us = types_same ts us both.1 in cc (x, y)

sort_same : (a b : FuncType) → same_sort a b ≡ true → a ≡ b
sort_same a b e =
    let both : (same_types a.params b.params ≡ true) × (same_types a.results b.results ≡ true) =
    both_true (same_types a.params b.params) (same_types a.results b.results) e in
    let x : a.params ≡ b.params = types_same a.params b.params both.0 in
    let y : a.results ≡ b.results = types_same a.results b.results both.1 in
    ap (λ (z : List ValType). record { params = z; results = a.results }) x
    ∙ ap (λ (z : List ValType). record { params = b.params; results = z }) y

-- ---- labels

-- the label that a table of labels gives
table_wants : (c : Context) (wanted : Option ValType) (l : ℕ) (js : List ℕ) (v : ℕ) (o : Option ℕ)
    → slice_get js v ≡ o → slice_get c.labels l ≡ Some wanted → AllWant c.labels wanted js
    → slice_get c.labels (unwrap_or o l) ≡ Some wanted
table_wants c wanted l js v None here e all = e
table_wants c wanted l js v (Some j) here e all =
    all_at (λ j. slice_get c.labels j ≡ Some wanted) js v j all here

module _ {W : Type 0} (p : Program W) (k : Config W) where
  module _ (c : Context) (ls : List ℕ) (after : List ValType) (fs : StoreFits c.spaces k.store) (fl : Fits c.locals ls) where
    -- one step to these operands before a term
    on : (ts : List ValType) (vs : List ℕ) (s : Term) → Fits ts vs → TermTypes c s ts after
        → OutcomeFits c after (goes k ls (unwind vs s))
    on ts vs s f t = (fs, fl, all_unwound c ts vs s after f t)

    -- the term after a step
    put_on : {taken given before middle : List ValType} (s : Term) (r : Takes taken given before middle)
        → TermTypes c s middle after → TermTypes c s (given ++ r.below) after
    put_on {given = given} {middle = middle} s r t = along c s middle (given ++ r.below) after r.put_on t

    settles_fit : (vs : List ℕ) (s : Term) (middle : List ValType) (e : Effect) → EffectFits c middle e
        → TermTypes c s middle after → OutcomeFits c after (settles k vs s e)
    settles_fit vs s middle (leaves cost m now us) f t =
        either_way (OutcomeFits c after) (nat_le (slots k.term + length us) (MAX_SLOTS + length vs)) (stepped cost m k.world now (unwind us s)) (traps_with TOO_MANY_VALUES)
        (f.0, f.1, all_unwound c middle us s after f.2 t) tt
    settles_fit vs s middle (trapped kind) f t = tt
    settles_fit vs s middle stuck f t = f

    takes_along_fits : (n : ℕ) (wanted : List ValType) (us vs : List ℕ) (s : Term) (before : List ValType)
        → length wanted ≡ n → Brings wanted us → Fits before vs → TermTypes c s (wanted ++ before) after
        → OutcomeFits c after (takes_along k ls n us vs s)
    takes_along_fits n wanted us vs s before e b fv t =
        let l : length wanted ≤ length us = fits_enough wanted b.0 us b.1 in
        surely (OutcomeFits c after) (nat_le n (length us)) (goes k ls (unwind vs (unwind (take n us) s))) no_row (le-leb n (length us) (omega (arith, e, l)))
        (on before vs (unwind (take n us) s) fv (unwound c wanted (take n us) s before after (fits_take n wanted b.0 us e b.1) t))

    enters_fits : (vs : List ℕ) (n : ℕ) (next body : Instructions) (s : Term) (wanted given : Option ValType)
        (before : List ValType) → arity wanted ≡ n → Types c next (result_list wanted) (result_list given)
        → Types (inside_block wanted c) body [] (result_list given) → Fits before vs
        → TermTypes c s (result_list given ++ before) after → OutcomeFits c after (enters k ls vs n next body s)
    enters_fits vs n next body s wanted given before e ct bt fv t =
        either_way (OutcomeFits c after) (nat_lt (labels k.term) MAX_LABELS) (goes k ls (unwind vs (label n next (plains body end) s))) (traps_with TOO_MANY_LABELS)
        (on before vs (label n next (plains body end) s) fv
        (wanted, given, e, ct, body_typed (inside_block wanted c) body (result_list given) bt, t)) tt

    -- ---- calls

    replied_fits : (vs : List ℕ) (results : List ValType) (s : Term) (below : List ValType) (r : Reply W)
        → FitsResults results k.store.memory r → Fits below vs
        → TermTypes c s (result_list (slice_get results 0) ++ below) after
        → OutcomeFits c after (replied k ls vs results s r)
    replied_fits vs [] s below (gives_value v memory w) f fv t = absurd f
    replied_fits vs [] s below (gives_nothing memory w) f fv t =
        (with_memory_fits c k.store memory fs (replied_memory k.store.memory memory f fs.memory), fl, all_unwound c below vs s after fv t)
    replied_fits vs [] s below (exits code memory w) f fv t = tt
    replied_fits vs (u ∷ []) s below (gives_value v memory w) f fv t = (
      with_memory_fits c k.store memory fs (replied_memory k.store.memory memory f.1 fs.memory),
      fl,
      all_unwound c (u ∷ below) (v ∷ vs) s after (ltb-true v (2 ^ width u) f.0, fv) t,
    )
    replied_fits vs (u ∷ []) s below (gives_nothing memory w) f fv t = absurd f
    replied_fits vs (u ∷ []) s below (exits code memory w) f fv t = tt
    replied_fits vs (u ∷ x ∷ xs) s below (gives_value v memory w) f fv t = absurd f
    replied_fits vs (u ∷ x ∷ xs) s below (gives_nothing memory w) f fv t = absurd f
    replied_fits vs (u ∷ x ∷ xs) s below (exits code memory w) f fv t = tt

    callee_fits : (before : ℕ) (vs : List ℕ) (s : Term) (f : Callee) (below : List ValType)
        → CalleeFits c.spaces p.reply f
        → length (type_of f).results ≡ arity (result_of (type_of f))
        → Fits (arguments_of (type_of f) ++ below) vs
        → TermTypes c s (results_of (type_of f) ++ below) after
        → OutcomeFits c after (called p k ls before vs s (Some f))
    callee_fits before vs s (own sort locals body) below d one fv t =
        let params : ℕ = length sort.params in
        let e : length (reverse sort.params) ≡ params = length-reverse sort.params in
        let l : length (reverse sort.params) ≤ length vs = fits_enough (reverse sort.params) below vs fv in
        let types : List ValType = sort.params ++ d.0 in
        let first : List ℕ = reverse (take params vs) ++ replicate locals 0 in
        let fits : Fits types first = fits_append sort.params d.0 (reverse (take params vs)) (replicate locals 0)
        (fits_reverse sort.params (take params vs) (fits_take params (reverse sort.params) below vs e fv)) (fits_zeros locals d.0 d.1) in
        let inner : TermTypes (inside_function c.spaces types (result_of sort)) (plains body end) [] (results_of sort) =
        body_typed (inside_function c.spaces types (result_of sort)) body (results_of sort) d.2 in
        let now : Term = frame (length sort.results) first (plains body end) s in
        let fine : OutcomeFits c after (goes k ls (unwind (dropped params vs) now)) =
        on below (dropped params vs) now (fits_drop params (reverse sort.params) below vs e fv) (types, result_of sort, sym one, fits, inner, t) in
        surely (OutcomeFits c after) (nat_le params (length vs)) _ no_row (le-leb params (length vs) (omega (arith, e, l)))
        (either_way (OutcomeFits c after) (nat_lt (frames k.term) MAX_FRAMES) _ (traps_with TOO_MANY_FRAMES)
        (either_way (OutcomeFits c after) (nat_le (slots k.term + length vs + locals) (MAX_SLOTS + before)) _ (traps_with TOO_MANY_VALUES)
        (either_way (OutcomeFits c after) (nat_lt (labels k.term) MAX_LABELS) _ (traps_with TOO_MANY_LABELS) fine tt) tt) tt)
    callee_fits before vs s (outside sort which) below d one fv t =
        let params : ℕ = length sort.params in
        let e : length (reverse sort.params) ≡ params = length-reverse sort.params in
        let l : length (reverse sort.params) ≤ length vs = fits_enough (reverse sort.params) below vs fv in
        let args : List ℕ = reverse (take params vs) in
        let fits : Fits sort.params args = fits_reverse sort.params (take params vs) (fits_take params (reverse sort.params) below vs e fv) in
        surely (OutcomeFits c after) (nat_le params (length vs)) _ no_row (le-leb params (length vs) (omega (arith, e, l)))
        (either_way (OutcomeFits c after) (nat_lt (frames k.term) MAX_FRAMES) _ (traps_with TOO_MANY_FRAMES)
        (either_way (OutcomeFits c after) (nat_le (slots k.term + length vs + length sort.results) (MAX_SLOTS + before + params)) _ (traps_with TOO_MANY_VALUES)
        (surely (OutcomeFits c after) (are_of sort.params args) _ no_row (are_from_fits sort.params args fits)
        (replied_fits (dropped params vs) sort.results s below (p.reply k.world which args k.store.memory) (d k.world args k.store.memory fits)
        (fits_drop params (reverse sort.params) below vs e fv) t)) tt) tt)

    function_fits : (before : ℕ) (vs : List ℕ) (s : Term) (f : ℕ) (sort : FuncType) (below : List ValType)
        (h : HasFunction c.spaces p f sort) → Fits (arguments_of sort ++ below) vs
        → TermTypes c s (results_of sort ++ below) after
        → OutcomeFits c after (called p k ls before vs s (Some h.callee))
    function_fits before vs s f sort below h fv t =
        let P : FuncType → Type 0 = λ x.
        length x.results ≡ arity (result_of x) → Fits (arguments_of x ++ below) vs
        → TermTypes c s (results_of x ++ below) after → OutcomeFits c after (called p k ls before vs s (Some h.callee)) in
        let by_type : P (type_of h.callee) = callee_fits before vs s h.callee below h.fits in
        let by_sort : P sort = subst P h.typed by_type in
        by_sort h.one_result fv t

    called_by_fits : ProgramFits c.spaces p → (before : ℕ) (vs : List ℕ) (n v : ℕ) (s : Term) (sort : FuncType)
        (below : List ValType) → slice_get c.spaces.types n ≡ Some sort
        → Fits (arguments_of sort ++ below) vs → TermTypes c s (results_of sort ++ below) after
        → (o : Option (Option ℕ)) → slice_get k.store.table v ≡ o
        → OutcomeFits c after (called_by p k ls before vs s (slice_get p.types n) o)
    called_by_fits m before vs n v s sort below e fv t None here = tt
    called_by_fits m before vs n v s sort below e fv t (Some None) here = tt
    called_by_fits m before vs n v s sort below e fv t (Some (Some f)) here =
        let named : (x : FuncType) × (function_type c.spaces f ≡ Some x) =
        m.named f (all_at (NamesFunction c.spaces) k.store.table v (Some f) fs.table here) in
        let h : HasFunction c.spaces p f named.0 = m.functions f named.0 named.1 in
        let typed : slice_get p.types n ≡ Some sort = ap (λ (x : List FuncType). slice_get x n) m.types ∙ e in
        subst (λ (o : Option FuncType). OutcomeFits c after (called_as p k ls before vs s o (slice_get p.functions f))) (sym typed)
        (subst (λ (o : Option Callee). OutcomeFits c after (called_as p k ls before vs s (Some sort) o)) (sym h.there)
        (where_true (OutcomeFits c after) (same_sort (type_of h.callee) sort) (called p k ls before vs s (Some h.callee)) (traps_with CALL_TYPE_MISMATCH)
        (λ same.
        let is : type_of h.callee ≡ sort = sort_same (type_of h.callee) sort same in
        let this : named.0 ≡ sort = sym h.typed ∙ is in
        let P : FuncType → Type 0 = λ x. Fits (arguments_of x ++ below) vs → TermTypes c s (results_of x ++ below) after
        → OutcomeFits c after (called p k ls before vs s (Some h.callee)) in
        let by_name : P named.0 = function_fits before vs s f named.0 below h in
        subst P this by_name fv t) tt))

    -- ---- the row of an instruction

    row_fits : ProgramFits c.spaces p → (vs : List ℕ) (i : Instruction) (s : Term) (before middle : List ValType)
        → Fits before vs → Step c i before middle → TermTypes c s middle after
        → OutcomeFits c after (row p k ls vs i s)
    row_fits m vs (block b body) s before middle fv r t =
        enters_fits vs (arity b) done body s b b r.step.below refl refl r.met (taken_off vs r.step fv) (put_on s r.step t)
    row_fits m vs (loop b body) s before middle fv r t =
        let again : Types c (then_ (loop b body) done) [] (result_list b) =
        (result_list b, record { met = r.met; step = record { below = []; taken_off = refl; put_on = sym (append-nil (result_list b)) } }, refl) in
        enters_fits vs 0 (then_ (loop b body) done) body s None b r.step.below refl again r.met (taken_off vs r.step fv) (put_on s r.step t)
    row_fits m [] (if_ b taken other) s before middle fv r t = absurd (taken_off [] r.step.step fv)
    row_fits m (v ∷ vs) (if_ b taken other) s before middle fv r t =
        enters_fits vs (arity b) done (if v == 0 then other else taken) s b b r.step.step.below refl refl
        (either_way (λ (x : Instructions). Types (inside_block b c) x [] (result_list b)) (v == 0) other taken r.step.met r.met) (taken_off (v ∷ vs) r.step.step fv).1 (put_on s r.step.step t)
    row_fits m vs (br l) s before middle fv r t =
        (r.item, r.here, (r.step.below, fits_along before (result_list r.item ++ r.step.below) vs r.step.taken_off fv))
    row_fits m [] (br_if l) s before middle fv r t = absurd (taken_off [] r.step fv)
    row_fits m (v ∷ vs) (br_if l) s before middle fv r t =
        let f : Fits (result_list r.item ++ r.step.below) vs = (taken_off (v ∷ vs) r.step fv).1 in
        either_way (OutcomeFits c after) (v == 0) (goes k ls (unwind vs s)) (branching l vs) (on (result_list r.item ++ r.step.below) vs s f (put_on s r.step t))
        (r.item, r.here, (r.step.below, f))
    row_fits m [] (br_table js l) s before middle fv r t =
        absurd (fits_along before (I32 ∷ result_list r.item ++ r.step.step.below) [] r.step.step.taken_off fv)
    row_fits m (v ∷ vs) (br_table js l) s before middle fv r t = (
      r.item,
      table_wants c r.item l js v (slice_get js v) refl r.here r.step.met,
      (r.step.step.below, (fits_along before (I32 ∷ result_list r.item ++ r.step.step.below) (v ∷ vs) r.step.step.taken_off fv).1),
    )
    row_fits m vs return_ s before middle fv r t =
        (r.below, fits_along before (result_list c.returns ++ r.below) vs r.taken_off fv)
    row_fits m vs (call f) s before middle fv r t =
        let h : HasFunction c.spaces p f r.item = m.functions f r.item r.here in
        subst (λ (o : Option Callee). OutcomeFits c after (called p k ls (length vs) vs s o)) (sym h.there)
        (function_fits (length vs) vs s f r.item r.step.below h (taken_off vs r.step fv) (put_on s r.step t))
    row_fits m [] (call_indirect n) s before middle fv r t = absurd (taken_off [] r.step.step fv)
    row_fits m (v ∷ vs) (call_indirect n) s before middle fv r t =
        called_by_fits m (suc (length vs)) vs n v s r.step.item r.step.step.below r.step.here
        (taken_off (v ∷ vs) r.step.step fv).1 (put_on s r.step.step t) (slice_get k.store.table v) refl
    row_fits m vs i s before middle fv r t =
        settles_fit vs s middle (effect k.store ls vs i) (effect_fits c k.store ls middle fs fl vs i before tt fv r) t

    -- ---- labels and frames

    label_fits : (vs : List ℕ) (n : ℕ) (next : Instructions) (s : Term) (wanted given : Option ValType)
        (before : List ValType) (o : Outcome W) → arity wanted ≡ n
        → Types c next (result_list wanted) (result_list given) → Fits before vs
        → TermTypes c s (result_list given ++ before) after
        → OutcomeFits (inside_block wanted c) (result_list given) o → OutcomeFits c after (in_label k ls vs n next s o)
    label_fits vs n next s wanted given before (stepped cost m w now inner) e ct fv t f =
        (f.0, f.1, all_unwound c before vs (label n next inner s) after fv (wanted, given, e, ct, f.2, t))
    label_fits vs n next s wanted given before (finished us) e ct fv t f =
        on before vs (unwind us s) fv (unwound c (result_list given) us s before after f t)
    label_fits vs n next s wanted given before (branching zero us) e ct fv t f =
        let same : f.0 ≡ wanted = cc f.1 in
        takes_along_fits n (result_list wanted) us vs (plains next s) before (result_length wanted ∙ e)
        (subst (λ (x : Option ValType). Brings (result_list x) us) same f.2) fv
        (plains_typed c next s (result_list wanted ++ before) (result_list given ++ before) after
        (types_above c next (result_list wanted) (result_list given) before ct) t)
    label_fits vs n next s wanted given before (branching (suc l) us) e ct fv t f = (f.0, f.1, f.2)
    label_fits vs n next s wanted given before (returning us) e ct fv t f = f
    label_fits vs n next s wanted given before (exited code w) e ct fv t f = tt
    label_fits vs n next s wanted given before (traps_with kind) e ct fv t f = tt
    label_fits vs n next s wanted given before no_row e ct fv t f = f

    frame_fits : (vs : List ℕ) (n : ℕ) (s : Term) (locals : List ValType) (result : Option ValType)
        (before : List ValType) (o : Outcome W) → arity result ≡ n → Fits before vs
        → TermTypes c s (result_list result ++ before) after
        → OutcomeFits (inside_function c.spaces locals result) (result_list result) o
        → OutcomeFits c after (in_frame k ls vs n s o)
    frame_fits vs n s locals result before (stepped cost m w now inner) e fv t f =
        (f.0, fl, all_unwound c before vs (frame n now inner s) after fv (locals, result, e, f.1, f.2, t))
    frame_fits vs n s locals result before (finished us) e fv t f =
        let l : length (result_list result) ≡ length us = fits_length (result_list result) us f in
        surely (OutcomeFits c after) (length us == n) (goes k ls (unwind vs (unwind us s))) no_row (eq-eqb (length us) n (sym l ∙ result_length result ∙ e))
        (on before vs (unwind us s) fv (unwound c (result_list result) us s before after f t))
    frame_fits vs n s locals result before (branching zero us) e fv t f =
        let same : f.0 ≡ result = cc f.1 in
        takes_along_fits n (result_list result) us vs s before (result_length result ∙ e)
        (subst (λ (x : Option ValType). Brings (result_list x) us) same f.2) fv t
    frame_fits vs n s locals result before (branching (suc l) us) e fv t f = let never : ⊥ = cc f.1 in absurd never
    frame_fits vs n s locals result before (returning us) e fv t f =
        takes_along_fits n (result_list result) us vs s before (result_length result ∙ e) f fv t
    frame_fits vs n s locals result before (exited code w) e fv t f = tt
    frame_fits vs n s locals result before (traps_with kind) e fv t f = tt
    frame_fits vs n s locals result before no_row e fv t f = f

  -- ---- the walk to the innermost place

  pub walk_fits : (c : Context) (ls vs : List ℕ) (s : Term) (before after : List ValType) → ProgramFits c.spaces p
      → StoreFits c.spaces k.store → Fits c.locals ls → Fits before vs → TermTypes c s before after
      → OutcomeFits c after (walk p k ls vs s)
  unfolding walk
  walk_fits c ls vs end before after m fs fl fv t = fits_along before after vs t fv
  walk_fits c ls vs (value v s) before after m fs fl fv t =
      walk_fits c ls (v ∷ vs) s (t.0 ∷ before) after m fs fl (t.1, fv) t.2
  walk_fits c ls vs (plain i s) before after m fs fl fv t = row_fits c ls after fs fl m vs i s before t.0 fv t.1 t.2
  walk_fits c ls vs (label n next inner s) before after m fs fl fv t =
      label_fits c ls after fs fl vs n next s t.0 t.1 before (walk p k ls [] inner) t.2 t.3 fv t.5
      (walk_fits (inside_block t.0 c) ls [] inner [] (result_list t.1) m fs fl tt t.4)
  walk_fits c ls vs (frame n now inner s) before after m fs fl fv t =
      frame_fits c ls after fs fl vs n s t.0 t.1 before (walk p k now [] inner) t.2 fv t.5
      (walk_fits (inside_function c.spaces t.0 t.1) now [] inner [] (result_list t.1) m fs t.3 tt t.4)
