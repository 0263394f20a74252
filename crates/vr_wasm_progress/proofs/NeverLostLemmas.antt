-- A program that fits never gets stuck, and a linked program fits.
use Rattle.std.proofs.Common.{ℕ, zero, suc, ◌≡◌, List, [], ◌∷◌, length, replicate, refl, ap, sym, ◌∙◌, subst, arith, Option, Some, None, slice_get, nat_le, nat_lt, ◌+◌}
use Rattle.std.specs.Prelude.{IfSome, IsSomeAnd}
use Rattle.std.specs.List.{AllByRecursion}
use Rattle.std.proofs.lemmas.Bool.{le-leb}
use Rattle.vr_wasm_ast.specs.declared.tree.FuncType.{FuncType}
use Rattle.vr_wasm_ast.specs.declared.tree.ValType.{ValType}
use Rattle.vr_wasm_ast.specs.Instructions.{Instructions, call}
use Rattle.vr_wasm_num.specs.declared.trap.TheConstants.{TOO_MANY_FRAMES, TOO_MANY_VALUES, TOO_MANY_LABELS}
use Rattle.vr_wasm_steps.specs.declared.limits.TheConstants.{MAX_FRAMES, MAX_SLOTS, MAX_LABELS}
use Rattle.vr_wasm_steps.specs.Hosts.{Reply, FitsResults, gives_value, gives_nothing, exits}
use Rattle.vr_wasm_steps.specs.Rows.{Callee, own, outside, type_of, Program, Config, Outcome, stepped, finished, branching, returning, exited, traps_with, no_row, goes, takes_along, in_frame, replied, called, called_from_outside, entry, walk, Next, step, next_of, next}
use Rattle.vr_wasm_steps.specs.Runs.{Rows, NeverLost, start}
use Rattle.vr_wasm_steps.specs.Store.{Store}
use Rattle.vr_wasm_steps.specs.Terms.{Term, end, plain, frame, plains, frames, slots, labels}
use Rattle.vr_wasm_valid.specs.Context.{Spaces, function_type, inside_function, spaces_of}
use Rattle.vr_wasm_valid.specs.Parts.{StartFits, TakesNothing}
use Rattle.vr_wasm_progress.specs.Progress.{ProgramsNeverLost}
use Rattle.vr_wasm_progress.specs.Typed.{StoreFits, CalleeFits, HasFunction, ProgramFits, IsOutermost, OutcomeFits, WholeFits, ConfigFits, NextFits}
use Rattle.vr_wasm_progress.proofs.CaseLemmas.{either_way, surely}
use Rattle.vr_wasm_progress.proofs.EffectLemmas.{with_memory_fits}
use Rattle.vr_wasm_progress.proofs.FittingLemmas.{fits_zeros}
use Rattle.vr_wasm_progress.proofs.LinkedLemmas.{program_fits, store_fits}
use Rattle.vr_wasm_progress.proofs.MemoryLemmas.{replied_memory}
use Rattle.vr_wasm_progress.proofs.RowLemmas.{walk_fits}
use Rattle.vr_wasm_progress.proofs.TermLemmas.{body_typed}

-- ---- functions that take and give nothing

-- the type of such a function
abbrev procedure : FuncType
procedure = record { params = []; results = [] }

procedure_is : (sort : FuncType) → TakesNothing sort → sort ≡ procedure
procedure_is sort f =
    ap (λ (z : List ValType). record { params = z; results = sort.results }) f.0
    ∙ ap (λ (z : List ValType). record { params = []; results = z }) f.1

named : (o : Option FuncType) → IsSomeAnd o TakesNothing → o ≡ Some procedure
named None f = absurd f
named (Some sort) f = ap (λ (z : FuncType). Some z) (procedure_is sort f)

-- the frame of such a function
procedure_frame : {W : Type 0} (s : Spaces) (reply : _) (locals : ℕ) (body : Instructions)
    → CalleeFits {W = W} s reply (own procedure locals body)
    → IsOutermost s (frame 0 (replicate locals 0) (plains body end) end)
procedure_frame s reply locals body d =
    (refl, d.0, fits_zeros locals d.0 d.1, body_typed (inside_function s d.0 None) body [] d.2)

module _ {W : Type 0} (p : Program W) (s : Spaces) (m : ProgramFits s p) where
  its_function : (f : ℕ) → StartFits s f → HasFunction s p f procedure
  its_function f t = m.functions f procedure (named (function_type s f) t)

  -- ---- rows of whole terms

  module _ (k : Config W) (fs : StoreFits s k.store) where
    replied_whole : (r : Reply W) → FitsResults [] k.store.memory r → WholeFits s (replied k [] [] [] end r)
    replied_whole (gives_value v memory w) f = absurd f
    replied_whole (gives_nothing memory w) f =
        (with_memory_fits (inside_function s [] None) k.store memory fs (replied_memory k.store.memory memory f fs.memory), tt)
    replied_whole (exits code memory w) f = tt

    procedure_called : (f : Callee) → type_of f ≡ procedure → CalleeFits s p.reply f
        → WholeFits s (called p k [] 0 [] end (Some f))
    procedure_called (own sort locals body) e d =
        let P : FuncType → Type 0 = λ x.
        CalleeFits s p.reply (own x locals body) → WholeFits s (called p k [] 0 [] end (Some (own x locals body))) in
        let at_procedure : P procedure = λ d.
        either_way (WholeFits s) (nat_lt (frames k.term) MAX_FRAMES) _ (traps_with TOO_MANY_FRAMES)
        (either_way (WholeFits s) (nat_le (slots k.term + 0 + locals) (MAX_SLOTS + 0)) _ (traps_with TOO_MANY_VALUES)
        (either_way (WholeFits s) (nat_lt (labels k.term) MAX_LABELS) _ (traps_with TOO_MANY_LABELS)
        (fs, procedure_frame s p.reply locals body d) tt) tt) tt in
        subst P (sym e) at_procedure d
    procedure_called (outside sort which) e d =
        let P : FuncType → Type 0 = λ x.
        CalleeFits s p.reply (outside x which) → WholeFits s (called p k [] 0 [] end (Some (outside x which))) in
        let at_procedure : P procedure = λ d.
        either_way (WholeFits s) (nat_lt (frames k.term) MAX_FRAMES) _ (traps_with TOO_MANY_FRAMES)
        (either_way (WholeFits s) (nat_le (slots k.term + 0 + 0) (MAX_SLOTS + 0 + 0)) _ (traps_with TOO_MANY_VALUES)
        (replied_whole (p.reply k.world which [] k.store.memory) (d k.world [] k.store.memory tt)) tt) tt in
        subst P (sym e) at_procedure d

    along_whole : (vs : List ℕ) → WholeFits s (takes_along k [] 0 vs [] end)
    along_whole vs =
        surely (WholeFits s) (nat_le 0 (length vs)) (goes k [] end) no_row (le-leb 0 (length vs) (omega arith)) (fs, tt)

    frame_whole : (locals : List ValType) (o : Outcome W)
        → OutcomeFits (inside_function s locals None) [] o → WholeFits s (in_frame k [] [] 0 end o)
    frame_whole locals (stepped cost store w now inner) f = (f.0, (refl, locals, f.1, f.2))
    frame_whole locals (finished []) f = (fs, tt)
    frame_whole locals (finished (v ∷ vs)) f = absurd f
    frame_whole locals (branching zero vs) f = along_whole vs
    frame_whole locals (branching (suc l) vs) f = let never : ⊥ = cc f.1 in absurd never
    frame_whole locals (returning vs) f = along_whole vs
    frame_whole locals (exited code w) f = tt
    frame_whole locals (traps_with kind) f = tt
    frame_whole locals no_row f = f

    whole_fits : (term : Term) → IsOutermost s term → WholeFits s (walk p k [] [] term)
    unfolding walk
    whole_fits end t = tt
    whole_fits (plain (call f) end) t =
        let h : HasFunction s p f procedure = its_function f t in
        subst (λ (o : Option Callee). WholeFits s (called p k [] 0 [] end o)) (sym h.there) (procedure_called h.callee h.typed h.fits)
    whole_fits (frame n now inner end) t =
        let P : ℕ → Type 0 = λ x. WholeFits s (in_frame k [] [] x end (walk p k now [] inner)) in
        subst P (sym t.0) (frame_whole t.1 (walk p k now [] inner)
        (walk_fits p k (inside_function s t.1 None) now [] inner [] [] m fs t.2 tt t.3))
    whole_fits term t = absurd t

  -- ---- configurations

  -- a call from outside
  entered : (f : ℕ) → StartFits s f → IsOutermost s (called_from_outside (slice_get p.functions f) f)
  entered f t =
      let h : HasFunction s p f procedure = its_function f t in
      subst (λ (o : Option Callee). IsOutermost s (called_from_outside o f)) (sym h.there) (by_callee h.callee h.typed h.fits) where
        by_callee : (callee : Callee) → type_of callee ≡ procedure → CalleeFits s p.reply callee
            → IsOutermost s (called_from_outside (Some callee) f)
        by_callee (own sort locals body) e d =
            let P : FuncType → Type 0 = λ x.
            CalleeFits s p.reply (own x locals body) → IsOutermost s (called_from_outside (Some (own x locals body)) f) in
            let at_procedure : P procedure = λ d. procedure_frame s p.reply locals body d in
            subst P (sym e) at_procedure d
        by_callee (outside sort which) e d = t

  next_of_fits : (calls : List ℕ) (k : Config W) (o : Outcome W) → StoreFits s k.store → WholeFits s o
      → AllByRecursion (StartFits s) calls → NextFits s (next_of p k calls o)
  next_of_fits calls k (stepped cost store w ls term) fs f c = record { store = f.0; term = f.1; calls = c }
  next_of_fits [] k (finished vs) fs f c = tt
  next_of_fits (first ∷ calls) k (finished vs) fs f c =
      let now : Config W = entry p k first calls in
      next_of_fits calls now (walk p now [] [] now.term) fs (whole_fits now fs now.term (entered first c.0)) c.1
  next_of_fits calls k (branching l vs) fs f c = f
  next_of_fits calls k (returning vs) fs f c = f
  next_of_fits calls k (exited code w) fs f c = tt
  next_of_fits calls k (traps_with kind) fs f c = tt
  next_of_fits calls k no_row fs f c = f

  -- one step
  next_fits : (k : Config W) → ConfigFits s k → NextFits s (next p k)
  next_fits k t = next_of_fits k.calls k (walk p k [] [] k.term) t.store (whole_fits k t.store k.term t.term) t.calls

  -- many steps
  rows_fit : (rows n : ℕ) (k last : Config W) → ConfigFits s k → Rows p rows n k last → ConfigFits s last
  unfolding Rows
  rows_fit zero n k last t rs = subst (λ (x : Config W). ConfigFits s x) rs.1 t
  rows_fit (suc rows) n k last t rs =
      let middle : NextFits s (step rs.0 rs.2) = subst (λ (x : Next W). NextFits s x) rs.4 (next_fits k t) in
      rows_fit rows rs.1 rs.2 last middle rs.5

  -- a configuration that fits is never lost
  pub fitting_never_lost : (k : Config W) → ConfigFits s k → NeverLost p k
  fitting_never_lost k t rows n last rs is =
      subst (λ (x : Next W). NextFits s x) is (next_fits last (rows_fit rows n k last t rs))

starts : (s : Spaces) (first : Option ℕ) (main : ℕ) {W : Type 0} (store : Store) (w : W) → StoreFits s store
    → IfSome first (StartFits s) → StartFits s main → ConfigFits s (start store w first main)
starts s None main store w fs f t = record { store = fs; term = tt; calls = (t, tt) }
starts s (Some x) main store w fs f t = record { store = fs; term = tt; calls = (f, (t, tt)) }

-- the program of a valid module never gets stuck
pub never_lost : {W : Type 0} (finds : List ℕ → List ℕ → FuncType → Option ℕ) → ProgramsNeverLost W finds
never_lost finds m p store w first main linked f t =
    let s : Spaces = spaces_of m in
    fitting_never_lost p s (program_fits finds m p store linked) (start store w first main)
    (starts s first main store w (store_fits finds m p store linked) f t)
