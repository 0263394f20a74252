-- A linked program has the functions that its module's code may name, and its store fits the module.
use Rattle.std.proofs.Common.{ℕ, zero, suc, ◌+◌, ◌-◌, ◌≡◌, ◌≤◌, ◌<◌, inl, inr, List, [], ◌∷◌, ◌++◌, length, refl, ap, ◌∙◌, subst, arith, Option, Some, None, slice_get}
use Rattle.std.specs.Prelude.{All, IfSome, option_and_then}
use Rattle.std.proofs.lemmas.Bool.{cases_lt}
use Rattle.std.proofs.lemmas.List.{length-append}
use Rattle.std.proofs.lemmas.Option.{slice_get_within}
use Rattle.vr_wasm_ast.specs.declared.tree.FuncType.{FuncType}
use Rattle.vr_wasm_ast.specs.declared.tree.Module.{Module}
use Rattle.vr_wasm_ast.specs.declared.tree.ValType.{ValType}
use Rattle.vr_wasm_ast.specs.Imports.{imported_functions}
use Rattle.vr_wasm_ast.specs.Limits.{TypeWithin}
use Rattle.vr_wasm_link.specs.Linked.{IsImported, IsLinked, IsOwn}
use Rattle.vr_wasm_steps.specs.Rows.{Program, arity, own, outside}
use Rattle.vr_wasm_steps.specs.Store.{Store}
use Rattle.vr_wasm_valid.specs.Context.{Spaces, function_type, result_of, spaces_of}
use Rattle.vr_wasm_valid.proofs.ValidLemmas.{all_at, body_leads, function_typed, parts_fit}
use Rattle.vr_wasm_progress.specs.Typed.{HasFunction, ProgramFits, StoreFits, global_values}
use Rattle.vr_wasm_progress.proofs.FittingLemmas.{are_from_fits, fits_from_are}

-- ---- functions

-- the type of a function is one of the module's
type_there : (g : ℕ → Option FuncType) (o : Option ℕ) (sort : FuncType) → option_and_then g o ≡ Some sort
    → (n : ℕ) × (o ≡ Some n) × (g n ≡ Some sort)
type_there g None sort e = let never : ⊥ = cc e in absurd never
type_there g (Some n) sort e = (n, refl, e)

at_most_one : (results : List ValType) → length results ≤ 1 → length results ≡ arity (slice_get results 0)
at_most_one [] few = refl
at_most_one (t ∷ []) few = refl
at_most_one (t ∷ u ∷ ts) few = absurd (omega (arith, few))

get_after : {A : Type 0} (xs ys : List A) (n k : ℕ) → n ≡ length xs + k → slice_get (xs ++ ys) n ≡ slice_get ys k
get_after [] ys n k e = let same : n ≡ k = omega arith in ap (λ i. slice_get ys i) same
get_after (x ∷ xs) ys zero k e = absurd (omega (arith, e))
get_after (x ∷ xs) ys (suc n) k e = get_after xs ys n k (omega (arith, e))

module _ {W : Type 0} (finds : List ℕ → List ℕ → FuncType → Option ℕ) (m : Module) (p : Program W) (store : Store) (linked : IsLinked finds m p store) where
  one_result : (f : ℕ) (sort : FuncType) → function_type (spaces_of m) f ≡ Some sort
      → length sort.results ≡ arity (result_of sort)
  one_result f sort e =
      let s : Spaces = spaces_of m in
      let n : (n : ℕ) × (slice_get s.functions f ≡ Some n) × (slice_get s.types n ≡ Some sort) =
      type_there (λ i. slice_get s.types i) (slice_get s.functions f) sort e in
      let within : TypeWithin sort = all_at TypeWithin m.types n.0 sort linked.valid.limits.each_type n.2 in
      at_most_one sort.results within.1

  outside_fits : (f : ℕ) (sort : FuncType) → function_type (spaces_of m) f ≡ Some sort
      → IsImported finds m p.functions f → HasFunction (spaces_of m) p f sort
  outside_fits f sort e i =
      let same : i.sort ≡ sort = cc (i.typed, e) in record {
        callee = outside i.sort i.which;
        there = i.there;
        typed = same;
        one_result = one_result f sort e;
        fits = λ w args memory fits. linked.replies i.from i.name i.sort i.which w args memory i.found (are_from_fits i.sort.params args fits);
      }

  own_fits : (f place : ℕ) (sort : FuncType) → f ≡ length (imported_functions m.imports) + place
      → function_type (spaces_of m) f ≡ Some sort → IsOwn m p.functions place
      → HasFunction (spaces_of m) p f sort
  own_fits f place sort at e o =
      let s : Spaces = spaces_of m in
      let declared : slice_get s.functions f ≡ Some o.typed.index =
      get_after (imported_functions m.imports) m.functions f place at ∙ o.typed.declared in
      let typed : function_type s f ≡ Some o.sort =
      ap (λ (x : Option ℕ). option_and_then (λ i. slice_get m.types i) x) declared ∙ o.typed.type_there in
      let same : o.sort ≡ sort = cc (typed, e) in record {
        callee = own o.sort (length o.code.locals) _;
        there = ap (λ i. slice_get p.functions i) at ∙ o.there;
        typed = same;
        one_result = one_result f sort e;
        fits = (o.code.locals, refl, body_leads m place o.sort o.code o.typed);
      }

  function_fits : (f : ℕ) (sort : FuncType) → function_type (spaces_of m) f ≡ Some sort
      → HasFunction (spaces_of m) p f sort
  function_fits f sort e =
      let s : Spaces = spaces_of m in
      let imports : ℕ = length (imported_functions m.imports) in
      let n : (n : ℕ) × (slice_get s.functions f ≡ Some n) × (slice_get s.types n ≡ Some sort) =
      type_there (λ i. slice_get s.types i) (slice_get s.functions f) sort e in
      let within : f < length s.functions = slice_get_within s.functions f n.0 n.1 in
      let count : length s.functions ≡ imports + length m.functions = length-append (imported_functions m.imports) m.functions in
      elim (cases_lt f imports) [
        | inl first ↦ outside_fits f sort e (linked.imported f first)
        | inr after ↦ own_fits f (f - imports) sort (omega arith) e (linked.owned (f - imports) (omega arith))
      ]

  pub program_fits : ProgramFits (spaces_of m) p
  program_fits = record {
    types = linked.types;
    named = λ f within. function_typed m (parts_fit m linked.valid.typed) f within;
    functions = function_fits;
  }

  pub store_fits : StoreFits (spaces_of m) store
  store_fits = record {
    memory = linked.memory;
    table = subst (λ n. All (λ (entry : Option ℕ). IfSome entry (λ f. f < n)) store.table) linked.count linked.table;
    globals = fits_from_are (global_values (spaces_of m).globals) store.globals linked.globals;
  }
