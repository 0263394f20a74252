-- The functions of a program that was linked.
use Rattle.std.proofs.Common.{◌≡◌, ℕ, zero, suc, ◌+◌, ◌<◌, List, [], ◌∷◌, ◌++◌, Option, None, Some, false, length, slice_get, refl, sym, ap, inl, inr, ◌∙◌, arith}
use Rattle.std.specs.Prelude.{All, is_none, option_and_then}
use Rattle.std.specs.List.{cons_option, filter_map, position_from, zip}
use Rattle.std.specs.Option.{option_map}
use Rattle.std.proofs.lemmas.Option.{option_and_then_some, slice_get_cases}
use Rattle.vr_wasm_ast.specs.declared.tree.Code.{Code}
use Rattle.vr_wasm_ast.specs.declared.tree.FuncType.{FuncType}
use Rattle.vr_wasm_ast.specs.declared.tree.Import.{Import}
use Rattle.vr_wasm_ast.specs.declared.tree.ImportKind.{ImportKind}
use Rattle.vr_wasm_ast.specs.declared.tree.ImportKind.TheVariants as imported
use Rattle.vr_wasm_ast.specs.Imports.{function_of, global_of, imported_functions, imported_globals, imported_memories, imported_tables, memory_of, table_of}
use Rattle.vr_wasm_ast.specs.Instructions.{instructions_of}
use Rattle.vr_wasm_steps.specs.Rows.{Callee, own, outside}
use Rattle.vr_wasm_link.specs.Opening.{Finds, imported_callee, is_missing, own_callee}
use Rattle.vr_wasm_link.proofs.PlaceLemmas.{none_first}

-- ---- lists

pub slice_get-append_left : {X : Type 0} (xs ys : List X) (k : ℕ) → k < length xs
    → slice_get (xs ++ ys) k ≡ slice_get xs k
slice_get-append_left [] ys k within = let never : ⊥ = omega arith in absurd never
slice_get-append_left (x ∷ xs) ys zero within = refl
slice_get-append_left (x ∷ xs) ys (suc k) within = slice_get-append_left xs ys k (omega arith)

pub slice_get-append_right : {X : Type 0} (xs ys : List X) (k : ℕ)
    → slice_get (xs ++ ys) (length xs + k) ≡ slice_get ys k
slice_get-append_right {X} [] ys k =
    let e : length {A = X} [] + k ≡ k = omega arith in ap (slice_get ys) e
slice_get-append_right (x ∷ xs) ys k =
    let e : length (x ∷ xs) + k ≡ suc (length xs + k) = omega arith in
    ap (slice_get (x ∷ xs ++ ys)) e ∙ slice_get-append_right xs ys k

-- ---- imported functions

-- the host has the function that is imported here
pub record IsHosted (finds : Finds) (types : List FuncType) (i : Import)
    : Type 0 where
  pub index : ℕ
  pub sort : FuncType
  pub which : ℕ
  pub kind : function_of i.what ≡ Some index
  pub typed : slice_get types index ≡ Some sort
  pub found : finds i.module i.name sort ≡ Some which
  pub callee : imported_callee finds types i ≡ Some (outside sort which)

some_there : {A : Type 0} (o : Option A) → is_none o ≡ false → (x : A) × (o ≡ Some x)
some_there None there = let never : ⊥ = cc there in absurd never
some_there (Some x) there = (x, refl)

mapped_from : {A B : Type 0} (f : A → B) (o : Option A) (y : B) → option_map f o ≡ Some y
    → (x : A) × (o ≡ Some x) × (f x ≡ y)
mapped_from f None y is = let never : ⊥ = cc is in absurd never
mapped_from f (Some x) y is = (x, refl, cc is)

hosted : (finds : Finds) (types : List FuncType) (i : Import)
    → is_missing finds types i ≡ false → IsHosted finds types i
hosted finds types i there =
    let by_sort : FuncType → Option Callee = λ sort. option_map (λ which. outside sort which) (finds i.module i.name sort) in
    let by_index : ℕ → Option Callee = λ n. option_and_then by_sort (slice_get types n) in
    let c = some_there (imported_callee finds types i) there in
    option_and_then_some by_index (function_of i.what) c.0 c.1 (λ index kind at_index.
    option_and_then_some by_sort (slice_get types index) c.0 at_index (λ sort typed at_sort.
    let w = mapped_from (λ which. outside sort which) (finds i.module i.name sort) c.0 at_sort in
    record {
      index = index;
      sort = sort;
      which = w.0;
      kind = kind;
      typed = typed;
      found = w.1;
      callee = c.1 ∙ ap Some (sym w.2);
    }))

-- what the first import and the others are, where none is missing
first_hosted : (finds : Finds) (types : List FuncType) (i : Import)
    (is : List Import) (from : ℕ) → position_from (is_missing finds types) from (i ∷ is) ≡ None
    → IsHosted finds types i × (position_from (is_missing finds types) (from + 1) is ≡ None)
first_hosted finds types i is from none =
    let parts = none_first (is_missing finds types) i is from (is_missing finds types i) refl none in
    (hosted finds types i parts.0, parts.1)

-- each imported function has its place among the program's
pub imported_count : (finds : Finds) (types : List FuncType)
    (imports : List Import) (from : ℕ) → position_from (is_missing finds types) from imports ≡ None
    → length (filter_map (imported_callee finds types) imports) ≡ length (imported_functions imports)
imported_count finds types [] from none = refl
imported_count finds types (i ∷ is) from none =
    let parts = first_hosted finds types i is from none in
    let rest = imported_count finds types is (from + 1) parts.1 in
    let left = ap (λ o. length (cons_option o (filter_map (imported_callee finds types) is))) parts.0.callee in
    let right = ap (λ o. length (cons_option o (imported_functions is))) parts.0.kind in
    left ∙ ap suc rest ∙ sym right

-- what is known of the imported function at a place
pub record HostedAt (finds : Finds) (types : List FuncType) (imports : List Import)
    (f : ℕ) : Type 0 where
  pub index : ℕ
  pub sort : FuncType
  pub which : ℕ
  pub from : List ℕ
  pub name : List ℕ
  pub kind : slice_get (imported_functions imports) f ≡ Some index
  pub typed : slice_get types index ≡ Some sort
  pub found : finds from name sort ≡ Some which
  pub callee : slice_get (filter_map (imported_callee finds types) imports) f ≡ Some (outside sort which)

pub imported_at : (finds : Finds) (types : List FuncType) (imports : List Import)
    (from f : ℕ) → position_from (is_missing finds types) from imports ≡ None
    → f < length (imported_functions imports) → HostedAt finds types imports f
imported_at finds types [] from f none within = let never : ⊥ = omega arith in absurd never
imported_at finds types (i ∷ is) from zero none within =
    let h = (first_hosted finds types i is from none).0 in
    record {
      index = h.index;
      sort = h.sort;
      which = h.which;
      from = i.module;
      name = i.name;
      kind = ap (λ o. slice_get (cons_option o (imported_functions is)) 0) h.kind;
      typed = h.typed;
      found = h.found;
      callee = ap (λ o. slice_get (cons_option o (filter_map (imported_callee finds types) is)) 0) h.callee;
    }
imported_at finds types (i ∷ is) from (suc f) none within =
    let parts = first_hosted finds types i is from none in
    let h = parts.0 in
    let counted = ap (λ o. length (cons_option o (imported_functions is))) h.kind in
    let r = imported_at finds types is (from + 1) f parts.1 (omega (arith, counted)) in
    record {
      index = r.index;
      sort = r.sort;
      which = r.which;
      from = r.from;
      name = r.name;
      kind = ap (λ o. slice_get (cons_option o (imported_functions is)) (suc f)) h.kind ∙ r.kind;
      typed = r.typed;
      found = r.found;
      callee = ap (λ o. slice_get (cons_option o (filter_map (imported_callee finds types) is)) (suc f)) h.callee
          ∙ r.callee;
    }

-- an imported function is nothing else
function_alone : (what : ImportKind) (index : ℕ) → function_of what ≡ Some index
    → (table_of what ≡ None) × (memory_of what ≡ None) × (global_of what ≡ None)
function_alone (imported.Func sort) index is = (refl, refl, refl)
function_alone (imported.Table limits) index is = let never : ⊥ = cc is in absurd never
function_alone (imported.Memory limits) index is = let never : ⊥ = cc is in absurd never
function_alone (imported.Global sort) index is = let never : ⊥ = cc is in absurd never

-- where none is missing, functions alone are imported
pub functions_alone : (finds : Finds) (types : List FuncType)
    (imports : List Import) (from : ℕ) → position_from (is_missing finds types) from imports ≡ None
    → (imported_tables imports ≡ []) × (imported_memories imports ≡ []) × (imported_globals imports ≡ [])
functions_alone finds types [] from none = (refl, refl, refl)
functions_alone finds types (i ∷ is) from none =
    let parts = first_hosted finds types i is from none in
    let alone = function_alone i.what parts.0.index parts.0.kind in
    let rest = functions_alone finds types is (from + 1) parts.1 in (
      ap (λ o. cons_option o (imported_tables is)) alone.0 ∙ rest.0,
      ap (λ o. cons_option o (imported_memories is)) alone.1 ∙ rest.1,
      ap (λ o. cons_option o (imported_globals is)) alone.2 ∙ rest.2,
    )

-- ---- the module's own functions

own_there : (types : List FuncType) (n : ℕ) (code : Code) → n < length types
    → (sort : FuncType) × (slice_get types n ≡ Some sort)
own_there types n code within = elim (slice_get_cases types n).1 [
  | inl at ↦ (at.0, at.2)
  | inr past ↦ absurd (omega (arith, past.0))
]

own_is : (types : List FuncType) (n : ℕ) (code : Code) (sort : FuncType) → slice_get types n ≡ Some sort
    → own_callee types (n, code) ≡ Some (own sort (length code.locals) (instructions_of code.body))
own_is types n code sort at =
    ap (λ o. option_map (λ (t : FuncType). own t (length code.locals) (instructions_of code.body)) o) at

pub own_count : (types : List FuncType) (ns : List ℕ) (cs : List Code) → length cs ≡ length ns
    → All (λ n. n < length types) ns → length (filter_map (own_callee types) (zip ns cs)) ≡ length ns
own_count types [] cs same fit = refl
own_count types (n ∷ ns) [] same fit = let never : ⊥ = omega arith in absurd never
own_count types (n ∷ ns) (c ∷ cs) same fit =
    let sort = own_there types n c (fit 0 n (omega arith)) in
    let rest = own_count types ns cs (omega arith) (λ k d within. fit (suc k) d (omega arith)) in
    ap (λ o. length (cons_option o (filter_map (own_callee types) (zip ns cs)))) (own_is types n c sort.0 sort.1)
    ∙ ap suc rest

-- each own function has its place among the program's
pub own_at : (types : List FuncType) (ns : List ℕ) (cs : List Code) (k n : ℕ) (sort : FuncType) (code : Code)
    → All (λ n. n < length types) ns → slice_get ns k ≡ Some n → slice_get types n ≡ Some sort
    → slice_get cs k ≡ Some code
    → slice_get (filter_map (own_callee types) (zip ns cs)) k
    ≡ Some (own sort (length code.locals) (instructions_of code.body))
own_at types [] cs k n sort code fit at_n typed at_code = let never : ⊥ = cc at_n in absurd never
own_at types (m ∷ ns) [] k n sort code fit at_n typed at_code = let never : ⊥ = cc at_code in absurd never
own_at types (m ∷ ns) (c ∷ cs) zero n sort code fit at_n typed at_code =
    let same_n : m ≡ n = cc at_n in
    let same_code : c ≡ code = cc at_code in
    let here : own_callee types (m, c) ≡ Some (own sort (length code.locals) (instructions_of code.body)) =
    ap (λ x. own_callee types (x, c)) same_n ∙ ap (λ y. own_callee types (n, y)) same_code
    ∙ own_is types n code sort typed in
    ap (λ o. slice_get (cons_option o (filter_map (own_callee types) (zip ns cs))) 0) here
own_at types (m ∷ ns) (c ∷ cs) (suc k) n sort code fit at_n typed at_code =
    let first = own_there types m c (fit 0 m (omega arith)) in
    ap (λ o. slice_get (cons_option o (filter_map (own_callee types) (zip ns cs))) (suc k))
    (own_is types m c first.0 first.1)
    ∙ own_at types ns cs k n sort code (λ j d within. fit (suc j) d (omega arith)) at_n typed at_code
