-- What an interpreter needs of a valid module.
use Rattle.std.proofs.Common.{◌≡◌, ℕ, zero, suc, ◌+◌, ◌<◌, ◌≤◌, List, [], ◌∷◌, ◌++◌, Option, None, Some, map, slice_get, length, refl, subst, ap, ◌∙◌, inl, inr, arith}
use Rattle.std.specs.Prelude.{All, IfSome, IsSomeAnd, option_and_then, option_to_list}
use Rattle.std.specs.List.{cons_option, enumerate_from, flat_map, zip}
use Rattle.std.proofs.lemmas.List.Elements.{All-append, All-cons, All-nil}
use Rattle.std.proofs.lemmas.Option.{get_or_from_slice_get, slice_get_cases, slice_get_within}
use Rattle.vr_wasm_ast.specs.declared.instr.Instr.{Instr}
use Rattle.vr_wasm_ast.specs.declared.tree.Code.{Code}
use Rattle.vr_wasm_ast.specs.declared.tree.FuncType.{FuncType}
use Rattle.vr_wasm_ast.specs.declared.tree.GlobalType.{GlobalType}
use Rattle.vr_wasm_ast.specs.declared.tree.Import.{Import}
use Rattle.vr_wasm_ast.specs.declared.tree.ImportKind.{ImportKind}
use Rattle.vr_wasm_ast.specs.declared.tree.ImportKind.TheVariants as imported
use Rattle.vr_wasm_ast.specs.declared.tree.Module.{Module}
use Rattle.vr_wasm_ast.specs.declared.tree.ValType.{ValType}
use Rattle.vr_wasm_ast.specs.Imports.{function_of, imported_functions, imported_globals}
use Rattle.vr_wasm_ast.specs.Instructions.{instruction_of, instructions_of}
use Rattle.vr_wasm_valid.specs.declared.answer.TheConstants.{BODIES, ELEMENTS, EXPORTS, FUNCTIONS, GLOBALS, IMPORTS, MEMORIES, SEGMENTS, START, TABLES}
use Rattle.vr_wasm_valid.specs.Constant.{constant_type_of}
use Rattle.vr_wasm_valid.specs.Context.{Spaces, spaces_of, function_type, inside_function, result_of}
use Rattle.vr_wasm_valid.specs.Parts.{Component, Placed, AreTyped, BodyFits, HasTypedBody, ImportFits, IsConstantExpression, IsTyped, IsTypedIn, MemoryFits, StartFits, TableFits, parts_of, placed_bodies, placed_elements, placed_exports, placed_from, placed_functions, placed_globals, placed_imports, placed_memories, placed_segments, placed_start, placed_tables, the_body, the_element, the_export, the_function, the_global, the_import, the_memory, the_segment, the_start, the_table}
use Rattle.vr_wasm_valid.specs.Steps.{LeadsTo}
use Rattle.vr_wasm_valid.specs.Valid.{IsTypedFunction, IsValid, PartsFit}
use Rattle.vr_wasm_valid.proofs.ConstantLemmas.{typed_constant}
use Rattle.vr_wasm_valid.proofs.TypingLemmas.{LeadsTo-HasTyping}

-- ---- lists

-- what holds of each item holds of the one at a place
pub all_at : {X : Type 0} (P : X → Type 0) (xs : List X) (k : ℕ) (x : X) → All P xs
    → slice_get xs k ≡ Some x → P x
all_at P xs k x fit there =
    subst P (get_or_from_slice_get xs k x x there) (fit k x (slice_get_within xs k x there))

-- what holds of each item of both lists
split_all : {X : Type 0} (P : X → Type 0) (xs ys : List X) → All P (xs ++ ys) → All P xs × All P ys
split_all P [] ys fit = (All-nil P, fit)
split_all P (x ∷ xs) ys fit =
    let rest = split_all P xs ys (λ k d within. fit (suc k) d (omega arith)) in
    (All-cons P x xs (fit 0 x (omega arith)) rest.0, rest.1)

item_there : {X : Type 0} (xs : List X) (k : ℕ) → k < length xs → (x : X) × (slice_get xs k ≡ Some x)
item_there xs k within = elim (slice_get_cases xs k).1 [
  | inl at ↦ (at.0, at.2)
  | inr past ↦ absurd (omega (arith, past.0))
]

-- ---- parts

part_typed : (T : Component → Type 0) (parts : List (List Placed)) (k : ℕ) (part : List Placed)
    → AreTyped T (flat_map (λ (p : List Placed). p) parts) → slice_get parts k ≡ Some part
    → AreTyped T part
part_typed T [] k part typed there = let never : ⊥ = cc there in absurd never
part_typed T (p ∷ parts) zero part typed there =
    let same : p ≡ part = cc there in
    let Q : List Placed → Type 0 = λ x. AreTyped T x in
    subst Q same (split_all (λ (c : Placed). T c.what) p (flat_map (λ (q : List Placed). q) parts) typed).0
part_typed T (p ∷ parts) (suc k) part typed there =
    let rest = flat_map (λ (q : List Placed). q) parts in
    part_typed T parts k part (split_all (λ (c : Placed). T c.what) p rest typed).1 there

unplaced : {A : Type 0} (T : Component → Type 0) (f : A → Component) (xs : List A) (part from : ℕ)
    → AreTyped T (placed_from part from (map f xs)) → All (λ x. T (f x)) xs
unplaced T f [] part from typed = All-nil (λ x. T (f x))
unplaced T f (x ∷ xs) part from typed =
    let first : Placed = record { part = part; index = from; what = f x } in
    All-cons (λ y. T (f y)) x xs (typed 0 first (omega arith))
    (unplaced T f xs part (from + 1) (λ k d within. typed (suc k) d (omega arith)))

-- a list of which each item is the only one
alone : {X : Type 0} (P : X → Type 0) (xs : List X) → All (λ x. P x × (length xs ≤ 1)) xs
    → length xs ≤ 1
alone P [] fit = omega arith
alone P (x ∷ xs) fit = (fit 0 x (omega arith)).1

only_start : (P : ℕ → Type 0) (start : Option ℕ) → All P (option_to_list start) → IfSome start P
only_start P None fit = tt
only_start P (Some f) fit = fit 0 f (omega arith)

first_facts : {X Q : Type 0} (P : X → Type 0) (xs : List X) → All (λ x. P x × Q) xs → All P xs
first_facts P xs fit k d within = (fit k d within).0

-- that each component is typed, said part by part
pub parts_fit : (m : Module) → IsTyped m → PartsFit m
parts_fit m typed =
    let s = spaces_of m in
    let T : Component → Type 0 = IsTypedIn s m in
    let functions = length (imported_functions m.imports) in
    let globals = length (imported_globals m.imports) in
    let part : (k : ℕ) (p : List Placed) → slice_get (parts_of m) k ≡ Some p → AreTyped T p =
    λ k p there. part_typed T (parts_of m) k p typed there in
    let tables = unplaced T the_table s.tables TABLES 0 (part 2 (placed_tables m) refl) in
    let memories = unplaced T the_memory s.memories MEMORIES 0 (part 3 (placed_memories m) refl) in
    let start = unplaced T the_start (option_to_list m.start) START 0 (part 6 (placed_start m) refl) in
    record {
      imports = unplaced T the_import m.imports IMPORTS 0 (part 0 (placed_imports m) refl);
      functions = unplaced T the_function m.functions FUNCTIONS functions (part 1 (placed_functions m) refl);
      tables = first_facts TableFits s.tables tables;
      one_table = alone TableFits s.tables tables;
      memories = first_facts MemoryFits s.memories memories;
      one_memory = alone MemoryFits s.memories memories;
      globals = unplaced T the_global m.globals GLOBALS globals (part 4 (placed_globals m) refl);
      exports = unplaced T the_export (enumerate_from 0 m.exports) EXPORTS 0 (part 5 (placed_exports m) refl);
      start = only_start (StartFits s) m.start start;
      elements = unplaced T the_element m.elements ELEMENTS 0 (part 7 (placed_elements m) refl);
      bodies = unplaced T the_body (zip m.functions m.codes) BODIES functions (part 8 (placed_bodies m) refl);
      segments = unplaced T the_segment m.segments SEGMENTS 0 (part 9 (placed_segments m) refl);
    }

-- ---- functions

next_typed : (s : Spaces) (what : ImportKind) (ns : List ℕ) → ImportFits s what
    → All (λ n. n < length s.types) ns
    → All (λ n. n < length s.types) (cons_option (function_of what) ns)
next_typed s (imported.Func sort) ns fits rest = All-cons (λ n. n < length s.types) sort ns fits rest
next_typed s (imported.Table limits) ns fits rest = rest
next_typed s (imported.Memory limits) ns fits rest = rest
next_typed s (imported.Global sort) ns fits rest = rest

imported_typed : (s : Spaces) (imports : List Import)
    → All (λ (i : Import). ImportFits s i.what) imports
    → All (λ n. n < length s.types) (imported_functions imports)
imported_typed s [] fit = All-nil (λ n. n < length s.types)
imported_typed s (i ∷ is) fit =
    next_typed s i.what (imported_functions is) (fit 0 i (omega arith))
    (imported_typed s is (λ k d within. fit (suc k) d (omega arith)))

-- the type of each function is there, of an imported one too
pub types_there : (m : Module) → PartsFit m → All (λ n. n < length m.types) (spaces_of m).functions
types_there m fit =
    All-append (λ n. n < length m.types) (imported_functions m.imports) m.functions
    (imported_typed (spaces_of m) m.imports fit.imports) fit.functions

pub function_typed : (m : Module) → PartsFit m → (f : ℕ) → f < length (spaces_of m).functions
    → (sort : FuncType) × (function_type (spaces_of m) f ≡ Some sort)
function_typed m fit f within =
    let s = spaces_of m in
    let n = item_there s.functions f within in
    let there = all_at (λ n. n < length m.types) s.functions f n.0 (types_there m fit) n.1 in
    let sort = item_there m.types n.0 there in
    (sort.0, ap (λ (o : Option ℕ). option_and_then (λ i. slice_get m.types i) o) n.1 ∙ sort.1)

zip_at : {K X : Type 0} (P : K × X → Type 0) (ks : List K) (xs : List X) (i : ℕ) (k : K) (x : X)
    → slice_get ks i ≡ Some k → slice_get xs i ≡ Some x → All P (zip ks xs) → P (k, x)
zip_at P [] xs i k x at_k at_x fit = let never : ⊥ = cc at_k in absurd never
zip_at P (l ∷ ks) [] i k x at_k at_x fit = let never : ⊥ = cc at_x in absurd never
zip_at {K} {X} P (l ∷ ks) (y ∷ xs) zero k x at_k at_x fit =
    let same : ◌≡◌ {A = K × X} (l, y) (k, x) = cc (at_k, at_x) in
    subst P same (fit 0 (l, y) (omega arith))
zip_at P (l ∷ ks) (y ∷ xs) (suc i) k x at_k at_x fit =
    zip_at P ks xs i k x at_k at_x (λ j d within. fit (suc j) d (omega arith))

some_there : {X : Type 0} (P : X → Type 0) (o : Option X) → IsSomeAnd o P → (x : X) × (o ≡ Some x) × P x
some_there P None p = absurd p
some_there P (Some x) p = (x, refl, p)

-- each of the module's own functions has its code, and the body has a typing
pub own_function : (m : Module) → IsValid m → (k : ℕ) → k < length m.functions
    → (sort : FuncType) × (code : Code) × IsTypedFunction m k sort code
own_function m valid k within =
    let s = spaces_of m in
    let n = item_there m.functions k within in
    let paired : k < length m.codes = omega (arith, valid.codes) in
    let code = item_there m.codes k paired in
    let bodies = (parts_fit m valid.typed).bodies in
    let P : ℕ × Code → Type 0 = λ f. BodyFits s f.0 f.1 in
    let fits = zip_at P m.functions m.codes k n.0 code.0 n.1 code.1 bodies in
    let sort = some_there (λ (t : FuncType). HasTypedBody s t code.0) (slice_get s.types n.0) fits in (
      sort.0,
      code.0,
      record {
        index = n.0;
        declared = n.1;
        type_there = sort.1;
        code_there = code.1;
        body = sort.2;
      },
    )

-- the same by the steps of its instructions
pub body_leads : (m : Module) (k : ℕ) (sort : FuncType) (code : Code) → IsTypedFunction m k sort code
    → LeadsTo (inside_function (spaces_of m) (sort.params ++ code.locals) (result_of sort))
    (instructions_of code.body) (result_of sort)
body_leads m k sort code f =
    let c = inside_function (spaces_of m) (sort.params ++ code.locals) (result_of sort) in
    (LeadsTo-HasTyping c (instructions_of code.body)).1 f.body

-- ---- constants

-- a constant expression is one constant instruction of the wanted type
pub constant_of : (globals : List GlobalType) (wanted : ValType) (is : List Instr)
    → IsConstantExpression globals wanted (instructions_of is)
    → (i : Instr) × (is ≡ i ∷ []) × (constant_type_of globals (instruction_of i) ≡ Some wanted)
constant_of globals wanted [] p = absurd p.constant
constant_of globals wanted (i ∷ []) p = (i, refl, typed_constant globals wanted (instruction_of i) p)
constant_of globals wanted (i ∷ j ∷ is) p = absurd p.constant
