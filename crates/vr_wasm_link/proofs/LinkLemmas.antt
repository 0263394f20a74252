-- What a module opens with that has no link fault is linked: a machine can run it.
use Rattle.std.proofs.Common.{◌≡◌, ℕ, ◌+◌, ◌-◌, ◌*◌, ◌<◌, ◌≤◌, List, [], ◌∷◌, ◌++◌, Option, None, Some, Ok, true, length, map, slice_get, refl, sym, subst, ap, inl, inr, ◌∙◌, arith, length-append}
use Rattle.std.specs.Prelude.{All, IfSome, IsFalse, IsSomeAnd, option_and_then}
use Rattle.std.proofs.lemmas.Bool.{and_parts, cases_lt, eqb-true}
use Rattle.std.proofs.lemmas.List.Elements.{All-replicate}
use Rattle.std.proofs.lemmas.Option.{slice_get_within}
use Rattle.vr_wasm_ast.specs.declared.tree.Element.{Element}
use Rattle.vr_wasm_ast.specs.declared.tree.FuncType.{FuncType}
use Rattle.vr_wasm_ast.specs.declared.tree.GlobalDef.{GlobalDef}
use Rattle.vr_wasm_ast.specs.declared.tree.GlobalType.{GlobalType}
use Rattle.vr_wasm_ast.specs.declared.tree.Limits.{Limits}
use Rattle.vr_wasm_ast.specs.declared.tree.Segment.{Segment}
use Rattle.vr_wasm_ast.specs.declared.tree.Module.{Module}
use Rattle.vr_wasm_ast.specs.Imports.{imported_functions}
use Rattle.vr_wasm_ast.specs.Instructions.{instructions_of}
use Rattle.vr_wasm_num.specs.declared.memory.TheConstants.{PAGE_SIZE}
use Rattle.vr_wasm_num.specs.Memory.{Contents}
use Rattle.vr_wasm_steps.specs.Hosts.{RepliesFit, Reply}
use Rattle.vr_wasm_steps.specs.Rows.{Callee, Program, own, outside, type_of}
use Rattle.vr_wasm_steps.specs.Store.{Store, are_of}
use Rattle.vr_wasm_valid.specs.Context.{function_type, spaces_of}
use Rattle.vr_wasm_valid.specs.Parts.{IsConstantExpression, MemoryFits, StartFits, TakesNothing}
use Rattle.vr_wasm_valid.specs.Valid.{IsValid}
use Rattle.vr_wasm_valid.proofs.ValidLemmas.{own_function, parts_fit}
use Rattle.vr_wasm_link.specs.Constants.{global_values}
use Rattle.vr_wasm_link.specs.Linked.{IsImported, IsLinked, IsOwn}
use Rattle.vr_wasm_link.specs.Opened.{Begins}
use Rattle.vr_wasm_link.specs.Opening.{Finds, Opening, callees, element_overruns, imported_callees, is_bare, least_size, most_pages, opening_memory, opening_of, opening_table, opening_with, own_callees, segment_overruns, takes_nothing}
use Rattle.vr_wasm_link.proofs.CheckLemmas.{Passes, passes}
use Rattle.vr_wasm_link.proofs.FunctionLemmas.{functions_alone, imported_at, imported_count, own_at, own_count, slice_get-append_left, slice_get-append_right}
use Rattle.vr_wasm_link.proofs.PlaceLemmas.{none_all}
use Rattle.vr_wasm_link.proofs.StoreLemmas.{globals_typed, least_fits, memory_paged, most_few, table_fits}

-- ---- functions

-- the type of an imported function, and of one of the module's own
imported_type : (m : Module) (f index : ℕ) (sort : FuncType) → slice_get (imported_functions m.imports) f ≡ Some index
    → slice_get m.types index ≡ Some sort → function_type (spaces_of m) f ≡ Some sort
imported_type m f index sort kind typed =
    let within = slice_get_within (imported_functions m.imports) f index kind in
    ap (λ (o : Option ℕ). option_and_then (λ i. slice_get m.types i) o)
    (slice_get-append_left (imported_functions m.imports) m.functions f within ∙ kind) ∙ typed

own_type : (m : Module) (k index : ℕ) (sort : FuncType) → slice_get m.functions k ≡ Some index
    → slice_get m.types index ≡ Some sort
    → function_type (spaces_of m) (length (imported_functions m.imports) + k) ≡ Some sort
own_type m k index sort declared typed =
    ap (λ (o : Option ℕ). option_and_then (λ i. slice_get m.types i) o)
    (slice_get-append_right (imported_functions m.imports) m.functions k ∙ declared) ∙ typed

-- as many functions as the module's index space has
callees_count : (finds : Finds) (m : Module) (pages : ℕ) (o : Opening) → IsValid m
    → Passes finds m pages o → length (callees finds m) ≡ length (spaces_of m).functions
callees_count finds m pages o valid p =
    let fit = parts_fit m valid.typed in
    let outer = imported_count finds m.types m.imports 0 p.imports in
    let inner = own_count m.types m.functions m.codes valid.codes fit.functions in
    length-append (imported_callees finds m) (own_callees m)
    ∙ ap (λ n. n + length (own_callees m)) outer ∙ ap (λ n. length (imported_functions m.imports) + n) inner
    ∙ sym (length-append (imported_functions m.imports) m.functions)

imported_linked : (finds : Finds) (m : Module) (pages : ℕ) (o : Opening)
    → Passes finds m pages o → (f : ℕ) → f < length (imported_functions m.imports)
    → IsImported finds m (callees finds m) f
imported_linked finds m pages o p f within =
    let h = imported_at finds m.types m.imports 0 f p.imports within in
    let counted = imported_count finds m.types m.imports 0 p.imports in
    let inside : f < length (imported_callees finds m) = omega (arith, counted) in
    record {
      sort = h.sort;
      which = h.which;
      from = h.from;
      name = h.name;
      typed = imported_type m f h.index h.sort h.kind h.typed;
      found = h.found;
      there = slice_get-append_left (imported_callees finds m) (own_callees m) f inside ∙ h.callee;
    }

own_linked : (finds : Finds) (m : Module) (pages : ℕ) (o : Opening) → IsValid m
    → Passes finds m pages o → (k : ℕ) → k < length m.functions → IsOwn m (callees finds m) k
own_linked finds m pages o valid p k within =
    let own_one = own_function m valid k within in
    let sort = own_one.0 in
    let code = own_one.1 in
    let typed = own_one.2 in
    let fit = parts_fit m valid.typed in
    let counted = imported_count finds m.types m.imports 0 p.imports in
    let here = own_at m.types m.functions m.codes k typed.index sort code fit.functions typed.declared typed.type_there
    typed.code_there in
    record {
      sort = sort;
      code = code;
      typed = typed;
      there = ap (λ n. slice_get (callees finds m) (n + k)) (sym counted)
          ∙ slice_get-append_right (imported_callees finds m) (own_callees m) k ∙ here;
    }

-- the type of an imported function of the program, and of one of the module's own
imported_callee_typed : (finds : Finds) (m : Module) (f : ℕ) (callee : Callee) → IsImported finds m (callees finds m) f
    → slice_get (callees finds m) f ≡ Some callee → function_type (spaces_of m) f ≡ Some (type_of callee)
imported_callee_typed finds m f callee i there =
    let same : Some (outside i.sort i.which) ≡ Some callee = sym i.there ∙ there in
    let same_callee : outside i.sort i.which ≡ callee = cc same in
    i.typed ∙ ap (λ c. Some (type_of c)) same_callee

own_callee_typed : (finds : Finds) (m : Module) (f k : ℕ) (callee : Callee) → IsOwn m (callees finds m) k
    → length (imported_functions m.imports) + k ≡ f → slice_get (callees finds m) f ≡ Some callee
    → function_type (spaces_of m) f ≡ Some (type_of callee)
own_callee_typed finds m f k callee i place there =
    let here : slice_get (callees finds m) (length (imported_functions m.imports) + k) ≡ Some callee =
    ap (slice_get (callees finds m)) place ∙ there in
    let same : Some (own i.sort (length i.code.locals) (instructions_of i.code.body)) ≡ Some callee =
    sym i.there ∙ here in
    let same_callee : own i.sort (length i.code.locals) (instructions_of i.code.body) ≡ callee = cc same in
    ap (function_type (spaces_of m)) (sym place)
    ∙ own_type m k i.typed.index i.sort i.typed.declared i.typed.type_there ∙ ap (λ c. Some (type_of c)) same_callee

-- each function of the program has its type in the module
callee_typed : (finds : Finds) (m : Module) (pages : ℕ) (o : Opening) → IsValid m → Passes finds m pages o → (f : ℕ)
    (callee : Callee) → slice_get (callees finds m) f ≡ Some callee
    → function_type (spaces_of m) f ≡ Some (type_of callee)
callee_typed finds m pages o valid p f callee there =
    let count = length (imported_functions m.imports) in
    let all : f < length (callees finds m) = slice_get_within (callees finds m) f callee there in
    let counted = callees_count finds m pages o valid p in
    let total = length-append (imported_functions m.imports) m.functions in
    elim (cases_lt f count) [
      | inl below ↦ imported_callee_typed finds m f callee (imported_linked finds m pages o p f below) there
      | inr above ↦
          let k = f - count in
          let place : count + k ≡ f = omega arith in
          let within : k < length m.functions = omega (arith, counted, total) in
          own_callee_typed finds m f k callee (own_linked finds m pages o valid p k within) place there
    ]

-- ---- where it begins

no_items : {X : Type 0} (xs : List X) → length xs ≡ 0 → xs ≡ []
no_items [] none = refl
no_items (x ∷ xs) none = let never : ⊥ = omega arith in absurd never

bare_takes_nothing : (sort : FuncType) → is_bare sort ≡ true → TakesNothing sort
bare_takes_nothing sort bare =
    let parts = and_parts _ _ bare in (
      no_items sort.params (eqb-true (length sort.params) 0 parts.0),
      no_items sort.results (eqb-true (length sort.results) 0 parts.1),
    )

callee_bare : (o : Option Callee) → takes_nothing o ≡ true
    → (callee : Callee) × (o ≡ Some callee) × TakesNothing (type_of callee)
callee_bare None bare = let never : ⊥ = cc bare in absurd never
callee_bare (Some callee) bare = (callee, refl, bare_takes_nothing (type_of callee) bare)

main_fits : (finds : Finds) (m : Module) (pages : ℕ) (o : Opening) → IsValid m
    → (p : Passes finds m pages o) → StartFits (spaces_of m) p.export.index
main_fits finds m pages o valid p =
    let parts = and_parts _ (takes_nothing (slice_get (callees finds m) p.export.index)) p.is_main in
    let c = callee_bare (slice_get (callees finds m) p.export.index) parts.1 in
    let typed = callee_typed finds m pages o valid p p.export.index c.0 c.1 in
    let P : Option FuncType → Type 0 = λ t. IsSomeAnd t TakesNothing in
    subst P (sym typed) c.2

-- the two functions with which it begins are there, and take and give nothing
pub begins_well : (finds : Finds) (m : Module) (pages : ℕ) (o : Opening) → IsValid m
    → opening_of finds m pages ≡ Ok o → Begins m o.start o.main
begins_well finds m pages o valid opens =
    let p = passes finds m pages o opens in
    let P : Opening → Type 0 = λ x. Begins m x.start x.main in
    subst P (sym p.opens) (record {
      start = (parts_fit m valid.typed).start;
      main = main_fits finds m pages o valid p;
    })

-- ---- the law

-- the memory begins with no more pages than it may have
least_opens : (finds : Finds) (m : Module) (pages : ℕ) (o : Opening) → IsValid m
    → Passes finds m pages o → least_size m.memories ≤ most_pages pages m.memories
least_opens finds m pages o valid p =
    let alone = functions_alone finds m.types m.imports 0 p.imports in
    let P : List Limits → Type 0 = λ ms. All MemoryFits (ms ++ m.memories) in
    least_fits pages m.memories p.memory (subst P alone.1 (parts_fit m valid.typed).memories)

opened_linked : {W : Type 0} (finds : Finds)
    (reply : W → ℕ → List ℕ → Contents → Reply W) (m : Module) (pages : ℕ) (o : Opening) → IsValid m
    → pages ≤ 1024 → RepliesFit finds reply → (p : Passes finds m pages o)
    → IsLinked finds m (record { types = m.types; functions = callees finds m; reply = reply })
    (opening_with finds m pages p.export.index).store
opened_linked finds reply m pages o valid few replies p =
    let fit = parts_fit m valid.typed in
    let alone = functions_alone finds m.types m.imports 0 p.imports in
    let counted = callees_count finds m pages o valid p in
    let n = length (callees finds m) in
    let least = least_opens finds m pages o valid p in
    let most : most_pages pages m.memories ≤ 1024 = omega (arith, most_few pages m.memories) in
    let Functions : ℕ → Type 0 = λ k. All (λ (e : Element). All (λ f. f < k) e.functions) m.elements in
    let functions : Functions n =
    subst Functions (sym counted) (λ k d within. (fit.elements k d within).functions) in
    let constants : All (λ (g : GlobalDef). IsConstantExpression [] g.sort.value (instructions_of g.init)) m.globals =
    subst (λ (gs : List GlobalType). All (λ (g : GlobalDef).
    IsConstantExpression gs g.sort.value (instructions_of g.init)) m.globals) alone.2 fit.globals in
    record {
      valid = valid;
      types = refl;
      count = counted;
      imported = imported_linked finds m pages o p;
      owned = own_linked finds m pages o valid p;
      memory = memory_paged (global_values m.globals) m.segments (least_size m.memories)
          (most_pages pages m.memories) p.segments least most;
      table = table_fits n (global_values m.globals) m.elements _
          (All-replicate (λ (entry : Option ℕ). IfSome entry (λ f. f < n)) (least_size m.tables) None tt) functions;
      globals = subst (λ (gs : List GlobalType).
          are_of (map (λ (g : GlobalType). g.value) (gs ++ map (λ (g : GlobalDef). g.sort) m.globals))
          (global_values m.globals) ≡ true) (sym alone.2) (globals_typed m.globals constants);
      replies = replies;
    }

-- Where a valid module opens, and the host's replies fit, its program and its store are linked.
pub linked_law : {W : Type 0} (finds : Finds)
    (reply : W → ℕ → List ℕ → Contents → Reply W) (m : Module) (pages : ℕ) (o : Opening) → IsValid m
    → pages ≤ 1024 → RepliesFit finds reply → opening_of finds m pages ≡ Ok o
    → IsLinked finds m (record { types = m.types; functions = o.functions; reply = reply }) o.store
linked_law finds reply m pages o valid few replies opens =
    let p = passes finds m pages o opens in
    let P : Opening → Type 0 = λ x.
    IsLinked finds m (record { types = m.types; functions = x.functions; reply = reply }) x.store in
    subst P (sym p.opens) (opened_linked finds reply m pages o valid few replies p)

-- ---- the parts that a machine takes

-- the same of the parts that were made
pub parts_linked : {W : Type 0} (finds : Finds)
    (reply : W → ℕ → List ℕ → Contents → Reply W) (m tree : Module) (pages main : ℕ) (types : List FuncType)
    (functions : List Callee) (memory : Contents) (table : List (Option ℕ)) (globals : List ℕ) → IsValid m
    → pages ≤ 1024 → RepliesFit finds reply → opening_of finds m pages ≡ Ok (opening_with finds m pages main)
    → m ≡ tree → types ≡ m.types → functions ≡ callees finds m → memory ≡ opening_memory m pages
    → table ≡ opening_table m → globals ≡ global_values m.globals
    → IsLinked finds tree (record { types = types; functions = functions; reply = reply })
    (record { memory = memory; table = table; globals = globals })
parts_linked {W} finds reply m tree pages main types functions memory table globals valid few replies opens same
    at_types at_functions at_memory at_table at_globals =
    let law = linked_law finds reply m pages (opening_with finds m pages main) valid few replies opens in
    let program : List FuncType → List Callee → Program W = λ ts fs.
    record { types = ts; functions = fs; reply = reply } in
    let store : Contents → List (Option ℕ) → List ℕ → Store = λ bytes entries values.
    record { memory = bytes; table = entries; globals = values } in
    let OfTree : Module → Type 0 = λ t. IsLinked finds t (program types functions) (store memory table globals) in
    let OfTypes : List FuncType → Type 0 = λ ts. IsLinked finds m (program ts functions) (store memory table globals) in
    let OfFunctions : List Callee → Type 0 = λ fs.
    IsLinked finds m (program m.types fs) (store memory table globals) in
    let OfMemory : Contents → Type 0 = λ bytes.
    IsLinked finds m (program m.types (callees finds m)) (store bytes table globals) in
    let OfTable : List (Option ℕ) → Type 0 = λ entries.
    IsLinked finds m (program m.types (callees finds m)) (store (opening_memory m pages) entries globals) in
    let OfGlobals : List ℕ → Type 0 = λ values. IsLinked finds m (program m.types (callees finds m))
    (store (opening_memory m pages) (opening_table m) values) in
    subst OfTree same (subst OfTypes (sym at_types) (subst OfFunctions (sym at_functions)
    (subst OfMemory (sym at_memory) (subst OfTable (sym at_table) (subst OfGlobals (sym at_globals) law)))))

-- what the writing of the store asks for
pub least_within : (finds : Finds) (m : Module) (pages : ℕ) (o : Opening) → IsValid m
    → opening_of finds m pages ≡ Ok o → least_size m.memories ≤ most_pages pages m.memories
least_within finds m pages o valid opens = least_opens finds m pages o valid (passes finds m pages o opens)

pub elements_within : (finds : Finds) (m : Module) (pages : ℕ) (o : Opening)
    (globals : List ℕ) → globals ≡ global_values m.globals → opening_of finds m pages ≡ Ok o
    → All (λ (e : Element). IsFalse (element_overruns globals (least_size m.tables) e)) m.elements
elements_within finds m pages o globals same opens =
    let P : List ℕ → Type 0 = λ values.
    All (λ (e : Element). IsFalse (element_overruns values (least_size m.tables) e)) m.elements in
    subst P (sym same) (none_all (element_overruns (global_values m.globals) (least_size m.tables)) m.elements 0
    (passes finds m pages o opens).elements)

pub segments_within : (finds : Finds) (m : Module) (pages : ℕ) (o : Opening)
    (globals : List ℕ) → globals ≡ global_values m.globals → opening_of finds m pages ≡ Ok o
    → All (λ (s : Segment). IsFalse (segment_overruns globals (least_size m.memories * PAGE_SIZE) s)) m.segments
segments_within finds m pages o globals same opens =
    let P : List ℕ → Type 0 = λ values.
    All (λ (s : Segment). IsFalse (segment_overruns values (least_size m.memories * PAGE_SIZE) s)) m.segments in
    subst P (sym same) (none_all (segment_overruns (global_values m.globals) (least_size m.memories * PAGE_SIZE))
    m.segments 0 (passes finds m pages o opens).segments)
