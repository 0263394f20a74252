-- The components of a module, in the order in which they are looked at, and the rule of each
-- (WebAssembly Core 1.0, sections 3.2, 3.3.7 and 3.4).
use Rattle.std.specs.Prelude.{◌≡◌, ◌≢◌, ℕ, ◌+◌, ◌<◌, ◌≤◌, List, [], ◌∷◌, ◌++◌, IsFalse, All, IfSome, IsSomeAnd, length, map, option_to_list, slice_get, take}
use Rattle.std.specs.List.{enumerate_from, flat_map, zip}
use Rattle.vr_wasm_ast.specs.declared.tree.Code.{Code}
use Rattle.vr_wasm_ast.specs.declared.tree.Element.{Element}
use Rattle.vr_wasm_ast.specs.declared.tree.Export.{Export}
use Rattle.vr_wasm_ast.specs.declared.tree.ExportKind.{ExportKind}
use Rattle.vr_wasm_ast.specs.declared.tree.ExportKind.TheVariants as exported
use Rattle.vr_wasm_ast.specs.declared.tree.FuncType.{FuncType}
use Rattle.vr_wasm_ast.specs.declared.tree.GlobalDef.{GlobalDef}
use Rattle.vr_wasm_ast.specs.declared.tree.GlobalType.{GlobalType}
use Rattle.vr_wasm_ast.specs.declared.tree.Import.{Import}
use Rattle.vr_wasm_ast.specs.declared.tree.ImportKind.{ImportKind}
use Rattle.vr_wasm_ast.specs.declared.tree.ImportKind.TheVariants as imported
use Rattle.vr_wasm_ast.specs.declared.tree.Limits.{Limits}
use Rattle.vr_wasm_ast.specs.declared.tree.Module.{Module}
use Rattle.vr_wasm_ast.specs.declared.tree.Segment.{Segment}
use Rattle.vr_wasm_ast.specs.declared.tree.ValType.{ValType}
use Rattle.vr_wasm_ast.specs.declared.tree.ValType.TheVariants.{I32}
use Rattle.vr_wasm_ast.specs.Imports.{imported_functions, imported_globals}
use Rattle.vr_wasm_ast.specs.Instructions.{Instruction, Instructions, i32_const, i64_const, global_get, done, then, instructions_of}
use Rattle.vr_wasm_valid.specs.declared.answer.TheConstants.{IMPORTS, FUNCTIONS, TABLES, MEMORIES, GLOBALS, EXPORTS, START, ELEMENTS, BODIES, SEGMENTS}
use Rattle.vr_wasm_valid.specs.declared.limits.TheConstants.{MOST_PAGES}
use Rattle.vr_wasm_valid.specs.Context.{Spaces, spaces_of, function_type, inside_constant, inside_function, result_of}
use Rattle.vr_wasm_valid.specs.Typing.{HasTyping}

-- ---- types (section 3.2)

-- the greatest size, where there is one, is at least the least size
abbrev pub TableFits : Limits → Type 0
TableFits l = IfSome l.max (λ most. l.min ≤ most)

-- the same, and no more pages than a memory can have
abbrev pub MemoryFits : Limits → Type 0
MemoryFits l = (l.min ≤ MOST_PAGES) × IfSome l.max (λ most. (l.min ≤ most) × (most ≤ MOST_PAGES))

-- ---- constant expressions (section 3.3.7.2)

-- a constant, or a global that is never set
abbrev pub IsConstant : List GlobalType → Instruction → Type 0
IsConstant globals (i32_const z) = Unit {0}
IsConstant globals (i64_const z) = Unit {0}
IsConstant globals (global_get n) = IsSomeAnd (slice_get globals n) (λ g. IsFalse g.variable)
IsConstant globals i = ⊥

-- exactly one constant
abbrev pub IsOneConstant : List GlobalType → Instructions → Type 0
IsOneConstant globals done = ⊥
IsOneConstant globals (then i done) = IsConstant globals i
IsOneConstant globals (then i (then j is)) = ⊥

-- a constant expression of the wanted type, which may name these globals
pub record IsConstantExpression (globals : List GlobalType) (wanted : ValType) (is : Instructions)
    : Type 0 where
  pub constant : IsOneConstant globals is
  pub typed : HasTyping (inside_constant globals wanted) is

-- ---- parts of a module (section 3.4)

-- the type of an imported function is there, and a table or a memory has good limits
abbrev pub ImportFits : Spaces → ImportKind → Type 0
ImportFits s (imported.Func sort) = sort < length s.types
ImportFits s (imported.Table limits) = TableFits limits
ImportFits s (imported.Memory limits) = MemoryFits limits
ImportFits s (imported.Global sort) = Unit {0}

-- what is exported is there
abbrev pub IsThere : Spaces → ExportKind → ℕ → Type 0
IsThere s exported.Func n = n < length s.functions
IsThere s exported.Table n = n < length s.tables
IsThere s exported.Memory n = n < length s.memories
IsThere s exported.Global n = n < length s.globals

-- what the export at this place names is there, and no export before it has its name
pub record ExportFits (s : Spaces) (exports : List Export) (place : ℕ) (e : Export) : Type 0 where
  pub there : IsThere s e.what e.index
  pub distinct : All (λ (earlier : Export). earlier.name ≢ e.name) (take place exports)

-- the type of a function without parameters and results
abbrev pub TakesNothing : FuncType → Type 0
TakesNothing sort = (sort.params ≡ []) × (sort.results ≡ [])

-- the start function is there, and takes and gives nothing
abbrev pub StartFits : Spaces → ℕ → Type 0
StartFits s f = IsSomeAnd (function_type s f) TakesNothing

-- its table and its functions are there, and its offset is a constant
pub record ElementFits (s : Spaces) (e : Element) : Type 0 where
  pub table : e.table < length s.tables
  pub offset : IsConstantExpression s.globals I32 (instructions_of e.offset)
  pub functions : All (λ f. f < length s.functions) e.functions

-- its memory is there, and its offset is a constant
pub record SegmentFits (s : Spaces) (e : Segment) : Type 0 where
  pub memory : e.memory < length s.memories
  pub offset : IsConstantExpression s.globals I32 (instructions_of e.offset)

-- the body of a function of this type has a typing
abbrev pub HasTypedBody : Spaces → FuncType → Code → Type 0
HasTypedBody s sort f =
    HasTyping (inside_function s (sort.params ++ f.locals) (result_of sort))
    (instructions_of f.body)

-- the type of the function, which has this index, is there, and its body has a typing
abbrev pub BodyFits : Spaces → ℕ → Code → Type 0
BodyFits s n f = IsSomeAnd (slice_get s.types n) (λ sort. HasTypedBody s sort f)

-- ---- all components

-- what has a rule of its own
pub data Component : Type 0 where
  the_import : Import → Component
  the_function : ℕ → Component
  the_table : Limits → Component
  the_memory : Limits → Component
  the_global : GlobalDef → Component
  the_export : ℕ × Export → Component
  the_start : ℕ → Component
  the_element : Element → Component
  the_body : ℕ × Code → Component
  the_segment : Segment → Component

-- The rule of a component of the module, whose index spaces these are. There is one table and one
-- memory at most. The first value of a global may name imported globals alone.
abbrev pub IsTypedIn : Spaces → Module → Component → Type 0
IsTypedIn s m (the_import i) = ImportFits s i.what
IsTypedIn s m (the_function sort) = sort < length s.types
IsTypedIn s m (the_table limits) = TableFits limits × (length s.tables ≤ 1)
IsTypedIn s m (the_memory limits) = MemoryFits limits × (length s.memories ≤ 1)
IsTypedIn s m (the_global g) =
    IsConstantExpression (imported_globals m.imports) g.sort.value (instructions_of g.init)
IsTypedIn s m (the_export e) = ExportFits s m.exports e.0 e.1
IsTypedIn s m (the_start f) = StartFits s f
IsTypedIn s m (the_element e) = ElementFits s e
IsTypedIn s m (the_body f) = BodyFits s f.0 f.1
IsTypedIn s m (the_segment e) = SegmentFits s e

-- a component, with the number of its part and its index in it
pub record Placed : Type 0 where
  pub part : ℕ
  pub index : ℕ
  pub what : Component

-- the components of one part, the first of which has this index
abbrev pub placed_from : ℕ → ℕ → List Component → List Placed
placed_from part index [] = []
placed_from part index (c ∷ cs) =
    record { part = part; index = index; what = c } ∷ placed_from part (index + 1) cs

-- the imports
abbrev pub placed_imports : Module → List Placed
placed_imports m = placed_from IMPORTS 0 (map the_import m.imports)

-- the module's own functions, which come after the imported ones
abbrev pub placed_functions : Module → List Placed
placed_functions m =
    placed_from FUNCTIONS (length (imported_functions m.imports)) (map the_function m.functions)

-- the tables, the imported ones too
abbrev pub placed_tables : Module → List Placed
placed_tables m = placed_from TABLES 0 (map the_table (spaces_of m).tables)

-- the memories, the imported ones too
abbrev pub placed_memories : Module → List Placed
placed_memories m = placed_from MEMORIES 0 (map the_memory (spaces_of m).memories)

-- the module's own globals, which come after the imported ones
abbrev pub placed_globals : Module → List Placed
placed_globals m =
    placed_from GLOBALS (length (imported_globals m.imports)) (map the_global m.globals)

-- the exports, each with its place
abbrev pub placed_exports : Module → List Placed
placed_exports m = placed_from EXPORTS 0 (map the_export (enumerate_from 0 m.exports))

-- the start function, if there is one
abbrev pub placed_start : Module → List Placed
placed_start m = placed_from START 0 (map the_start (option_to_list m.start))

-- the element segments
abbrev pub placed_elements : Module → List Placed
placed_elements m = placed_from ELEMENTS 0 (map the_element m.elements)

-- the bodies of the module's own functions, by the functions' indices
abbrev pub placed_bodies : Module → List Placed
placed_bodies m =
    placed_from BODIES (length (imported_functions m.imports))
    (map the_body (zip m.functions m.codes))

-- the data segments
abbrev pub placed_segments : Module → List Placed
placed_segments m = placed_from SEGMENTS 0 (map the_segment m.segments)

-- the components of each part, in the order of the parts
abbrev pub parts_of : Module → List (List Placed)
parts_of m =
    placed_imports m
    ∷ placed_functions m
    ∷ placed_tables m
    ∷ placed_memories m
    ∷ placed_globals m
    ∷ placed_exports m
    ∷ placed_start m
    ∷ placed_elements m
    ∷ placed_bodies m
    ∷ placed_segments m
    ∷ []

-- all components in their order
abbrev pub components : Module → List Placed
components m = flat_map (λ (part : List Placed). part) (parts_of m)

-- each of these is typed
abbrev pub AreTyped : (Component → Type 0) → List Placed → Type 0
AreTyped T all = All (λ (c : Placed). T c.what) all

-- of these the first that isn't typed has this part and index
pub record FirstRefused (T : Component → Type 0) (all : List Placed) (part index : ℕ) : Type 0 where
  pub before : List Placed
  pub refused : Component
  pub after : List Placed
  pub split : all ≡ before ++ record { part = part; index = index; what = refused } ∷ after
  pub typed_before : AreTyped T before
  pub not_typed : T refused → ⊥

-- each component of the module is typed
abbrev pub IsTyped : Module → Type 0
IsTyped m = AreTyped (IsTypedIn (spaces_of m) m) (components m)

-- the first component of the module that isn't typed has this part and index
abbrev pub IsFirstRefused : Module → ℕ → ℕ → Type 0
IsFirstRefused m part index = FirstRefused (IsTypedIn (spaces_of m) m) (components m) part index
