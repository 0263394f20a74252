-- Linking a module: its functions, its opening store and where it begins, or the first link fault (WebAssembly Core
-- 1.0, section 4.5.4). Where no import is missing all of them are functions, so that the table, the memory and the
-- globals are the module's own.
use Rattle.std.specs.Prelude.{ℕ, ◌+◌, ◌*◌, List, [], ◌∷◌, ◌++◌, length, map, take, drop, replicate, slice_get, fold, find, min, Option, None, Some, option_and_then, unwrap_or, is_none, Bool, true, false, if◌then◌else◌, ◌&&◌, ◌==◌, nat_lt, codes, Result, Ok, Err}
use Rattle.std.specs.List.{filter_map, position_from, zip}
use Rattle.std.specs.Option.{option_map}
use Rattle.std.specs.Str.{bytes_eq}
use Rattle.vr_wasm_ast.specs.declared.tree.Code.{Code}
use Rattle.vr_wasm_ast.specs.declared.tree.Element.{Element}
use Rattle.vr_wasm_ast.specs.declared.tree.Export.{Export}
use Rattle.vr_wasm_ast.specs.declared.tree.ExportKind.{ExportKind}
use Rattle.vr_wasm_ast.specs.declared.tree.ExportKind.TheVariants as exported
use Rattle.vr_wasm_ast.specs.declared.tree.FuncType.{FuncType}
use Rattle.vr_wasm_ast.specs.declared.tree.Import.{Import}
use Rattle.vr_wasm_ast.specs.declared.tree.Limits.{Limits}
use Rattle.vr_wasm_ast.specs.declared.tree.Module.{Module}
use Rattle.vr_wasm_ast.specs.declared.tree.Segment.{Segment}
use Rattle.vr_wasm_ast.specs.Checks.{◌>>=◌}
use Rattle.vr_wasm_ast.specs.Imports.{function_of}
use Rattle.vr_wasm_ast.specs.Instructions.{instructions_of}
use Rattle.vr_wasm_num.specs.declared.memory.TheConstants.{PAGE_SIZE}
use Rattle.vr_wasm_num.specs.Memory.{Contents, with_piece}
use Rattle.vr_wasm_steps.specs.Rows.{Callee, own, outside, type_of}
use Rattle.vr_wasm_steps.specs.Store.{Store}
use Rattle.vr_wasm_link.specs.declared.faults.LinkFault.{LinkFault}
use Rattle.vr_wasm_link.specs.declared.faults.LinkKind.TheVariants as kinds
use Rattle.vr_wasm_link.specs.declared.fitting.TheConstants.{MAX_TABLE}
use Rattle.vr_wasm_link.specs.Constants.{constant_value, global_values}
use Rattle.vr_wasm_link.specs.Faults.{fault, none_at}

-- what a host finds: the number of the function of this name, in the module of this name, that has this type
abbrev pub Finds : Type 0
Finds = List ℕ → List ℕ → FuncType → Option ℕ

-- The functions of the program, its store before the first step, its start function, which is called first, and the
-- function that is called after it.
pub record Opening : Type 0 where
  pub functions : List Callee
  pub store : Store
  pub start : Option ℕ
  pub main : ℕ

-- ---- functions

-- the host's function that is imported as one of this type, where the host finds it
abbrev pub found_callee : Finds → Import → FuncType → Option Callee
found_callee finds i sort = option_map (λ which. outside sort which) (finds i.module i.name sort)

-- the host's function of an import, where a function is imported and the host finds it
abbrev pub imported_callee : Finds → List FuncType → Import → Option Callee
imported_callee finds types i =
    option_and_then (λ index. option_and_then (found_callee finds i) (slice_get types index))
    (function_of i.what)

-- the import names no function of the host
abbrev pub is_missing : Finds → List FuncType → Import → Bool
is_missing finds types i = is_none (imported_callee finds types i)

-- a function of the module, whose type has this index
abbrev pub own_callee : List FuncType → ℕ × Code → Option Callee
own_callee types f = option_map (λ (sort : FuncType).
    own sort (length f.1.locals) (instructions_of f.1.body)) (slice_get types f.0)

-- the imported functions
abbrev pub imported_callees : Finds → Module → List Callee
imported_callees finds m = filter_map (imported_callee finds m.types) m.imports

-- the module's own functions
abbrev pub own_callees : Module → List Callee
own_callees m = filter_map (own_callee m.types) (zip m.functions m.codes)

-- all functions, of which the imported ones come first
abbrev pub callees : Finds → Module → List Callee
callees finds m = imported_callees finds m ++ own_callees m

-- ---- where it begins

-- the type of a function that takes nothing and gives nothing
abbrev pub is_bare : FuncType → Bool
is_bare sort = length sort.params == 0 && length sort.results == 0

-- the function is there, and takes nothing and gives nothing
abbrev pub takes_nothing : Option Callee → Bool
takes_nothing None = false
takes_nothing (Some f) = is_bare (type_of f)

-- a function is exported
abbrev pub is_function : ExportKind → Bool
is_function exported.Func = true
is_function exported.Table = false
is_function exported.Memory = false
is_function exported.Global = false

-- the export is a function of the name `_start` that takes nothing and gives nothing
abbrev pub is_main : List Callee → Export → Bool
is_main functions e =
    bytes_eq e.name (codes "_start") && is_function e.what
    && takes_nothing (slice_get functions e.index)

-- the index of what is exported, or the fault that nothing is
abbrev pub index_or_fault : Option Export → Result ℕ LinkFault
index_or_fault None = Err (fault kinds.NoStart 0)
index_or_fault (Some e) = Ok e.index

-- the function that is called after the start function
abbrev pub main_of : List Callee → List Export → Result ℕ LinkFault
main_of functions exports = index_or_fault (find (is_main functions) exports)

-- ---- table and memory

-- the least size of the only table or memory, 0 where there is none
abbrev pub least_size : List Limits → ℕ
least_size [] = 0
least_size (l ∷ ls) = l.min

-- the most pages that the only memory may have in a run that has so many at most, 0 where there is none
abbrev pub most_pages : ℕ → List Limits → ℕ
most_pages pages [] = 0
most_pages pages (l ∷ ls) = min pages (unwrap_or l.max pages)

-- the fault, where the size is above the limit
abbrev pub within : LinkFault → ℕ → ℕ → Result (Unit {0}) LinkFault
within refused limit size = if nat_lt limit size then Err refused else Ok tt

-- where an element segment begins
abbrev pub element_offset : List ℕ → Element → ℕ
element_offset globals e = constant_value globals (instructions_of e.offset)

-- where a data segment begins
abbrev pub segment_offset : List ℕ → Segment → ℕ
segment_offset globals s = constant_value globals (instructions_of s.offset)

-- an element segment passes the end of a table of this size
abbrev pub element_overruns : List ℕ → ℕ → Element → Bool
element_overruns globals size e = nat_lt size (element_offset globals e + length e.functions)

-- a data segment passes the end of a memory of so many bytes
abbrev pub segment_overruns : List ℕ → ℕ → Segment → Bool
segment_overruns globals size s = nat_lt size (segment_offset globals s + length s.bytes)

-- the table with the functions of a segment from its offset on
abbrev pub with_element : List ℕ → List (Option ℕ) → Element → List (Option ℕ)
with_element globals table e =
    take (element_offset globals e) table ++ map Some e.functions
    ++ drop (element_offset globals e + length e.functions) table

-- the memory with the bytes of a segment from its offset on
abbrev pub with_segment : List ℕ → Contents → Segment → Contents
with_segment globals memory s = with_piece memory (segment_offset globals s) s.bytes

-- so many pages of zeros, of so many at most
abbrev pub zeros : ℕ → ℕ → Contents
zeros pages most = record { bytes = replicate (pages * PAGE_SIZE) 0; most = most }

-- the table with the element segments in their order, a later one over an earlier one
abbrev pub opening_table : Module → List (Option ℕ)
opening_table m =
    fold (with_element (global_values m.globals)) (replicate (least_size m.tables) None)
    m.elements

-- the memory with the data segments in their order, a later one over an earlier one
abbrev pub opening_memory : Module → ℕ → Contents
opening_memory m pages =
    fold (with_segment (global_values m.globals))
    (zeros (least_size m.memories) (most_pages pages m.memories)) m.segments

-- ---- the whole

-- what a module opens with that has no link fault
abbrev pub opening_with : Finds → Module → ℕ → ℕ → Opening
opening_with finds m pages main = record {
  functions = callees finds m;
  store = record {
    memory = opening_memory m pages;
    table = opening_table m;
    globals = global_values m.globals;
  };
  start = m.start;
  main = main;
}

-- each import is found
abbrev pub imports_found : Finds → Module → Result (Unit {0}) LinkFault
imports_found finds m = none_at kinds.Import (position_from (is_missing finds m.types) 0 m.imports)

-- each element segment fits the table
abbrev pub elements_fit : Module → Result (Unit {0}) LinkFault
elements_fit m =
    let overruns = element_overruns (global_values m.globals) (least_size m.tables) in
    none_at kinds.Element (position_from overruns 0 m.elements)

-- each data segment fits the memory
abbrev pub segments_fit : Module → Result (Unit {0}) LinkFault
segments_fit m =
    let overruns = segment_overruns (global_values m.globals) (least_size m.memories * PAGE_SIZE) in
    none_at kinds.Data (position_from overruns 0 m.segments)

-- the memory and the table are small enough, where a run may have so many pages, and each segment fits
abbrev pub sizes_fit : Module → ℕ → Result (Unit {0}) LinkFault
sizes_fit m pages = do
  _ ← within (fault kinds.Memory 0) pages (least_size m.memories)
  _ ← within (fault kinds.Table 0) MAX_TABLE (least_size m.tables)
  _ ← elements_fit m
  segments_fit m

-- the checks in their order, where a run may have so many pages
abbrev pub opening_of : Finds → Module → ℕ → Result Opening LinkFault
opening_of finds m pages = do
  _ ← imports_found finds m
  main ← main_of (callees finds m) m.exports
  _ ← sizes_fit m pages
  Ok (opening_with finds m pages main)
