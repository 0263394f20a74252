-- What a module imports, by kind. Imports come first in each index space
-- (WebAssembly Core 1.0, section 2.5.1).
use Rattle.std.specs.Prelude.{ℕ, List, Option, None, Some}
use Rattle.std.specs.List.{filter_map}
use Rattle.vr_wasm_ast.specs.declared.tree.GlobalType.{GlobalType}
use Rattle.vr_wasm_ast.specs.declared.tree.Import.{Import}
use Rattle.vr_wasm_ast.specs.declared.tree.ImportKind.{ImportKind}
use Rattle.vr_wasm_ast.specs.declared.tree.ImportKind.TheVariants.{Func, Table, Memory, Global}
use Rattle.vr_wasm_ast.specs.declared.tree.Limits.{Limits}

abbrev pub function_of : ImportKind → Option ℕ
function_of (Func sort) = Some sort
function_of (Table limits) = None
function_of (Memory limits) = None
function_of (Global sort) = None

abbrev pub table_of : ImportKind → Option Limits
table_of (Func sort) = None
table_of (Table limits) = Some limits
table_of (Memory limits) = None
table_of (Global sort) = None

abbrev pub memory_of : ImportKind → Option Limits
memory_of (Func sort) = None
memory_of (Table limits) = None
memory_of (Memory limits) = Some limits
memory_of (Global sort) = None

abbrev pub global_of : ImportKind → Option GlobalType
global_of (Func sort) = None
global_of (Table limits) = None
global_of (Memory limits) = None
global_of (Global sort) = Some sort

-- the index of the type of each imported function
abbrev pub imported_functions : List Import → List ℕ
imported_functions imports = filter_map (λ i. function_of i.what) imports

abbrev pub imported_tables : List Import → List Limits
imported_tables imports = filter_map (λ i. table_of i.what) imports

abbrev pub imported_memories : List Import → List Limits
imported_memories imports = filter_map (λ i. memory_of i.what) imports

abbrev pub imported_globals : List Import → List GlobalType
imported_globals imports = filter_map (λ i. global_of i.what) imports
