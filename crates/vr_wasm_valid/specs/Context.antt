-- What code may name (WebAssembly Core 1.0, section 3.1.1).
use Rattle.std.specs.Prelude.{ℕ, List, [], ◌∷◌, ◌++◌, Option, None, Some, map, slice_get, option_and_then}
use Rattle.vr_wasm_ast.specs.declared.tree.FuncType.{FuncType}
use Rattle.vr_wasm_ast.specs.declared.tree.GlobalDef.{GlobalDef}
use Rattle.vr_wasm_ast.specs.declared.tree.GlobalType.{GlobalType}
use Rattle.vr_wasm_ast.specs.declared.tree.Limits.{Limits}
use Rattle.vr_wasm_ast.specs.declared.tree.Module.{Module}
use Rattle.vr_wasm_ast.specs.declared.tree.ValType.{ValType}
use Rattle.vr_wasm_ast.specs.Imports.{imported_functions, imported_globals, imported_memories, imported_tables}

-- The types of a module and its index spaces, in which imports come first (section 2.5.1). A
-- function is told by the index of its type.
pub record Spaces : Type 0 where
  pub types : List FuncType
  pub functions : List ℕ
  pub tables : List Limits
  pub memories : List Limits
  pub globals : List GlobalType

-- The module's spaces, and for a function's body its locals, its result and what the label of each
-- open block wants, the innermost first.
pub record Context : Type 0 where
  pub spaces : Spaces
  pub locals : List ValType
  pub returns : Option ValType
  pub labels : List (Option ValType)

-- what the whole module may name
abbrev pub spaces_of : Module → Spaces
spaces_of m = record {
  types = m.types;
  functions = imported_functions m.imports ++ m.functions;
  tables = imported_tables m.imports ++ m.tables;
  memories = imported_memories m.imports ++ m.memories;
  globals = imported_globals m.imports ++ map (λ (g : GlobalDef). g.sort) m.globals;
}

-- what the body of a function with these locals and this result may name
abbrev pub inside_function : Spaces → List ValType → Option ValType → Context
inside_function s locals result = record {
  spaces = s;
  locals = locals;
  returns = result;
  labels = result ∷ [];
}

-- globals alone
abbrev pub only_globals : List GlobalType → Spaces
only_globals globals = record {
  types = [];
  functions = [];
  tables = [];
  memories = [];
  globals = globals;
}

-- what a constant expression of the wanted type may name
abbrev pub inside_constant : List GlobalType → ValType → Context
inside_constant globals wanted = record {
  spaces = only_globals globals;
  locals = [];
  returns = Some wanted;
  labels = [];
}

-- what the instructions of a block may name, where a branch to the block wants this
abbrev pub inside_block : Option ValType → Context → Context
inside_block label c = record c { labels = label ∷ c.labels }

-- the type of a function
abbrev pub function_type : Spaces → ℕ → Option FuncType
function_type s f = option_and_then (λ sort. slice_get s.types sort) (slice_get s.functions f)

-- the result of a function, which has one at most
abbrev pub result_of : FuncType → Option ValType
result_of sort = slice_get sort.results 0

-- one result or none, as a list
abbrev pub result_list : Option ValType → List ValType
result_list None = []
result_list (Some t) = t ∷ []
