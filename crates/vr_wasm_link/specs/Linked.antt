-- What a program is that a valid module was linked to (WebAssembly Core 1.0, sections 4.2 and 4.5.4).
use Rattle.std.specs.Prelude.{◌≡◌, ℕ, ◌+◌, ◌<◌, List, Option, Some, IsTrue, All, IfSome, length, map, slice_get}
use Rattle.vr_wasm_ast.specs.declared.tree.Code.{Code}
use Rattle.vr_wasm_ast.specs.declared.tree.FuncType.{FuncType}
use Rattle.vr_wasm_ast.specs.declared.tree.GlobalType.{GlobalType}
use Rattle.vr_wasm_ast.specs.declared.tree.Module.{Module}
use Rattle.vr_wasm_ast.specs.Imports.{imported_functions}
use Rattle.vr_wasm_ast.specs.Instructions.{instructions_of}
use Rattle.vr_wasm_num.specs.Memory.{IsPaged}
use Rattle.vr_wasm_steps.specs.Hosts.{RepliesFit}
use Rattle.vr_wasm_steps.specs.Rows.{Callee, own, outside, Program}
use Rattle.vr_wasm_steps.specs.Store.{Store, are_of}
use Rattle.vr_wasm_valid.specs.Context.{function_type, spaces_of}
use Rattle.vr_wasm_valid.specs.Valid.{IsTypedFunction, IsValid}

-- the imported function at this place is the host's, found for its type
pub record IsImported (finds : List ℕ → List ℕ → FuncType → Option ℕ) (m : Module)
    (functions : List Callee) (place : ℕ) : Type 0 where
  pub sort : FuncType
  pub which : ℕ
  pub from : List ℕ
  pub name : List ℕ
  pub typed : function_type (spaces_of m) place ≡ Some sort
  pub found : finds from name sort ≡ Some which
  pub there : slice_get functions place ≡ Some (outside sort which)

-- the module's own function at this place has its type, its number of locals and its body
pub record IsOwn (m : Module) (functions : List Callee) (place : ℕ) : Type 0 where
  pub sort : FuncType
  pub code : Code
  pub typed : IsTypedFunction m place sort code
  pub there : slice_get functions (length (imported_functions m.imports) + place)
      ≡ Some (own sort (length code.locals) (instructions_of code.body))

-- The program and the store are those of the module: each function is there, each number in the table is a function's,
-- each global has a number of its type, and the host's replies fit the types of its functions.
pub record IsLinked {W : Type 0} (finds : List ℕ → List ℕ → FuncType → Option ℕ) (m : Module)
    (p : Program W) (store : Store) : Type 0 where
  pub valid : IsValid m
  pub types : p.types ≡ m.types
  pub count : length p.functions ≡ length (spaces_of m).functions
  pub imported : (f : ℕ) → f < length (imported_functions m.imports)
      → IsImported finds m p.functions f
  pub owned : (f : ℕ) → f < length m.functions → IsOwn m p.functions f
  pub memory : IsPaged store.memory
  pub table : All (λ (entry : Option ℕ). IfSome entry (λ f. f < length p.functions)) store.table
  pub globals : IsTrue
      (are_of (map (λ (g : GlobalType). g.value) (spaces_of m).globals) store.globals)
  pub replies : RepliesFit finds p.reply
