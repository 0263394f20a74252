-- What a caller may rely on in a valid module.
use Rattle.std.specs.Prelude.{◌≡◌, ℕ, ◌<◌, ◌≤◌, Some, All, IfSome, length, slice_get}
use Rattle.std.specs.List.{enumerate_from, zip}
use Rattle.vr_wasm_ast.specs.declared.tree.Code.{Code}
use Rattle.vr_wasm_ast.specs.declared.tree.Export.{Export}
use Rattle.vr_wasm_ast.specs.declared.tree.FuncType.{FuncType}
use Rattle.vr_wasm_ast.specs.declared.tree.GlobalDef.{GlobalDef}
use Rattle.vr_wasm_ast.specs.declared.tree.Import.{Import}
use Rattle.vr_wasm_ast.specs.declared.tree.Module.{Module}
use Rattle.vr_wasm_ast.specs.Imports.{imported_globals}
use Rattle.vr_wasm_ast.specs.Instructions.{instructions_of}
use Rattle.vr_wasm_ast.specs.Limits.{HasCodeForEach, MeetsLimits}
use Rattle.vr_wasm_valid.specs.Context.{spaces_of}
use Rattle.vr_wasm_valid.specs.Parts.{BodyFits, ElementFits, ExportFits, HasTypedBody, ImportFits, IsConstantExpression, IsTyped, MemoryFits, SegmentFits, StartFits, TableFits}

-- what the type of a valid module keeps
pub record IsValid (m : Module) : Type 0 where
  pub limits : MeetsLimits m
  pub codes : HasCodeForEach m
  pub typed : IsTyped m

-- that each component is typed, said part by part
pub record PartsFit (m : Module) : Type 0 where
  pub imports : All (λ (i : Import). ImportFits (spaces_of m) i.what) m.imports
  pub functions : All (λ n. n < length m.types) m.functions
  pub tables : All TableFits (spaces_of m).tables
  pub one_table : length (spaces_of m).tables ≤ 1
  pub memories : All MemoryFits (spaces_of m).memories
  pub one_memory : length (spaces_of m).memories ≤ 1
  pub globals : All (λ (g : GlobalDef).
      IsConstantExpression (imported_globals m.imports) g.sort.value (instructions_of g.init))
      m.globals
  pub exports : All (λ (e : ℕ × Export).
      ExportFits (spaces_of m) m.exports e.0 e.1) (enumerate_from 0 m.exports)
  pub start : IfSome m.start (StartFits (spaces_of m))
  pub elements : All (ElementFits (spaces_of m)) m.elements
  pub bodies : All (λ (f : ℕ × Code). BodyFits (spaces_of m) f.0 f.1) (zip m.functions m.codes)
  pub segments : All (SegmentFits (spaces_of m)) m.segments

-- the module's own function at this place has this type and this code, whose body has a typing
pub record IsTypedFunction (m : Module) (place : ℕ) (sort : FuncType) (code : Code) : Type 0 where
  pub index : ℕ
  pub declared : slice_get m.functions place ≡ Some index
  pub type_there : slice_get m.types index ≡ Some sort
  pub code_there : slice_get m.codes place ≡ Some code
  pub body : HasTypedBody (spaces_of m) sort code
