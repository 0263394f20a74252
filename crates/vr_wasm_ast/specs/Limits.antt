-- The limits that every module of this project keeps.
use Rattle.std.specs.Prelude.{◌≡◌, ℕ, ◌+◌, ◌≤◌, List, length, All, max}
use Rattle.vr_wasm_ast.specs.Instructions.{Instruction, Instructions, block, loop, if_, br_table, done, then, instructions_of}
use Rattle.vr_wasm_ast.specs.Imports.{imported_functions}
use Rattle.vr_wasm_ast.specs.declared.instr.Instr.{Instr}
use Rattle.vr_wasm_ast.specs.declared.tree.Code.{Code}
use Rattle.vr_wasm_ast.specs.declared.tree.Element.{Element}
use Rattle.vr_wasm_ast.specs.declared.tree.FuncType.{FuncType}
use Rattle.vr_wasm_ast.specs.declared.tree.GlobalDef.{GlobalDef}
use Rattle.vr_wasm_ast.specs.declared.tree.Module.{Module}
use Rattle.vr_wasm_ast.specs.declared.tree.Segment.{Segment}

-- items of a vector, where no other limit is said; functions, imported ones counted
abbrev pub most_items : ℕ
most_items = 65536

-- parameters of a function
abbrev pub most_params : ℕ
most_params = 1024

-- results of a function
abbrev pub most_results : ℕ
most_results = 1

-- locals that a function declares
abbrev pub most_locals : ℕ
most_locals = 8192

-- blocks, loops and ifs that are open at one place
abbrev pub most_nested : ℕ
most_nested = 1024

abbrev mutual
  -- how many blocks, loops and ifs are open at most at one place of the sequence
  pub nesting : Instructions → ℕ
  nesting done = 0
  nesting (then i is) = max (nesting_of i) (nesting is)

  pub nesting_of : Instruction → ℕ
  nesting_of (block t body) = nesting body + 1
  nesting_of (loop t body) = nesting body + 1
  nesting_of (if_ t taken other) = max (nesting taken) (nesting other) + 1
  nesting_of i = 0

abbrev mutual
  -- each table of labels has so many labels at most, its default not counted
  pub TablesWithin : ℕ → Instructions → Type 0
  TablesWithin most done = Unit {0}
  TablesWithin most (then i is) = TableWithin most i × TablesWithin most is

  pub TableWithin : ℕ → Instruction → Type 0
  TableWithin most (br_table labels label) = length labels ≤ most
  TableWithin most (block t body) = TablesWithin most body
  TableWithin most (loop t body) = TablesWithin most body
  TableWithin most (if_ t taken other) = TablesWithin most taken × TablesWithin most other
  TableWithin most i = Unit {0}

-- its blocks nest within the limit, and so do the counts of its tables of labels
abbrev pub CodeWithin : List Instr → Type 0
CodeWithin body =
    (nesting (instructions_of body) ≤ most_nested)
    × TablesWithin most_items (instructions_of body)

abbrev pub TypeWithin : FuncType → Type 0
TypeWithin sort = (length sort.params ≤ most_params) × (length sort.results ≤ most_results)

abbrev pub GlobalWithin : GlobalDef → Type 0
GlobalWithin g = CodeWithin g.init

abbrev pub ElementWithin : Element → Type 0
ElementWithin e = CodeWithin e.offset × (length e.functions ≤ most_items)

abbrev pub BodyWithin : Code → Type 0
BodyWithin c = (length c.locals ≤ most_locals) × CodeWithin c.body

abbrev pub SegmentWithin : Segment → Type 0
SegmentWithin s = CodeWithin s.offset

-- Every count is within its limit. The bytes of names and of data segments have none.
pub record MeetsLimits (m : Module) : Type 0 where
  pub types : length m.types ≤ most_items
  pub imports : length m.imports ≤ most_items
  pub functions : length (imported_functions m.imports) + length m.functions ≤ most_items
  pub tables : length m.tables ≤ most_items
  pub memories : length m.memories ≤ most_items
  pub globals : length m.globals ≤ most_items
  pub exports : length m.exports ≤ most_items
  pub elements : length m.elements ≤ most_items
  pub codes : length m.codes ≤ most_items
  pub segments : length m.segments ≤ most_items
  pub each_type : All TypeWithin m.types
  pub each_global : All GlobalWithin m.globals
  pub each_element : All ElementWithin m.elements
  pub each_body : All BodyWithin m.codes
  pub each_segment : All SegmentWithin m.segments

-- as many codes as functions
abbrev pub HasCodeForEach : Module → Type 0
HasCodeForEach m = length m.codes ≡ length m.functions
