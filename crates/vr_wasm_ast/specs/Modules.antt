-- The module grammar (WebAssembly Core 1.0, chapter 5, by whose sections it goes), without
-- floating point, with this project's limits, and of Core 2.0 the sign extensions, memory.copy,
-- memory.fill and the data count section.
use Rattle.std.specs.Prelude.{◌≡◌, ℕ, suc, ◌-◌, ◌<◌, ◌≤◌, ℤ, List, [], ◌∷◌, ◌++◌, length, replicate, Option, None, Some, Bool, true, false}
use Rattle.std.specs.List.{flat_map, sum_by}
use Rattle.std.specs.Str.{IsUtf8}
use Rattle.vr_wasm_ast.specs.declared.instr.Instr.{Instr}
use Rattle.vr_wasm_ast.specs.declared.instr.Instr.TheVariants.{Block, Loop, If, BrTable, CallIndirect, MemoryCopy, MemoryFill, I32Const, I64Const}
use Rattle.vr_wasm_ast.specs.declared.tree.ValType.{ValType}
use Rattle.vr_wasm_ast.specs.declared.tree.ValType.TheVariants.{I32, I64}
use Rattle.vr_wasm_ast.specs.declared.tree.FuncType.{FuncType}
use Rattle.vr_wasm_ast.specs.declared.tree.Limits.{Limits}
use Rattle.vr_wasm_ast.specs.declared.tree.GlobalType.{GlobalType}
use Rattle.vr_wasm_ast.specs.declared.tree.GlobalDef.{GlobalDef}
use Rattle.vr_wasm_ast.specs.declared.tree.ImportKind.{ImportKind}
use Rattle.vr_wasm_ast.specs.declared.tree.ImportKind.TheVariants as kinds
use Rattle.vr_wasm_ast.specs.declared.tree.Import.{Import}
use Rattle.vr_wasm_ast.specs.declared.tree.ExportKind.{ExportKind}
use Rattle.vr_wasm_ast.specs.declared.tree.ExportKind.TheVariants as exported
use Rattle.vr_wasm_ast.specs.declared.tree.Export.{Export}
use Rattle.vr_wasm_ast.specs.declared.tree.Element.{Element}
use Rattle.vr_wasm_ast.specs.declared.tree.Code.{Code}
use Rattle.vr_wasm_ast.specs.declared.tree.Segment.{Segment}
use Rattle.vr_wasm_ast.specs.declared.tree.Module.{Module}
use Rattle.vr_wasm_ast.specs.declared.sections.Progress.{Progress}
use Rattle.vr_wasm_ast.specs.declared.sections.Section.{Section}
use Rattle.vr_wasm_ast.specs.declared.sections.Section.TheVariants.{Types, Imports, Functions, Tables, Memories, Globals, Exports, Start, Elements, DataCount, Codes, Segments}
use Rattle.vr_wasm_ast.specs.Bytes.{i32_byte, i64_byte, no_result_byte, function_type_byte, function_elements_byte, minimum_byte, maximum_byte, constant_byte, variable_byte, block_opcode, loop_opcode, if_opcode, else_byte, end_byte, zero_index_byte, memory_copy_number, memory_fill_number, function_kind, table_kind, memory_kind, global_kind, custom_id, header}
use Rattle.vr_wasm_ast.specs.Imports.{imported_functions}
use Rattle.vr_wasm_ast.specs.Limits.{most_items, most_params, most_results, most_locals, most_nested, HasCodeForEach}
use Rattle.vr_wasm_ast.specs.Numbers.{IsUnsigned, IsSigned}
use Rattle.vr_wasm_ast.specs.Sections.{section_of, rank_of}
use Rattle.vr_wasm_ast.specs.Grammar.{Grammar, ◌>>=◌, gives, byte_then, either, where_, many, of_length, bytes, then_any}
use Rattle.vr_wasm_ast.specs.Forms.{Form, then_nothing, then_zero, then_index, then_labels, then_type, then_access, then_s32, then_s64, then_number, form_of}

-- ---- values (section 5.2)

-- 5.2.2
abbrev pub u32 : Grammar ℕ
u32 = IsUnsigned 32

abbrev pub s32 : Grammar ℤ
s32 = IsSigned 32

abbrev pub s64 : Grammar ℤ
s64 = IsSigned 64

-- a number that is at most the limit
abbrev pub count : ℕ → Grammar ℕ
count limit = do
  n ← u32
  where_ (n ≤ limit) (gives n)

-- a count, at most the limit, and so many items (5.1.3)
abbrev pub vector : {A : Type 0} → ℕ → Grammar A → Grammar (List A)
vector limit R = do
  n ← count limit
  many n R

-- a count, and so many bytes
abbrev pub data_bytes : Grammar (List ℕ)
data_bytes = do
  n ← u32
  of_length n bytes

-- bytes that are UTF-8
abbrev pub utf8 : List ℕ → Grammar (List ℕ)
utf8 name = where_ (IsUtf8 name) (gives name)

-- 5.2.4
abbrev pub name : Grammar (List ℕ)
name = do
  n ← u32
  text ← of_length n bytes
  utf8 text

-- a size, and in so many bytes the item
abbrev pub in_contents : {A : Type 0} → Grammar A → Grammar A
in_contents R = do
  n ← u32
  of_length n R

-- ---- types (section 5.3)

-- 5.3.1
abbrev pub val_type : Grammar ValType
val_type = either (byte_then i32_byte (gives I32)) (byte_then i64_byte (gives I64))

-- 5.3.3
abbrev pub func_type : Grammar FuncType
func_type = byte_then function_type_byte (do
  params ← vector most_params val_type
  results ← vector most_results val_type
  gives (record { params = params; results = results }))

abbrev pub bounds : ℕ → Option ℕ → Limits
bounds min max = record { min = min; max = max }

-- of a table, or of a memory, whose type they are (5.3.4 and 5.3.5)
abbrev pub limits : Grammar Limits
limits = either
    (byte_then minimum_byte (do
      min ← u32
      gives (bounds min None)))
    (byte_then maximum_byte (do
      min ← u32
      max ← u32
      gives (bounds min (Some max))))

-- 5.3.6
abbrev pub table_type : Grammar Limits
table_type = byte_then function_elements_byte limits

-- whether a global may be set (5.3.7)
abbrev pub flag : Grammar Bool
flag = either (byte_then constant_byte (gives false)) (byte_then variable_byte (gives true))

abbrev pub global_type : Grammar GlobalType
global_type = do
  value ← val_type
  variable ← flag
  gives (record { value = value; variable = variable })

-- ---- instructions (section 5.4)

-- 5.3.2
abbrev pub block_type : Grammar (Option ValType)
block_type =
    either (byte_then no_result_byte (gives None))
    (either (byte_then i32_byte (gives (Some I32))) (byte_then i64_byte (gives (Some I64))))

-- the index of the one table or memory, after which nothing follows
abbrev pub zero_byte : {A : Type 0} → A → Grammar A
zero_byte a = byte_then zero_index_byte (gives a)

-- what follows the number of an instruction on a range of the memory (Core 2.0, 5.4.6)
abbrev pub range_operands : ℕ → Grammar Instr
range_operands n =
    either (where_ (n ≡ memory_copy_number) (byte_then zero_index_byte (zero_byte MemoryCopy)))
    (where_ (n ≡ memory_fill_number) (zero_byte MemoryFill))

-- what follows the opcode of an instruction that has no instructions in it
abbrev pub operands : Form → Grammar Instr
operands (then_nothing i) = gives i
operands (then_zero i) = zero_byte i
operands (then_index f) = do
  n ← u32
  gives (f n)
operands then_labels = do
  labels ← vector most_items u32
  last ← u32
  gives (BrTable labels last)
operands then_type = do
  n ← u32
  zero_byte (CallIndirect n)
operands (then_access f) = do
  exponent ← u32
  offset ← u32
  gives (f exponent offset)
operands then_s32 = do
  z ← s32
  gives (I32Const z)
operands then_s64 = do
  z ← s64
  gives (I64Const z)
operands then_number = do
  n ← u32
  range_operands n

-- The bytes spell these instructions, in which blocks nest at most so deep (5.4.1):
-- nothing; an instruction that has none in it, and others; a block, a loop, or an `if`
-- without or with `else`, and others.
pub data Spells : ℕ → List ℕ → List Instr → Type 0 where
  nothing : {deep : ℕ} → Spells deep [] []
  plain : {deep op : ℕ} {form : Form} (text rest : List ℕ) {i : Instr} {is : List Instr}
      → form_of op ≡ Some form → operands form text i → Spells deep rest is
      → Spells deep (op ∷ (text ++ rest)) (i ∷ is)
  block : {deep : ℕ} (sort inner rest : List ℕ) (t : Option ValType) (body is : List Instr)
      → block_type sort t → Spells deep inner body → Spells (suc deep) rest is
      → Spells (suc deep) (block_opcode ∷ (sort ++ (inner ++ (end_byte ∷ rest))))
      (Block t body ∷ is)
  loop : {deep : ℕ} (sort inner rest : List ℕ) (t : Option ValType) (body is : List Instr)
      → block_type sort t → Spells deep inner body → Spells (suc deep) rest is
      → Spells (suc deep) (loop_opcode ∷ (sort ++ (inner ++ (end_byte ∷ rest)))) (Loop t body ∷ is)
  if_only : {deep : ℕ} (sort inner rest : List ℕ) (t : Option ValType) (body is : List Instr)
      → block_type sort t → Spells deep inner body → Spells (suc deep) rest is
      → Spells (suc deep) (if_opcode ∷ (sort ++ (inner ++ (end_byte ∷ rest)))) (If t body [] ∷ is)
  if_else : {deep : ℕ} (sort inner other rest : List ℕ) (t : Option ValType)
      (body branch is : List Instr)
      → block_type sort t → Spells deep inner body → Spells deep other branch
      → Spells (suc deep) rest is
      → Spells (suc deep)
      (if_opcode ∷ (sort ++ (inner ++ (else_byte ∷ (other ++ (end_byte ∷ rest))))))
      (If t body branch ∷ is)

abbrev pub instructions : Grammar (List Instr)
instructions = Spells most_nested

-- 5.4.6
abbrev pub expression : Grammar (List Instr)
expression = do
  is ← instructions
  byte_then end_byte (gives is)

-- ---- parts of a module (sections 5.5.4 to 5.5.14)

-- what is imported (5.5.5)
abbrev pub import_kind : Grammar ImportKind
import_kind = either
    (byte_then function_kind (do
      sort ← u32
      gives (kinds.Func sort)))
    (either
    (byte_then table_kind (do
      table ← table_type
      gives (kinds.Table table)))
    (either
    (byte_then memory_kind (do
      memory ← limits
      gives (kinds.Memory memory)))
    (byte_then global_kind (do
      global ← global_type
      gives (kinds.Global global)))))

abbrev pub import : Grammar Import
import = do
  from ← name
  own ← name
  what ← import_kind
  gives (record { «module» = from; name = own; what = what })

-- 5.5.9
abbrev pub global : Grammar GlobalDef
global = do
  sort ← global_type
  init ← expression
  gives (record { sort = sort; init = init })

-- what is exported (5.5.10)
abbrev pub export_kind : Grammar ExportKind
export_kind =
    either (byte_then function_kind (gives exported.Func))
    (either (byte_then table_kind (gives exported.Table))
    (either (byte_then memory_kind (gives exported.Memory))
    (byte_then global_kind (gives exported.Global))))

abbrev pub export : Grammar Export
export = do
  own ← name
  what ← export_kind
  index ← u32
  gives (record { name = own; what = what; index = index })

-- 5.5.12
abbrev pub element : Grammar Element
element = do
  table ← u32
  offset ← expression
  functions ← vector most_items u32
  gives (record { table = table; offset = offset; functions = functions })

-- locals of one type: how many, and the type (5.5.13)
abbrev pub group : Grammar (ℕ × ValType)
group = do
  n ← u32
  t ← val_type
  gives (n, t)

-- an item for each local
abbrev pub each_local : List (ℕ × ValType) → List ValType
each_local groups = flat_map (λ g. replicate g.0 g.1) groups

abbrev pub locals : Grammar (List ValType)
locals = do
  groups ← vector most_items group
  where_ (sum_by (λ g. g.0) groups ≤ most_locals) (gives (each_local groups))

abbrev pub function_body : Grammar Code
function_body = do
  locals ← locals
  body ← expression
  gives (record { locals = locals; body = body })

-- 5.5.14
abbrev pub segment : Grammar Segment
segment = do
  memory ← u32
  offset ← expression
  bytes ← data_bytes
  gives (record { memory = memory; offset = offset; bytes = bytes })

-- ---- sections (sections 5.5.2 and 5.5.3; Core 2.0, section 5.5.15, for the data count)

-- how many functions are imported
abbrev pub imported_count : Module → ℕ
imported_count m = length (imported_functions m.imports)

-- the code of each function
abbrev pub codes : ℕ → Grammar (List Code)
codes functions = do
  n ← u32
  where_ (n ≡ functions) (many n (in_contents function_body))

-- it is the number that a data count section told, if one stood there
abbrev pub IsAsTold : Option ℕ → ℕ → Type 0
IsAsTold None n = Unit {0}
IsAsTold (Some told) n = n ≡ told

-- data segments, as many as told
abbrev pub segments : Option ℕ → Grammar (List Segment)
segments data_count = do
  n ← u32
  where_ (IsAsTold data_count n) (where_ (n ≤ most_items) (many n segment))

-- the same with another module
abbrev pub with_tree : Progress → Module → Progress
with_tree p tree = record p { tree = tree }

-- The contents of a section add its part. Functions are at most 65,536, imported ones
-- counted, and each has its code.
abbrev pub section : Progress → Section → Grammar Progress
section p Types = do
  types ← vector most_items func_type
  gives (with_tree p (record p.tree { types = types }))
section p Imports = do
  imports ← vector most_items import
  gives (with_tree p (record p.tree { imports = imports }))
section p Functions = do
  functions ← vector (most_items - imported_count p.tree) u32
  gives (with_tree p (record p.tree { functions = functions }))
section p Tables = do
  tables ← vector most_items table_type
  gives (with_tree p (record p.tree { tables = tables }))
section p Memories = do
  memories ← vector most_items limits
  gives (with_tree p (record p.tree { memories = memories }))
section p Globals = do
  globals ← vector most_items global
  gives (with_tree p (record p.tree { globals = globals }))
section p Exports = do
  exports ← vector most_items export
  gives (with_tree p (record p.tree { exports = exports }))
section p Start = do
  start ← u32
  gives (with_tree p (record p.tree { start = Some start }))
section p Elements = do
  elements ← vector most_items element
  gives (with_tree p (record p.tree { elements = elements }))
section p DataCount = do
  n ← u32
  gives (record p { data_count = Some n })
section p Codes = do
  codes ← codes (length p.tree.functions)
  gives (with_tree p (record p.tree { codes = codes }))
section p Segments = do
  segments ← segments p.data_count
  gives (with_tree p (record p.tree { segments = segments }))

-- a custom section: a name, and any bytes
abbrev pub custom : Grammar (List ℕ)
custom = do
  text ← name
  then_any text

-- nothing is missing: each function has its code, and there are as many data segments as told
abbrev pub IsComplete : Progress → Type 0
IsComplete p = HasCodeForEach p.tree × IsAsTold p.data_count (length p.tree.segments)

-- The bytes spell the sections that follow those up to the one of this rank, 0 before the first,
-- and make the module whole. A section stands after those of lower rank; custom sections may stand
-- anywhere, and are left out. So is the number of a data count section, and where none stands
-- nothing is asked of the segments: bytes that are a module by the rules of Core 1.0 are that
-- module.
pub data IsSections : ℕ → Progress → List ℕ → Module → Type 0 where
  none : {last : ℕ} {p : Progress} → IsComplete p → IsSections last p [] p.tree
  left_out : {last : ℕ} {p : Progress} {m : Module} (text rest any : List ℕ)
      → in_contents custom text any → IsSections last p rest m
      → IsSections last p (custom_id ∷ (text ++ rest)) m
  next : {last id : ℕ} {s : Section} {p q : Progress} {m : Module} (text rest : List ℕ)
      → section_of id ≡ Some s → last < rank_of s → in_contents (section p s) text q
      → IsSections (rank_of s) q rest m
      → IsSections last p (id ∷ (text ++ rest)) m

-- ---- modules (section 5.5.15)

-- a module without sections
abbrev pub empty_module : Module
empty_module = record {
  types = [];
  imports = [];
  functions = [];
  tables = [];
  memories = [];
  globals = [];
  exports = [];
  start = None;
  elements = [];
  codes = [];
  segments = [];
}

-- before the first section
abbrev pub start : Progress
start = record { tree = empty_module; data_count = None }

-- the bytes spell the module
pub record IsModule (text : List ℕ) (m : Module) : Type 0 where
  pub body : List ℕ
  pub parts : text ≡ header ++ body
  pub sections : IsSections 0 start body m
