-- Reading the parts of a module, its sections, and the whole (WebAssembly Core 1.0, section 5.5).
use Rattle.std.specs.Prelude.{ℕ, zero, suc, ◌+◌, ◌-◌, List, [], ◌∷◌, ◌++◌, length, drop, replicate, Option, None, Some, Result, Ok, Err, Bool, true, nat_eq, nat_lt, nat_le, ◌==◌, ◌&&◌, if◌then◌else◌}
use Rattle.std.specs.List.{starts_with}
use Rattle.vr_wasm_ast.specs.declared.tree.ValType.{ValType}
use Rattle.vr_wasm_ast.specs.declared.tree.GlobalDef.{GlobalDef}
use Rattle.vr_wasm_ast.specs.declared.tree.ImportKind.{ImportKind}
use Rattle.vr_wasm_ast.specs.declared.tree.ImportKind.TheVariants as kinds
use Rattle.vr_wasm_ast.specs.declared.tree.Import.{Import}
use Rattle.vr_wasm_ast.specs.declared.tree.ExportKind.{ExportKind}
use Rattle.vr_wasm_ast.specs.declared.tree.ExportKind.TheVariants as exported
use Rattle.vr_wasm_ast.specs.declared.tree.Export.{Export}
use Rattle.vr_wasm_ast.specs.declared.tree.Element.{Element}
use Rattle.vr_wasm_ast.specs.declared.tree.Code.{Code}
use Rattle.vr_wasm_ast.specs.declared.tree.Segment.{Segment}
use Rattle.vr_wasm_ast.specs.declared.tree.Module.{Module}
use Rattle.vr_wasm_ast.specs.declared.sections.Progress.{Progress}
use Rattle.vr_wasm_ast.specs.declared.sections.Section.{Section}
use Rattle.vr_wasm_ast.specs.declared.sections.Section.TheVariants.{Types, Imports, Functions, Tables, Memories, Globals, Exports, Start, Elements, DataCount, Codes, Segments}
use Rattle.vr_wasm_ast.specs.Rest.{Rest, rest}
use Rattle.vr_wasm_ast.specs.Bytes.{function_kind, table_kind, memory_kind, global_kind, custom_id, header}
use Rattle.vr_wasm_ast.specs.Limits.{most_items, most_locals}
use Rattle.vr_wasm_ast.specs.Sections.{section_of, rank_of}
use Rattle.vr_wasm_ast.specs.Modules.{with_tree, imported_count, start}
use Rattle.vr_wasm_decode.specs.declared.fault.DecodeFault.{DecodeFault}
use Rattle.vr_wasm_decode.specs.declared.fault.DecodeKind.TheVariants.{Magic, Truncated, SectionOrder, SectionSize, BadByte, Counts, TooMany}
use Rattle.vr_wasm_decode.specs.Faults.{fault_at}
use Rattle.vr_wasm_decode.specs.Reader.{Reader, on_ok, ◌>>=◌, give, here, stop, byte_at, u32_at, items_at, count_at, vector_at, contents_at, after_contents, sized_at}
use Rattle.vr_wasm_decode.specs.Types.{data_bytes_at, name_at, val_type_at, func_type_at, limits_at, table_type_at, global_type_at}
use Rattle.vr_wasm_decode.specs.Instructions.{expression_at}

-- ---- parts of a module (sections 5.5.4 to 5.5.14)

-- what is imported (5.5.5)
unfoldable pub import_kind_at : Reader ImportKind
import_kind_at = do
  place ← here
  b ← byte_at
  if b == function_kind then (do
    sort ← u32_at
    give (kinds.Func sort))
      else if b == table_kind then (do
        table ← table_type_at
        give (kinds.Table table))
      else if b == memory_kind then (do
        memory ← limits_at
        give (kinds.Memory memory))
      else if b == global_kind then (do
        global ← global_type_at
        give (kinds.Global global))
      else stop BadByte place

unfoldable pub import_at : Reader Import
import_at = do
  from ← name_at
  own ← name_at
  what ← import_kind_at
  give (record { «module» = from; name = own; what = what })

-- 5.5.9
unfoldable pub global_at : Reader GlobalDef
global_at = do
  sort ← global_type_at
  init ← expression_at
  give (record { sort = sort; init = init })

-- what is exported (5.5.10)
unfoldable pub export_kind_at : Reader ExportKind
export_kind_at = do
  place ← here
  b ← byte_at
  if b == function_kind then give exported.Func
      else if b == table_kind then give exported.Table
      else if b == memory_kind then give exported.Memory
      else if b == global_kind then give exported.Global
      else stop BadByte place

unfoldable pub export_at : Reader Export
export_at = do
  own ← name_at
  what ← export_kind_at
  index ← u32_at
  give (record { name = own; what = what; index = index })

-- 5.5.12
unfoldable pub element_at : Reader Element
element_at = do
  table ← u32_at
  offset ← expression_at
  functions ← vector_at most_items u32_at
  give (record { table = table; offset = offset; functions = functions })

-- the locals of so many groups, after some of this number (5.5.13)
unfoldable pub groups_at : ℕ → ℕ → Reader (List ValType)
groups_at zero so_far = give []
groups_at (suc n) so_far = do
  place ← here
  more ← u32_at
  if nat_lt most_locals (so_far + more) then stop TooMany place
      else (do
        t ← val_type_at
        others ← groups_at n (so_far + more)
        give (replicate more t ++ others))

unfoldable pub locals_at : Reader (List ValType)
locals_at = do
  n ← count_at most_items
  groups_at n 0

unfoldable pub function_body_at : Reader Code
function_body_at = do
  types ← locals_at
  body ← expression_at
  give (record { locals = types; body = body })

-- 5.5.14
unfoldable pub segment_at : Reader Segment
segment_at = do
  memory ← u32_at
  offset ← expression_at
  text ← data_bytes_at
  give (record { memory = memory; offset = offset; bytes = text })

-- ---- sections (sections 5.5.2 and 5.5.3)

-- the code of each of so many functions
unfoldable pub codes_at : ℕ → Reader (List Code)
codes_at functions = do
  place ← here
  n ← u32_at
  if n == functions then items_at n (sized_at SectionSize function_body_at) else stop Counts place

-- it is the number that a data count section told, if one stood there
abbrev pub is_count_told : Option ℕ → ℕ → Bool
is_count_told None n = true
is_count_told (Some told) n = n == told

-- data segments, as many as told
unfoldable pub segments_at : Option ℕ → Reader (List Segment)
segments_at data_count = do
  place ← here
  n ← u32_at
  if is_count_told data_count n
      then (if nat_lt most_items n then stop TooMany place else items_at n segment_at)
      else stop Counts place

-- the contents of a section add its part
unfoldable pub section_at : Section → Progress → Reader Progress
section_at Types p = do
  types ← vector_at most_items func_type_at
  give (with_tree p (record p.tree { types = types }))
section_at Imports p = do
  imports ← vector_at most_items import_at
  give (with_tree p (record p.tree { imports = imports }))
section_at Functions p = do
  functions ← vector_at (most_items - imported_count p.tree) u32_at
  give (with_tree p (record p.tree { functions = functions }))
section_at Tables p = do
  tables ← vector_at most_items table_type_at
  give (with_tree p (record p.tree { tables = tables }))
section_at Memories p = do
  memories ← vector_at most_items limits_at
  give (with_tree p (record p.tree { memories = memories }))
section_at Globals p = do
  globals ← vector_at most_items global_at
  give (with_tree p (record p.tree { globals = globals }))
section_at Exports p = do
  exports ← vector_at most_items export_at
  give (with_tree p (record p.tree { exports = exports }))
section_at Start p = do
  start ← u32_at
  give (with_tree p (record p.tree { start = Some start }))
section_at Elements p = do
  elements ← vector_at most_items element_at
  give (with_tree p (record p.tree { elements = elements }))
section_at DataCount p = do
  n ← u32_at
  give (record p { data_count = Some n })
section_at Codes p = do
  codes ← codes_at (length p.tree.functions)
  give (with_tree p (record p.tree { codes = codes }))
section_at Segments p = do
  segments ← segments_at p.data_count
  give (with_tree p (record p.tree { segments = segments }))

-- the name that a custom section begins with, whose other bytes are any
abbrev pub custom_name_at : Rest → Result (List ℕ) DecodeFault
custom_name_at before = on_ok (name_at before) (λ text after. Ok text)

unfoldable pub custom_at : Reader (List ℕ)
custom_at = do
  inner ← contents_at Truncated
  after_contents (custom_name_at inner)

-- a section after its id, which stood at this place, where the last one was of this rank
unfoldable pub numbered_at : Option Section → ℕ → ℕ → Progress → Reader (ℕ × Progress)
numbered_at None place last p = stop BadByte place
numbered_at (Some s) place last p =
    if nat_le (rank_of s) last then stop SectionOrder place
    else (do
      next ← sized_at Truncated (section_at s p)
      give (rank_of s, next))

-- a section after its id, or a custom one, which leaves all as it was
unfoldable pub any_section_at : ℕ → ℕ → ℕ → Progress → Reader (ℕ × Progress)
any_section_at id place last p =
    if id == custom_id then (do
      _ ← custom_at
      give (last, p))
    else numbered_at (section_of id) place last p

-- ---- modules (section 5.5.15)

-- each function has its code, and there are as many data segments as told, or the counts differ
abbrev pub finished_at : Progress → ℕ → Result Module DecodeFault
finished_at p place =
    if (length p.tree.functions == length p.tree.codes)
    && is_count_told p.data_count (length p.tree.segments) then Ok p.tree
    else Err (fault_at Counts place)

-- the end, or a section and what goes on from it
abbrev pub next_section_at : (ℕ → Progress → Rest → Result Module DecodeFault)
    → ℕ → Progress → ℕ → List ℕ → Result Module DecodeFault
next_section_at go_on last p place [] = finished_at p place
next_section_at go_on last p place (id ∷ bytes) =
    on_ok (any_section_at id place last p (rest (place + 1) bytes))
    (λ next after. go_on next.0 next.1 after)

-- The sections after those up to the one of this rank make the module whole. At most fuel of them
-- are read, which is enough where it is the number of the bytes.
unfoldable pub sections_at : ℕ → ℕ → Progress → Rest → Result Module DecodeFault
sections_at zero last p before = finished_at p before.place
sections_at (suc fuel) last p before =
    next_section_at (sections_at fuel) last p before.place before.bytes

-- the module that the bytes spell, or their first fault
unfoldable pub module_of : List ℕ → Result Module DecodeFault
module_of bytes =
    if starts_with nat_eq bytes header
    then sections_at (length bytes) 0 start (rest 8 (drop 8 bytes))
    else Err (fault_at Magic 0)
