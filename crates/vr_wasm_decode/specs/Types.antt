-- Reading names and types.
use Rattle.std.specs.Prelude.{ℕ, ◌+◌, List, length, take, drop, Option, None, Some, Ok, Err, Bool, true, false, nat_lt, ◌==◌, if◌then◌else◌}
use Rattle.std.specs.Str.{is_utf8}
use Rattle.vr_wasm_ast.specs.declared.tree.ValType.{ValType}
use Rattle.vr_wasm_ast.specs.declared.tree.ValType.TheVariants.{I32, I64}
use Rattle.vr_wasm_ast.specs.declared.tree.FuncType.{FuncType}
use Rattle.vr_wasm_ast.specs.declared.tree.Limits.{Limits}
use Rattle.vr_wasm_ast.specs.declared.tree.GlobalType.{GlobalType}
use Rattle.vr_wasm_ast.specs.Rest.{rest}
use Rattle.vr_wasm_ast.specs.Bytes.{i32_byte, i64_byte, no_result_byte, function_type_byte, function_elements_byte, minimum_byte, maximum_byte, constant_byte, variable_byte}
use Rattle.vr_wasm_ast.specs.Forms.{is_float_type}
use Rattle.vr_wasm_ast.specs.Limits.{most_params, most_results}
use Rattle.vr_wasm_ast.specs.Modules.{bounds}
use Rattle.vr_wasm_decode.specs.declared.fault.DecodeKind.{DecodeKind}
use Rattle.vr_wasm_decode.specs.declared.fault.DecodeKind.TheVariants.{SectionSize, BadByte, Utf8, Float}
use Rattle.vr_wasm_decode.specs.Faults.{fault_at}
use Rattle.vr_wasm_decode.specs.Reader.{Reader, ◌>>=◌, give, here, stop, byte_at, expect_at, u32_at, vector_at}

-- ---- names and data (WebAssembly Core 1.0, sections 5.1.3 and 5.2.4)

-- so many bytes, which are items one by one: the first that is missing would stand at the end
abbrev pub bytes_at : ℕ → Reader (List ℕ)
bytes_at n before =
    if nat_lt (length before.bytes) n
    then Err (fault_at SectionSize (before.place + length before.bytes))
    else Ok (take n before.bytes, rest (before.place + n) (drop n before.bytes))

unfoldable pub data_bytes_at : Reader (List ℕ)
data_bytes_at = do
  n ← u32_at
  bytes_at n

abbrev pub utf8_at : ℕ → List ℕ → Reader (List ℕ)
utf8_at place text = if is_utf8 text then give text else stop Utf8 place

unfoldable pub name_at : Reader (List ℕ)
name_at = do
  n ← u32_at
  place ← here
  text ← bytes_at n
  utf8_at place text

-- ---- types (section 5.3)

-- a byte that is no type
abbrev pub not_a_type : ℕ → DecodeKind
not_a_type b = if is_float_type b then Float else BadByte

-- the type of this byte, which stood at this place (5.3.1)
abbrev pub val_type_of_at : ℕ → ℕ → Reader ValType
val_type_of_at b place =
    if b == i32_byte then give I32
    else if b == i64_byte then give I64
    else stop (not_a_type b) place

unfoldable pub val_type_at : Reader ValType
val_type_at = do
  place ← here
  b ← byte_at
  val_type_of_at b place

-- the type of a block (5.3.2)
unfoldable pub block_type_at : Reader (Option ValType)
block_type_at = do
  place ← here
  b ← byte_at
  if b == no_result_byte then give None
      else (do
        t ← val_type_of_at b place
        give (Some t))

-- 5.3.3
unfoldable pub func_type_at : Reader FuncType
func_type_at = do
  _ ← expect_at function_type_byte
  params ← vector_at most_params val_type_at
  results ← vector_at most_results val_type_at
  give (record { params = params; results = results })

-- of a table or a memory (5.3.4 and 5.3.5)
unfoldable pub limits_at : Reader Limits
limits_at = do
  place ← here
  flag ← byte_at
  if flag == minimum_byte then (do
    min ← u32_at
    give (bounds min None))
      else if flag == maximum_byte then (do
        min ← u32_at
        max ← u32_at
        give (bounds min (Some max)))
      else stop BadByte place

-- 5.3.6
unfoldable pub table_type_at : Reader Limits
table_type_at = do
  _ ← expect_at function_elements_byte
  limits_at

-- whether a global may be set (5.3.7)
unfoldable pub flag_at : Reader Bool
flag_at = do
  place ← here
  b ← byte_at
  if b == constant_byte then give false
      else if b == variable_byte then give true else stop BadByte place

unfoldable pub global_type_at : Reader GlobalType
global_type_at = do
  value ← val_type_at
  variable ← flag_at
  give (record { value = value; variable = variable })
