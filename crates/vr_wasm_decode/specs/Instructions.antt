-- Reading instructions (WebAssembly Core 1.0, section 5.4; Core 2.0, section 5.4.6, for
-- memory.copy and memory.fill).
use Rattle.std.specs.Prelude.{ℕ, zero, suc, ◌-◌, List, [], ◌∷◌, length, Option, None, Some, Err, Bool, true, false, ◌==◌, ◌&&◌, if◌then◌else◌}
use Rattle.vr_wasm_ast.specs.declared.instr.Instr.{Instr}
use Rattle.vr_wasm_ast.specs.declared.instr.Instr.TheVariants.{Block, Loop, If, BrTable, CallIndirect, MemoryCopy, MemoryFill, I32Const, I64Const}
use Rattle.vr_wasm_ast.specs.declared.tree.ValType.{ValType}
use Rattle.vr_wasm_ast.specs.Bytes.{block_opcode, loop_opcode, if_opcode, else_byte, end_byte, zero_index_byte, memory_copy_number, memory_fill_number}
use Rattle.vr_wasm_ast.specs.Opcodes.{is_between}
use Rattle.vr_wasm_ast.specs.Forms.{Form, then_nothing, then_zero, then_index, then_labels, then_type, then_access, then_s32, then_s64, then_number, form_of, is_float_opcode}
use Rattle.vr_wasm_ast.specs.Limits.{most_items, most_nested}
use Rattle.vr_wasm_decode.specs.declared.fault.DecodeKind.{DecodeKind}
use Rattle.vr_wasm_decode.specs.declared.fault.DecodeKind.TheVariants.{SectionSize, BadByte, Float, TooMany}
use Rattle.vr_wasm_decode.specs.Faults.{fault_at}
use Rattle.vr_wasm_decode.specs.Reader.{Reader, ◌>>=◌, give, here, stop, byte_at, expect_at, u32_at, s32_at, s64_at, vector_at}
use Rattle.vr_wasm_decode.specs.Types.{block_type_at}

-- ---- instructions that have none in them

-- the index of the one table or memory, after which nothing follows
abbrev pub zero_byte_at : {A : Type 0} → A → Reader A
zero_byte_at a = do
  _ ← expect_at zero_index_byte
  give a

-- what follows the number, which stood at this place, of an instruction on a range of the memory
abbrev pub range_operands_at : ℕ → ℕ → Reader Instr
range_operands_at place n =
    if n == memory_copy_number then (do
      _ ← expect_at zero_index_byte
      zero_byte_at MemoryCopy)
    else if n == memory_fill_number then zero_byte_at MemoryFill
    else stop BadByte place

-- what follows the opcode
abbrev pub operands_at : Form → Reader Instr
operands_at (then_nothing i) = give i
operands_at (then_zero i) = zero_byte_at i
operands_at (then_index f) = do
  n ← u32_at
  give (f n)
operands_at then_labels = do
  labels ← vector_at most_items u32_at
  last ← u32_at
  give (BrTable labels last)
operands_at then_type = do
  n ← u32_at
  zero_byte_at (CallIndirect n)
operands_at (then_access f) = do
  exponent ← u32_at
  offset ← u32_at
  give (f exponent offset)
operands_at then_s32 = do
  z ← s32_at
  give (I32Const z)
operands_at then_s64 = do
  z ← s64_at
  give (I64Const z)
operands_at then_number = do
  place ← here
  n ← u32_at
  range_operands_at place n

-- an opcode of no instruction
abbrev pub not_an_opcode : ℕ → DecodeKind
not_an_opcode op = if is_float_opcode op then Float else BadByte

abbrev pub form_at : Option Form → ℕ → ℕ → Reader Instr
form_at (Some form) op place = operands_at form
form_at None op place = stop (not_an_opcode op) place

-- an instruction that has none in it, after its opcode, which stood at this place
unfoldable pub plain_at : ℕ → ℕ → Reader Instr
plain_at op place = form_at (form_of op) op place

-- ---- instructions that have others in them

-- Instructions, and whether `else` ended them. An instruction with others in it reads them by what
-- is given: up to `end`, or where true up to `else`.
abbrev pub Inner : Type 0
Inner = Bool → Reader (List Instr × Bool)

-- after its first instructions: the other ones, if `else` ended the first ones
abbrev pub other_branch_at : Inner → Bool → Reader (List Instr)
other_branch_at inner true = do
  other ← inner false
  give other.0
other_branch_at inner false = give []

-- a block, a loop or an `if`, after its opcode and its type
abbrev pub after_type_at : Inner → ℕ → Option ValType → Reader Instr
after_type_at inner op t =
    if op == block_opcode then (do
      body ← inner false
      give (Block t body.0))
    else if op == loop_opcode then (do
      body ← inner false
      give (Loop t body.0))
    else (do
      body ← inner true
      other ← other_branch_at inner body.1
      give (If t body.0 other))

unfoldable pub nested_at : Inner → ℕ → Reader Instr
nested_at inner op = do
  t ← block_type_at
  after_type_at inner op t

-- an instruction after its opcode, where blocks may nest so deep
unfoldable pub instruction_at : Inner → ℕ → ℕ → ℕ → Reader Instr
instruction_at inner deep op place =
    if is_between block_opcode if_opcode op
    then (if deep == 0 then stop TooMany place else nested_at inner op)
    else plain_at op place

-- the end after its opcode, or an instruction and the others
unfoldable pub from_opcode_at : Reader (List Instr × Bool) → Inner → ℕ → Bool → ℕ → ℕ
    → Reader (List Instr × Bool)
from_opcode_at others inner deep may_else op place =
    if op == end_byte then give ([], false)
    else if (op == else_byte) && may_else then give ([], true)
    else (do
      first ← instruction_at inner deep op place
      is ← others
      give (first ∷ is.0, is.1))

-- Instructions up to `end`, or up to `else` where it may stand there, in which blocks may nest so
-- deep. At most fuel of them are read, which is enough where it is the number of the bytes.
unfoldable pub sequence_at : ℕ → ℕ → Bool → Reader (List Instr × Bool)
sequence_at zero deep may_else before = Err (fault_at SectionSize before.place)
sequence_at (suc fuel) deep may_else before = (do
  place ← here
  op ← byte_at
  from_opcode_at (sequence_at fuel deep may_else) (sequence_at fuel (deep - 1))
      deep may_else op place) before

-- 5.4.6
unfoldable pub expression_at : Reader (List Instr)
expression_at before = (do
  is ← sequence_at (length before.bytes) most_nested false
  give is.0) before
