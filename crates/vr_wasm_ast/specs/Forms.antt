-- The opcodes, and what follows each of them (WebAssembly Core 1.0, section 5.4, without floating
-- point; Core 2.0, section 5.4.6, for memory.copy and memory.fill).
use Rattle.std.specs.Prelude.{ℕ, Option, None, Some, Bool, true, false, if◌then◌else◌, ◌==◌, is_some, ◌||◌}
use Rattle.vr_wasm_ast.specs.declared.instr.Instr.{Instr}
use Rattle.vr_wasm_ast.specs.declared.instr.Instr.TheVariants.{Unreachable, Nop, Br, BrIf, Return, Call, Drop, Select, LocalGet, LocalSet, LocalTee, GlobalGet, GlobalSet, Load, Store, MemorySize, MemoryGrow, Numeric}
use Rattle.vr_wasm_ast.specs.Opcodes.{is_between, load_of, store_of, numeric_of}

-- what follows the opcode of an instruction that has no instructions in it
pub data Form : Type 0 where
  -- nothing
  then_nothing : Instr → Form
  -- the byte of the index 0
  then_zero : Instr → Form
  -- an index
  then_index : (ℕ → Instr) → Form
  -- labels, and the default label
  then_labels : Form
  -- the index of a type, and the byte of the index 0
  then_type : Form
  -- the exponent of an alignment, and an offset
  then_access : (ℕ → ℕ → Instr) → Form
  -- a signed number of 32 bits, or of 64
  then_s32 : Form
  then_s64 : Form
  -- the number of an instruction on a range of the memory, and what follows that number
  then_number : Form

-- an instruction of this opcode, where the test says so
abbrev pub when : Bool → Form → Option Form
when true form = Some form
when false form = None

-- a load, a store or an instruction on integers
abbrev pub family_of : ℕ → Option Form
family_of op =
    if is_some (load_of op) then Some (then_access (Load op))
    else if is_some (store_of op) then Some (then_access (Store op))
    else when (is_some (numeric_of op)) (then_nothing (Numeric op))

abbrev pub form_of : ℕ → Option Form
form_of op =
    if op == 0x00 then Some (then_nothing Unreachable)
    else if op == 0x01 then Some (then_nothing Nop)
    else if op == 0x0c then Some (then_index Br)
    else if op == 0x0d then Some (then_index BrIf)
    else if op == 0x0e then Some then_labels
    else if op == 0x0f then Some (then_nothing Return)
    else if op == 0x10 then Some (then_index Call)
    else if op == 0x11 then Some then_type
    else if op == 0x1a then Some (then_nothing Drop)
    else if op == 0x1b then Some (then_nothing Select)
    else if op == 0x20 then Some (then_index LocalGet)
    else if op == 0x21 then Some (then_index LocalSet)
    else if op == 0x22 then Some (then_index LocalTee)
    else if op == 0x23 then Some (then_index GlobalGet)
    else if op == 0x24 then Some (then_index GlobalSet)
    else if op == 0x3f then Some (then_zero MemorySize)
    else if op == 0x40 then Some (then_zero MemoryGrow)
    else if op == 0x41 then Some then_s32
    else if op == 0x42 then Some then_s64
    else if op == 0xfc then Some then_number
    else family_of op

-- a value type of floating point
abbrev pub is_float_type : ℕ → Bool
is_float_type b = is_between 0x7c 0x7d b

-- an opcode of floating point
abbrev pub is_float_opcode : ℕ → Bool
is_float_opcode op =
    is_between 0x2a 0x2b op || is_between 0x38 0x39 op || is_between 0x43 0x44 op
    || is_between 0x5b 0x66 op
    || is_between 0x8b 0xa6 op || is_between 0xa8 0xab op || is_between 0xae 0xbf op
