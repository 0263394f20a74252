-- The bytes of the binary format by their names (WebAssembly Core 1.0, chapter 5).
use Rattle.std.specs.Prelude.{ℕ, List, [], ◌∷◌}

-- ---- types (section 5.3)

abbrev pub i32_byte : ℕ
i32_byte = 0x7f

abbrev pub i64_byte : ℕ
i64_byte = 0x7e

-- a block without a result
abbrev pub no_result_byte : ℕ
no_result_byte = 0x40

-- before the type of a function
abbrev pub function_type_byte : ℕ
function_type_byte = 0x60

-- a table's elements: functions
abbrev pub function_elements_byte : ℕ
function_elements_byte = 0x70

-- limits that have a minimum alone, and those with a maximum too
abbrev pub minimum_byte : ℕ
minimum_byte = 0x00

abbrev pub maximum_byte : ℕ
maximum_byte = 0x01

-- a global that is never set, and one that may be
abbrev pub constant_byte : ℕ
constant_byte = 0x00

abbrev pub variable_byte : ℕ
variable_byte = 0x01

-- ---- instructions (section 5.4)

abbrev pub block_opcode : ℕ
block_opcode = 0x02

abbrev pub loop_opcode : ℕ
loop_opcode = 0x03

abbrev pub if_opcode : ℕ
if_opcode = 0x04

abbrev pub else_byte : ℕ
else_byte = 0x05

abbrev pub end_byte : ℕ
end_byte = 0x0b

-- the index of the one table or memory, where the format keeps a place for others
abbrev pub zero_index_byte : ℕ
zero_index_byte = 0x00

-- the numbers after the prefix 0xfc (Core 2.0, section 5.4.6)
abbrev pub memory_copy_number : ℕ
memory_copy_number = 10

abbrev pub memory_fill_number : ℕ
memory_fill_number = 11

-- ---- modules (section 5.5)

-- what is imported or exported
abbrev pub function_kind : ℕ
function_kind = 0x00

abbrev pub table_kind : ℕ
table_kind = 0x01

abbrev pub memory_kind : ℕ
memory_kind = 0x02

abbrev pub global_kind : ℕ
global_kind = 0x03

-- the id of custom sections
abbrev pub custom_id : ℕ
custom_id = 0

-- the magic number and the version
abbrev pub header : List ℕ
header = 0x00 ∷ 0x61 ∷ 0x73 ∷ 0x6d ∷ 0x01 ∷ 0x00 ∷ 0x00 ∷ 0x00 ∷ []
