-- The opcodes that stand for a family of instructions alike: loads and stores (WebAssembly Core
-- 1.0, section 5.4.4), and the instructions on integers (section 5.4.5; Core 2.0, section 5.4.7,
-- for those that extend a sign).
use Rattle.std.specs.Prelude.{ℕ, suc, List, [], ◌∷◌, Option, None, Some, Bool, true, false, if◌then◌else◌, ◌==◌, nat_lt}
use Rattle.vr_wasm_ast.specs.declared.tree.ValType.{ValType}
use Rattle.vr_wasm_ast.specs.declared.tree.ValType.TheVariants.{I32, I64}
use Rattle.vr_wasm_ast.specs.declared.opcodes.MemoryAccess.{MemoryAccess}
use Rattle.vr_wasm_ast.specs.declared.opcodes.NumericFamily.{NumericFamily}
use Rattle.vr_wasm_ast.specs.declared.opcodes.NumericFamily.TheVariants.{Unary, Binary, Test, Comparison, Conversion}

-- it is one of the opcodes from the first to the last
abbrev pub is_between : ℕ → ℕ → ℕ → Bool
is_between first last op = if nat_lt op first then false else nat_lt op (suc last)

-- a value of this type, in 2 to this power bytes, and whether a load copies their sign
abbrev pub access_of : ValType → ℕ → Bool → Option MemoryAccess
access_of value exponent signed =
    Some record { value = value; exponent = exponent; signed = signed }

-- what the load of this opcode moves
abbrev pub load_of : ℕ → Option MemoryAccess
load_of op =
    if op == 0x28 then access_of I32 2 false
    else if op == 0x29 then access_of I64 3 false
    else if op == 0x2c then access_of I32 0 true
    else if op == 0x2d then access_of I32 0 false
    else if op == 0x2e then access_of I32 1 true
    else if op == 0x2f then access_of I32 1 false
    else if op == 0x30 then access_of I64 0 true
    else if op == 0x31 then access_of I64 0 false
    else if op == 0x32 then access_of I64 1 true
    else if op == 0x33 then access_of I64 1 false
    else if op == 0x34 then access_of I64 2 true
    else if op == 0x35 then access_of I64 2 false
    else None

-- what the store of this opcode moves
abbrev pub store_of : ℕ → Option MemoryAccess
store_of op =
    if op == 0x36 then access_of I32 2 false
    else if op == 0x37 then access_of I64 3 false
    else if op == 0x3a then access_of I32 0 false
    else if op == 0x3b then access_of I32 1 false
    else if op == 0x3c then access_of I64 0 false
    else if op == 0x3d then access_of I64 1 false
    else if op == 0x3e then access_of I64 2 false
    else None

-- the family of the instruction on integers of this opcode
abbrev pub numeric_of : ℕ → Option NumericFamily
numeric_of op =
    if op == 0x45 then Some (Test I32)
    else if is_between 0x46 0x4f op then Some (Comparison I32)
    else if op == 0x50 then Some (Test I64)
    else if is_between 0x51 0x5a op then Some (Comparison I64)
    else if is_between 0x67 0x69 op then Some (Unary I32)
    else if is_between 0x6a 0x78 op then Some (Binary I32)
    else if is_between 0x79 0x7b op then Some (Unary I64)
    else if is_between 0x7c 0x8a op then Some (Binary I64)
    else if op == 0xa7 then Some (Conversion I64 I32)
    else if is_between 0xac 0xad op then Some (Conversion I32 I64)
    else if is_between 0xc0 0xc1 op then Some (Unary I32)
    else if is_between 0xc2 0xc4 op then Some (Unary I64)
    else None

-- the operands that the instructions of a family take (WebAssembly Core 1.0, section 3.3.1)
abbrev pub numeric_operands : NumericFamily → List ValType
numeric_operands (Unary t) = t ∷ []
numeric_operands (Binary t) = t ∷ t ∷ []
numeric_operands (Test t) = t ∷ []
numeric_operands (Comparison t) = t ∷ t ∷ []
numeric_operands (Conversion from to) = from ∷ []

-- the result that they give
abbrev pub numeric_result : NumericFamily → ValType
numeric_result (Unary t) = t
numeric_result (Binary t) = t
numeric_result (Test t) = I32
numeric_result (Comparison t) = I32
numeric_result (Conversion from to) = to
