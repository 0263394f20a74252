-- Which operation an opcode stands for (WebAssembly Core 1.0, section
-- 5.4.5, and the sign extensions).
use Rattle.std.specs.Prelude.{ℕ, ◌-◌, nat_lt, if◌then◌else◌, List, [], ◌∷◌, Option, None, Some, slice_get}
use Rattle.vr_wasm_num.specs.Integers.{Unary, clz, ctz, popcnt, extend_s, Binary, add, sub, mul, div_s, div_u, rem_s, rem_u, and, or, xor, shl, shr_s, shr_u, rotl, rotr, Compare, eqz, eq, ne, lt_s, lt_u, gt_s, gt_u, le_s, le_u, ge_s, ge_u, Conversion, wrap_i64, extend_i32_s, extend_i32_u}
use Rattle.vr_wasm_num.specs.declared.opcodes.TheConstants.{I32_EQZ, I64_EQZ, I32_CLZ, I64_CLZ, I32_ADD, I64_ADD, I32_EXTEND8_S, I64_EXTEND8_S, I32_WRAP_I64, I64_EXTEND_I32_S}

-- ---- the operations in the order of their opcodes, which is one for both widths

abbrev pub comparisons : List Compare
comparisons = eqz ∷ eq ∷ ne ∷ lt_s ∷ lt_u ∷ gt_s ∷ gt_u ∷ le_s ∷ le_u ∷ ge_s ∷ ge_u ∷ []

abbrev pub counts : List Unary
counts = clz ∷ ctz ∷ popcnt ∷ []

abbrev pub arithmetic : List Binary
arithmetic =
    add ∷ sub ∷ mul ∷ div_s ∷ div_u ∷ rem_s ∷ rem_u
    ∷ and ∷ or ∷ xor ∷ shl ∷ shr_s ∷ shr_u ∷ rotl ∷ rotr ∷ []

-- ---- the operation of an opcode

-- the one of a list whose opcodes begin with this first one
abbrev pub named : {A : Type 0} → ℕ → List A → ℕ → Option A
named first operations op = if nat_lt op first then None else slice_get operations (op - first)

-- the first of two that is there
abbrev pub either : {A : Type 0} → Option A → Option A → Option A
either (Some operation) other = Some operation
either None other = other

abbrev pub i32_compare_of : ℕ → Option Compare
i32_compare_of op = named I32_EQZ comparisons op

abbrev pub i64_compare_of : ℕ → Option Compare
i64_compare_of op = named I64_EQZ comparisons op

abbrev pub i32_binary_of : ℕ → Option Binary
i32_binary_of op = named I32_ADD arithmetic op

abbrev pub i64_binary_of : ℕ → Option Binary
i64_binary_of op = named I64_ADD arithmetic op

abbrev pub i32_unary_of : ℕ → Option Unary
i32_unary_of op =
    either (named I32_CLZ counts op) (named I32_EXTEND8_S (extend_s 8 ∷ extend_s 16 ∷ []) op)

abbrev pub i64_unary_of : ℕ → Option Unary
i64_unary_of op =
    either (named I64_CLZ counts op)
    (named I64_EXTEND8_S (extend_s 8 ∷ extend_s 16 ∷ extend_s 32 ∷ []) op)

abbrev pub conversion_of : ℕ → Option Conversion
conversion_of op =
    either (named I32_WRAP_I64 (wrap_i64 ∷ []) op)
    (named I64_EXTEND_I32_S (extend_i32_s ∷ extend_i32_u ∷ []) op)
