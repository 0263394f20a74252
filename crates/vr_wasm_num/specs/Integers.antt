-- Operations on integers of n bits (WebAssembly Core 1.0, section 4.3.2). Each operand
-- is a whole number below 2 ^ n.
use Rattle.std.specs.Prelude.{ℕ, ◌+◌, ◌-◌, ◌*◌, ◌/◌, ◌%◌, ◌^◌, ◌==◌, nat_lt, nat_le, ℤ, pos, negsuc, ◌-ℤ◌, Bool, if◌then◌else◌, Result, Ok, Err, bit_and, bit_or, bit_xor, count_ones, true, false}
use Rattle.std.specs.Int.RustNames.{int_lt, int_le, int_div, int_rem}
use Rattle.std.specs.Int.Count.{count_leading_zeros, count_trailing_zeros}
use Rattle.std.specs.Int.Signed.{shr_z}
use Rattle.vr_wasm_num.specs.declared.trap.Trap.{Trap}
use Rattle.vr_wasm_num.specs.declared.trap.TheConstants.{DIVIDE_BY_ZERO, INTEGER_OVERFLOW}

-- ---- the operations

-- on one operand
pub data Unary : Type 0 where
  clz : Unary
  ctz : Unary
  popcnt : Unary
  -- from so many bits
  extend_s : ℕ → Unary

-- on two operands
pub data Binary : Type 0 where
  add : Binary
  sub : Binary
  mul : Binary
  div_s : Binary
  div_u : Binary
  rem_s : Binary
  rem_u : Binary
  and : Binary
  or : Binary
  xor : Binary
  shl : Binary
  shr_s : Binary
  shr_u : Binary
  rotl : Binary
  rotr : Binary

-- tests of one operand for zero, and of two
pub data Compare : Type 0 where
  eqz : Compare
  eq : Compare
  ne : Compare
  lt_s : Compare
  lt_u : Compare
  gt_s : Compare
  gt_u : Compare
  le_s : Compare
  le_u : Compare
  ge_s : Compare
  ge_u : Compare

-- from one width to the other
pub data Conversion : Type 0 where
  wrap_i64 : Conversion
  extend_i32_s : Conversion
  extend_i32_u : Conversion

-- ---- what they give

-- the whole number that i stands for where it is read as signed
abbrev pub signed : ℕ → ℕ → ℤ
signed n i = if nat_lt i (2 ^ (n - 1)) then pos i else pos i -ℤ pos (2 ^ n)

-- and back: the number from 0 to 2 ^ n - 1 that differs from z by a multiple of 2 ^ n
abbrev pub unsigned : ℕ → ℤ → ℕ
unsigned n (pos i) = i % 2 ^ n
unsigned n (negsuc i) = 2 ^ n - 1 - i % 2 ^ n

-- no result, but a trap of this kind
abbrev pub trap : {A : Type 0} → ℕ → Result A Trap
trap kind = Err record { kind = kind }

-- the result of an operation on one operand of n bits
abbrev pub unary : Unary → ℕ → ℕ → ℕ
unary clz n i = count_leading_zeros n i
unary ctz n i = count_trailing_zeros n i
unary popcnt n i = count_ones i
unary (extend_s m) n i = unsigned n (signed m (i % 2 ^ m))

-- a quotient, where the divisor is not zero
abbrev pub divided : ℕ → {A : Type 0} → Result A Trap → Result A Trap
divided j quotient = if j == 0 then trap DIVIDE_BY_ZERO else quotient

-- a signed number that has a place in the width
abbrev pub fitting : ℕ → ℤ → Result ℕ Trap
fitting n z = if int_lt z (pos (2 ^ (n - 1))) then Ok (unsigned n z) else trap INTEGER_OVERFLOW

-- the result of an operation on two, or its trap
abbrev pub binary : Binary → ℕ → ℕ → ℕ → Result ℕ Trap
binary add n i j = Ok ((i + j) % 2 ^ n)
binary sub n i j = Ok ((2 ^ n + i - j) % 2 ^ n)
binary mul n i j = Ok (i * j % 2 ^ n)
binary div_s n i j = divided j (fitting n (int_div (signed n i) (signed n j)))
binary div_u n i j = divided j (Ok (i / j))
binary rem_s n i j = divided j (Ok (unsigned n (int_rem (signed n i) (signed n j))))
binary rem_u n i j = divided j (Ok (i % j))
binary and n i j = Ok (bit_and i j)
binary or n i j = Ok (bit_or i j)
binary xor n i j = Ok (bit_xor i j)
binary shl n i j = Ok (i * 2 ^ (j % n) % 2 ^ n)
binary shr_s n i j = Ok (unsigned n (shr_z (signed n i) (2 ^ (j % n))))
binary shr_u n i j = Ok (i / 2 ^ (j % n))
binary rotl n i j = Ok (i * 2 ^ (j % n) % 2 ^ n + i / 2 ^ (n - j % n))
binary rotr n i j = Ok (i / 2 ^ (j % n) + i * 2 ^ (n - j % n) % 2 ^ n)

-- what a comparison gives
abbrev pub bit : Bool → ℕ
bit holds = if holds then 1 else 0

-- whether a test passes; that for zero doesn't look at the second operand
abbrev pub compare : Compare → ℕ → ℕ → ℕ → Bool
compare eqz n i j = i == 0
compare eq n i j = i == j
compare ne n i j = if i == j then false else true
compare lt_s n i j = int_lt (signed n i) (signed n j)
compare lt_u n i j = nat_lt i j
compare gt_s n i j = int_lt (signed n j) (signed n i)
compare gt_u n i j = nat_lt j i
compare le_s n i j = int_le (signed n i) (signed n j)
compare le_u n i j = nat_le i j
compare ge_s n i j = int_le (signed n j) (signed n i)
compare ge_u n i j = nat_le j i

-- Of a conversion from 32 bits the lowest 32 are the operand.
abbrev pub converted : Conversion → ℕ → ℕ
converted wrap_i64 i = i % 2 ^ 32
converted extend_i32_s i = unsigned 64 (signed 32 (i % 2 ^ 32))
converted extend_i32_u i = i % 2 ^ 32
