-- Integers in LEB128 (WebAssembly Core 1.0, section 5.2.2).
use Rattle.std.specs.Prelude.{◌≡◌, ℕ, ◌+◌, ◌-◌, ◌*◌, ◌^◌, ◌<◌, ◌≤◌, ℤ, pos, ◌+ℤ◌, ◌-ℤ◌, ◌*ℤ◌, List, [], ◌∷◌, ◌++◌, length, Option, None, Some, Result, Ok, Err, ◌⊎◌, nat_lt, nat_le, if◌then◌else◌}
use Rattle.std.specs.List.{AllByRecursion}
use Rattle.vr_wasm_ast.specs.declared.cursor.LebFault.{LebFault}
use Rattle.vr_wasm_ast.specs.declared.cursor.LebFault.TheVariants.{Bad, Short}
use Rattle.vr_wasm_ast.specs.Rest.{Rest, rest, Consumes}

-- ---- which bytes spell which number

-- The bytes spell a number of so many bits. A byte below 128 is the last one, and last says what it
-- stands for. One from 128 on has the low seven bits, and the bytes after it spell the rest in
-- seven bits less; more joins them.
abbrev pub IsNumber : {N : Type 0} → (ℕ → ℕ → Option N) → (N → ℕ → N) → ℕ → List ℕ → N → Type 0
IsNumber last more bits [] n = ⊥
IsNumber last more bits (b ∷ []) n = (b < 128) × (last bits b ≡ Some n)
IsNumber {N} last more bits (b ∷ c ∷ bs) n =
    (128 ≤ b) × (7 < bits)
    × (high : N) × (n ≡ more high (b - 128)) × IsNumber last more (bits - 7) (c ∷ bs) high

-- what a last byte stands for in so many bits, the bits above them being zero
abbrev pub last_unsigned : ℕ → ℕ → Option ℕ
last_unsigned bits b = if nat_lt b (2 ^ bits) then Some b else None

-- what a last byte stands for in so many bits, bit 6 being the sign and the
-- bits above them copies of it
abbrev pub last_signed : ℕ → ℕ → Option ℤ
last_signed bits b =
    if nat_lt b 64 then (if nat_lt b (2 ^ (bits - 1)) then Some (pos b) else None)
    else (if nat_le 128 (b + 2 ^ (bits - 1)) then Some (pos b -ℤ pos 128) else None)

abbrev pub more_unsigned : ℕ → ℕ → ℕ
more_unsigned high low = 128 * high + low

abbrev pub more_signed : ℤ → ℕ → ℤ
more_signed high low = (pos 128 *ℤ high) +ℤ pos low

abbrev pub IsUnsigned : ℕ → List ℕ → ℕ → Type 0
IsUnsigned bits text n = IsNumber last_unsigned more_unsigned bits text n

abbrev pub IsSigned : ℕ → List ℕ → ℤ → Type 0
IsSigned bits text z = IsNumber last_signed more_signed bits text z

-- the bytes that were taken spell the number
abbrev pub ConsumesAs : {N : Type 0} → (List ℕ → N → Type 0) → Rest → Rest → N → Type 0
ConsumesAs spells before after n = (text : List ℕ) × spells text n × Consumes before text after

-- ---- where the bytes begin with none

-- each byte says that another one follows
abbrev pub AllGoOn : List ℕ → Type 0
AllGoOn bytes = AllByRecursion (λ b. 128 ≤ b) bytes

-- the bytes end before the number does, which may have more of them
abbrev pub EndsFirst : ℕ → List ℕ → Type 0
EndsFirst bits bytes = (7 * length bytes < bits) × AllGoOn bytes

-- After bytes that say that another one follows stands one that may be the last: it says so too,
-- where no more are allowed, or it is the last, and a bit above those of the number is wrong.
pub record IsBadAt {N : Type 0} (last : ℕ → ℕ → Option N) (bits : ℕ) (bytes prefix : List ℕ)
    (b : ℕ) (after : List ℕ) : Type 0 where
  pub parts : bytes ≡ prefix ++ b ∷ after
  pub goes_on : AllGoOn prefix
  pub allowed : 7 * length prefix < bits
  pub wrong : ((128 ≤ b) × (bits ≤ 7 * length prefix + 7))
      ⊎ ((b < 128) × (last (bits - 7 * length prefix) b ≡ None))

abbrev pub IsBad : {N : Type 0} → (ℕ → ℕ → Option N) → ℕ → List ℕ → Type 0
IsBad last bits bytes =
    (prefix : List ℕ) × (b : ℕ) × (after : List ℕ) × IsBadAt last bits bytes prefix b after

-- ---- reading from left to right: the number and the bytes after it, or why there is none

-- the number that a last byte stands for, and the bytes after it
abbrev pub or_bad : {N : Type 0} → Option N → List ℕ → Result (N × List ℕ) LebFault
or_bad (Some n) after = Ok (n, after)
or_bad None after = Err Bad

-- a number with seven more bits below it
abbrev pub with_low : {N : Type 0} → (N → ℕ → N) → ℕ → Result (N × List ℕ) LebFault
    → Result (N × List ℕ) LebFault
with_low more low (Ok x) = Ok (more x.0 low, x.1)
with_low more low (Err e) = Err e

-- the number that the bytes begin with
unfoldable pub number_from : {N : Type 0} → (ℕ → ℕ → Option N) → (N → ℕ → N) → ℕ → List ℕ
    → Result (N × List ℕ) LebFault
number_from last more bits [] = Err Short
number_from last more bits (b ∷ bytes) =
    if nat_lt b 128 then or_bad (last bits b) bytes
    else if nat_lt 7 bits then with_low more (b - 128) (number_from last more (bits - 7) bytes)
    else Err Bad

abbrev pub unsigned_from : ℕ → List ℕ → Result (ℕ × List ℕ) LebFault
unsigned_from bits bytes = number_from last_unsigned more_unsigned bits bytes

abbrev pub signed_from : ℕ → List ℕ → Result (ℤ × List ℕ) LebFault
signed_from bits bytes = number_from last_signed more_signed bits bytes

-- the same, from a place on
abbrev pub from_place : {N : Type 0} → Rest → Result (N × List ℕ) LebFault
    → Result (N × Rest) LebFault
from_place before (Ok x) = Ok (x.0, rest (before.place + (length before.bytes - length x.1)) x.1)
from_place before (Err e) = Err e

abbrev pub unsigned_at : ℕ → Rest → Result (ℕ × Rest) LebFault
unsigned_at bits before = from_place before (unsigned_from bits before.bytes)

abbrev pub signed_at : ℕ → Rest → Result (ℤ × Rest) LebFault
signed_at bits before = from_place before (signed_from bits before.bytes)

-- what a call returned, and what it left, is what reading gives; nothing is
-- taken where it gives a fault
abbrev pub ReadsNumber : {N : Type 0} → Result N LebFault → Rest → Rest
    → Result (N × Rest) LebFault → Type 0
ReadsNumber (Ok n) before after read = read ≡ Ok (n, after)
ReadsNumber (Err e) before after read = (read ≡ Err e) × (after ≡ before)
