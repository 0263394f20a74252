-- Each operation on integers gives a number of its type, or traps; and each opcode of the table has its operation.
use Rattle.std.proofs.Common.{ℕ, zero, suc, ◌+◌, ◌-◌, ◌*◌, ◌/◌, ◌%◌, ◌^◌, ◌≡◌, ◌≤◌, ◌<◌, ℤ, pos, negsuc, List, [], ◌∷◌, length, refl, sym, subst, arith, Option, Some, None, Result, Ok, Err, slice_get, get_or, Bool, true, false, if◌then◌else◌, nat_lt, ◌==◌, bit_and, count_ones, int_lt, int_div, int_rem}
use Rattle.std.proofs.lemmas.Bool.{ltb-true, ltb-false, eqb-true, le-ltb}
use Rattle.std.proofs.lemmas.Nat.{pow_pos, mod_below, leading_le, trailing_le, ones-le, and_le_l, or_lt, xor_lt, shr_le}
use Rattle.std.proofs.lemmas.Option.{slice_get-get_or}
use Rattle.std.proofs.Math.Nat.{mod-le, div-le_self, pow-suc}
use Rattle.std.specs.Int.Count.{count_leading_zeros, count_trailing_zeros}
use Rattle.std.specs.Int.Signed.{shr_z}
use Rattle.vr_wasm_ast.specs.declared.opcodes.NumericFamily.{NumericFamily}
use Rattle.vr_wasm_ast.specs.declared.opcodes.NumericFamily.TheVariants as family
use Rattle.vr_wasm_ast.specs.declared.tree.ValType.{ValType}
use Rattle.vr_wasm_ast.specs.declared.tree.ValType.TheVariants.{I32, I64}
use Rattle.vr_wasm_ast.specs.Opcodes.{is_between, numeric_of}
use Rattle.vr_wasm_num.specs.declared.trap.Trap.{Trap}
use Rattle.vr_wasm_num.specs.declared.trap.TheConstants.{DIVIDE_BY_ZERO, INTEGER_OVERFLOW}
use Rattle.vr_wasm_num.specs.Integers.{Unary, clz, ctz, popcnt, extend_s, Binary, add, sub, mul, div_s, div_u, rem_s, rem_u, and, or, xor, shl, shr_s, shr_u, rotl, rotr, Compare, Conversion, wrap_i64, extend_i32_s, extend_i32_u, signed, unsigned, trap, unary, divided, fitting, binary, bit, converted}
use Rattle.vr_wasm_num.specs.Opcodes.{named, either, comparisons, counts, arithmetic, conversion_of}
use Rattle.vr_wasm_num.proofs.RotationLemmas.{rotated_left, rotated_right}
use Rattle.vr_wasm_steps.specs.Effects.{unary_of, binary_of, compare_of}
use Rattle.vr_wasm_steps.specs.Store.{width}
use Rattle.vr_wasm_progress.proofs.CaseLemmas.{either_way}

-- ---- widths

below_pow : (n : ℕ) → n < 2 ^ n
below_pow zero = omega arith
below_pow (suc n) = omega (arith, below_pow n, pow-suc 2 n)

pub below_width : (n k : ℕ) → k ≤ n → k < 2 ^ n
below_width n k within = let more : n < 2 ^ n = below_pow n in omega arith

mod_width : (n i : ℕ) → i % 2 ^ n < 2 ^ n
mod_width n i = mod_below i (2 ^ n) (pow_pos n)

pub unsigned_width : (n : ℕ) (z : ℤ) → unsigned n z < 2 ^ n
unsigned_width n (pos i) = mod_width n i
unsigned_width n (negsuc i) = let more : 0 < 2 ^ n = pow_pos n in omega arith

-- ---- operations

pub unary_width : (f : Unary) (n i : ℕ) → i < 2 ^ n → unary f n i < 2 ^ n
unary_width clz n i within = below_width n (count_leading_zeros n i) (leading_le n i)
unary_width ctz n i within = below_width n (count_trailing_zeros n i) (trailing_le n i)
unary_width popcnt n i within = below_width n (count_ones i) (ones-le n i within)
unary_width (extend_s m) n i within = unsigned_width n (signed m (i % 2 ^ m))

-- a number of so many bits, or a trap
abbrev pub IsWithin : ℕ → Result ℕ Trap → Type 0
IsWithin n (Ok v) = v < 2 ^ n
IsWithin n (Err trap) = Unit {0}

divided_width : (n j : ℕ) (r : Result ℕ Trap) → IsWithin n r → IsWithin n (divided j r)
divided_width n j r within = either_way (IsWithin n) (j == 0) (trap DIVIDE_BY_ZERO) r tt within

fitting_width : (n : ℕ) (z : ℤ) → IsWithin n (fitting n z)
fitting_width n z =
    either_way (IsWithin n) (int_lt z (pos (2 ^ (n - 1)))) (Ok (unsigned n z)) (trap INTEGER_OVERFLOW)
    (unsigned_width n z) tt

rotl_width : (n k i : ℕ) → k < n → i < 2 ^ n → i * 2 ^ k % 2 ^ n + i / 2 ^ (n - k) < 2 ^ n
rotl_width n k i less within =
    let low : i / 2 ^ ((n - k) % n) ≤ i = shr_le i ((n - k) % n) in
    subst (λ x. x < 2 ^ n) (rotated_left n k i less within)
    (or_lt n (i * 2 ^ k % 2 ^ n) (i / 2 ^ ((n - k) % n)) (mod_width n (i * 2 ^ k)) (omega arith))

rotr_width : (n k i : ℕ) → k < n → i < 2 ^ n → i / 2 ^ k + i * 2 ^ (n - k) % 2 ^ n < 2 ^ n
rotr_width n k i less within =
    let low : i / 2 ^ k ≤ i = shr_le i k in
    subst (λ x. x < 2 ^ n) (rotated_right n k i less within)
    (or_lt n (i / 2 ^ k) (i * 2 ^ ((n - k) % n) % 2 ^ n) (omega arith) (mod_width n (i * 2 ^ ((n - k) % n))))

pub binary_width : (f : Binary) (n i j : ℕ) → 0 < n → i < 2 ^ n → j < 2 ^ n → IsWithin n (binary f n i j)
binary_width add n i j some fi fj = mod_width n (i + j)
binary_width sub n i j some fi fj = mod_width n (2 ^ n + i - j)
binary_width mul n i j some fi fj = mod_width n (i * j)
binary_width div_s n i j some fi fj =
    divided_width n j _ (fitting_width n (int_div (signed n i) (signed n j)))
binary_width div_u n i j some fi fj =
    let less : i / j ≤ i = div-le_self i j in
    let within : i / j < 2 ^ n = omega arith in divided_width n j (Ok (i / j)) within
binary_width rem_s n i j some fi fj =
    divided_width n j (Ok (unsigned n (int_rem (signed n i) (signed n j))))
    (unsigned_width n (int_rem (signed n i) (signed n j)))
binary_width rem_u n i j some fi fj =
    let less : i % j ≤ i = mod-le i j in
    let within : i % j < 2 ^ n = omega arith in divided_width n j (Ok (i % j)) within
binary_width and n i j some fi fj = let less : bit_and i j ≤ i = and_le_l i j in omega arith
binary_width or n i j some fi fj = or_lt n i j fi fj
binary_width xor n i j some fi fj = xor_lt n i j fi fj
binary_width shl n i j some fi fj = mod_width n (i * 2 ^ (j % n))
binary_width shr_s n i j some fi fj = unsigned_width n (shr_z (signed n i) (2 ^ (j % n)))
binary_width shr_u n i j some fi fj = let less : i / 2 ^ (j % n) ≤ i = shr_le i (j % n) in omega arith
binary_width rotl n i j some fi fj = rotl_width n (j % n) i (mod_below j n some) fi
binary_width rotr n i j some fi fj = rotr_width n (j % n) i (mod_below j n some) fi

pub bit_width : (b : Bool) → bit b < 2 ^ 32
bit_width true = omega arith
bit_width false = omega arith

converted_width : (f : Conversion) (i : ℕ) → converted f i < 2 ^ 64
converted_width wrap_i64 i = let less : i % 2 ^ 32 < 2 ^ 32 = mod_width 32 i in omega arith
converted_width extend_i32_s i = unsigned_width 64 (signed 32 (i % 2 ^ 32))
converted_width extend_i32_u i = let less : i % 2 ^ 32 < 2 ^ 32 = mod_width 32 i in omega arith

-- ---- opcodes

-- the opcode has an operation of the family
abbrev pub HasOperation : ℕ → NumericFamily → Type 0
HasOperation op (family.Unary t) = (f : Unary) × (unary_of t op ≡ Some f)
HasOperation op (family.Binary t) = (f : Binary) × (binary_of t op ≡ Some f)
HasOperation op (family.Test t) = (f : Compare) × (compare_of t op ≡ Some f)
HasOperation op (family.Comparison t) = (f : Compare) × (compare_of t op ≡ Some f)
HasOperation op (family.Conversion from to) =
    (f : Conversion) × (conversion_of op ≡ Some f) × ((i : ℕ) → converted f i < 2 ^ width to)

-- one more test of a chain of tests
pub chain : {A : Type 0} (P : A → Type 0) (b : Bool) (x y : A) (others : Option A)
    → (if b then Some x else others) ≡ Some y → (b ≡ true → P x) → (others ≡ Some y → P y) → P y
chain P true x y others e here later = let same : x ≡ y = cc e in subst P same (here refl)
chain P false x y others e here later = later e

between : (first last op : ℕ) → is_between first last op ≡ true → (first ≤ op) × (op < suc last)
between first last op e = between_by (nat_lt op first) (nat_lt op (suc last)) refl refl e where
  between_by : (below within : Bool) → nat_lt op first ≡ below → nat_lt op (suc last) ≡ within
      → (if below then false else within) ≡ true → (first ≤ op) × (op < suc last)
  between_by true within p q r = let never : ⊥ = cc r in absurd never
  between_by false true p q r = (ltb-false op first p, ltb-true op (suc last) q)
  between_by false false p q r = let never : ⊥ = cc r in absurd never

some_of : {A : Type 0} (xs : List A) (i : ℕ) → i < length xs → (x : A) × (slice_get xs i ≡ Some x)
some_of [] i within = absurd (omega (arith, within))
some_of (x ∷ xs) i within = (get_or (x ∷ xs) i x, slice_get-get_or (x ∷ xs) i x within)

-- an opcode of a list that begins with this one
named_there : {A : Type 0} (first op : ℕ) (xs : List A) → first ≤ op → op < first + length xs
    → (x : A) × (named first xs op ≡ Some x)
named_there {A} first op xs from to =
    let there : (x : A) × (slice_get xs (op - first) ≡ Some x) = some_of xs (op - first) (omega (arith, from, to)) in
    let P : Bool → Type 0 = λ b. (if b then None else slice_get xs (op - first)) ≡ Some there.0 in
    (there.0, subst P (sym (le-ltb op first from)) there.1)

either_first : {A : Type 0} (o p : Option A) → ((x : A) × (o ≡ Some x)) → (x : A) × (either o p ≡ Some x)
either_first o p there = (there.0, subst (λ q. either q p ≡ Some there.0) (sym there.1) refl)

either_second : {A : Type 0} (o p : Option A) → ((x : A) × (p ≡ Some x)) → (x : A) × (either o p ≡ Some x)
either_second None p there = there
either_second (Some y) p there = (y, refl)

equal : (op n : ℕ) → (op == n) ≡ true → op ≡ n
equal op n e = eqb-true op n e

converts : (op n : ℕ) (from to : ValType) → op ≡ n → HasOperation n (family.Conversion from to)
    → HasOperation op (family.Conversion from to)
converts op n from to e there = subst (λ x. HasOperation x (family.Conversion from to)) (sym e) there

-- each opcode that stands for an instruction on integers has its operation
pub has_operation : (op : ℕ) (f : NumericFamily) → numeric_of op ≡ Some f → HasOperation op f
has_operation op f e =
    let P : NumericFamily → Type 0 = HasOperation op in
    chain P (op == 0x45) (family.Test I32) f _ e
    (λ h. let n : op ≡ 0x45 = equal op 0x45 h in named_there 0x45 op comparisons (omega arith) (omega arith))
    (λ e. chain P (is_between 0x46 0x4f op) (family.Comparison I32) f _ e
    (λ h. let n = between 0x46 0x4f op h in named_there 0x45 op comparisons (omega arith) (omega arith))
    (λ e. chain P (op == 0x50) (family.Test I64) f _ e
    (λ h. let n : op ≡ 0x50 = equal op 0x50 h in named_there 0x50 op comparisons (omega arith) (omega arith))
    (λ e. chain P (is_between 0x51 0x5a op) (family.Comparison I64) f _ e
    (λ h. let n = between 0x51 0x5a op h in named_there 0x50 op comparisons (omega arith) (omega arith))
    (λ e. chain P (is_between 0x67 0x69 op) (family.Unary I32) f _ e
    (λ h. let n = between 0x67 0x69 op h in
    either_first _ _ (named_there 0x67 op counts (omega arith) (omega arith)))
    (λ e. chain P (is_between 0x6a 0x78 op) (family.Binary I32) f _ e
    (λ h. let n = between 0x6a 0x78 op h in named_there 0x6a op arithmetic (omega arith) (omega arith))
    (λ e. chain P (is_between 0x79 0x7b op) (family.Unary I64) f _ e
    (λ h. let n = between 0x79 0x7b op h in
    either_first _ _ (named_there 0x79 op counts (omega arith) (omega arith)))
    (λ e. chain P (is_between 0x7c 0x8a op) (family.Binary I64) f _ e
    (λ h. let n = between 0x7c 0x8a op h in named_there 0x7c op arithmetic (omega arith) (omega arith))
    (λ e. chain P (op == 0xa7) (family.Conversion I64 I32) f _ e
    (λ h. converts op 0xa7 I64 I32 (equal op 0xa7 h) (wrap_i64, refl, mod_width 32))
    (λ e. chain P (is_between 0xac 0xad op) (family.Conversion I32 I64) f _ e
    (λ h. let n = between 0xac 0xad op h in
    let there = either_second (named 0xa7 (wrap_i64 ∷ []) op) _ (named_there 0xac op (extend_i32_s ∷ extend_i32_u ∷ []) (omega arith) (omega arith)) in
    (there.0, there.1, converted_width there.0))
    (λ e. chain P (is_between 0xc0 0xc1 op) (family.Unary I32) f _ e
    (λ h. let n = between 0xc0 0xc1 op h in
    either_second (named 0x67 counts op) _ (named_there 0xc0 op (extend_s 8 ∷ extend_s 16 ∷ []) (omega arith) (omega arith)))
    (λ e. chain P (is_between 0xc2 0xc4 op) (family.Unary I64) f _ e
    (λ h. let n = between 0xc2 0xc4 op h in
    either_second (named 0x79 counts op) _ (named_there 0xc2 op (extend_s 8 ∷ extend_s 16 ∷ extend_s 32 ∷ []) (omega arith) (omega arith)))
    (λ e. let never : ⊥ = cc e in absurd never))))))))))))
