-- The two parts of a rotation have no bit in common, so `|` gives their sum.
use Rattle.std.proofs.Common.{◌≡◌, ℕ, suc, zero, ◌+◌, ◌-◌, ◌*◌, ◌/◌, ◌%◌, ◌^◌, ◌<◌, bit_or, subst, ◌∙◌, arith}
use Rattle.std.proofs.Math.Nat.{mod_self, mod-eq_of_lt, mul-mod_left, mul-one, div-eq_of_lt, div-one, add_comm, sub-zero}
use Rattle.std.proofs.lemmas.Nat.{or_shifted, or_comm, shr_below, shl-shr, mod-pow-add}
use Rattle.std.specs.Int.Bits.{or_self}

-- the bits that a shift leaves in the width
shl-mod : (i j k : ℕ) → i * 2 ^ k % 2 ^ (j + k) ≡ i % 2 ^ j * 2 ^ k
shl-mod i j k =
    let low : i * 2 ^ k % 2 ^ k ≡ 0 = mul-mod_left i (2 ^ k) in
    let high : i * 2 ^ k / 2 ^ k ≡ i = shl-shr i k in
    let whole : i * 2 ^ k % 2 ^ (j + k) ≡ (i * 2 ^ k / 2 ^ k % 2 ^ j) * 2 ^ k + i * 2 ^ k % 2 ^ k = mod-pow-add (i * 2 ^ k) j k in
    whole ∙ (rw (low, high) (omega arith))

-- a number of j + k bits, shifted to the left by k and to the right by j
or_shifts : (i j k : ℕ) → i < 2 ^ (k + j) → bit_or (i * 2 ^ k % 2 ^ (j + k)) (i / 2 ^ j) ≡ i * 2 ^ k % 2 ^ (j + k) + i / 2 ^ j
or_shifts i j k within = rw (shl-mod i j k) (or_shifted (i % 2 ^ j) k (i / 2 ^ j) (shr_below i k j within))

pub rotated_left : (n k i : ℕ) → k < n → i < 2 ^ n → bit_or (i * 2 ^ k % 2 ^ n) (i / 2 ^ ((n - k) % n)) ≡ i * 2 ^ k % 2 ^ n + i / 2 ^ (n - k)
rotated_left n zero i less within =
    let whole : i * 2 ^ 0 % 2 ^ n ≡ i = rw (mul-one i) (mod-eq_of_lt within) in
    let nothing : i / 2 ^ n ≡ 0 = div-eq_of_lt within in
    rw (sub-zero n, mod_self n, whole, nothing, div-one i, or_self i) (omega arith)
rotated_left n (suc k) i less within =
    let rest : (n - suc k) % n ≡ n - suc k = mod-eq_of_lt (omega arith) in
    let P : ℕ → Type 0 = λ m. i < 2 ^ m → bit_or (i * 2 ^ suc k % 2 ^ m) (i / 2 ^ (n - suc k)) ≡ i * 2 ^ suc k % 2 ^ m + i / 2 ^ (n - suc k) in
    let sum : P (n - suc k + suc k) = λ h. or_shifts i (n - suc k) (suc k) (rw add_comm h) in
    let width : n - suc k + suc k ≡ n = omega arith in
    rw rest (subst P width sum within)

pub rotated_right : (n k i : ℕ) → k < n → i < 2 ^ n → bit_or (i / 2 ^ k) (i * 2 ^ ((n - k) % n) % 2 ^ n) ≡ i / 2 ^ k + i * 2 ^ (n - k) % 2 ^ n
rotated_right n zero i less within =
    let whole : i * 2 ^ 0 % 2 ^ n ≡ i = rw (mul-one i) (mod-eq_of_lt within) in
    let nothing : i * 2 ^ n % 2 ^ n ≡ 0 = mul-mod_left i (2 ^ n) in
    rw (sub-zero n, mod_self n, whole, nothing, div-one i, or_self i) (omega arith)
rotated_right n (suc k) i less within =
    let rest : (n - suc k) % n ≡ n - suc k = mod-eq_of_lt (omega arith) in
    let P : ℕ → Type 0 = λ m. i < 2 ^ m → bit_or (i * 2 ^ (n - suc k) % 2 ^ m) (i / 2 ^ suc k) ≡ i * 2 ^ (n - suc k) % 2 ^ m + i / 2 ^ suc k in
    let sum : P (suc k + (n - suc k)) = λ h. or_shifts i (suc k) (n - suc k) (rw add_comm h) in
    let width : suc k + (n - suc k) ≡ n = omega arith in
    rw rest (or_comm (i / 2 ^ suc k) (i * 2 ^ (n - suc k) % 2 ^ n) ∙ subst P width sum within ∙ omega arith)
