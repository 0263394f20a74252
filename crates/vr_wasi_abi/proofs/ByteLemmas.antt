-- The bytes of a number, one by one.
use Rattle.std.proofs.Common.{arith, ℕ, ◌%◌, ◌<◌, ◌≡◌}
use Rattle.std.specs.Int.{to_le_bytes, w16, w32, w64}
use Rattle.vr_wasm_num.specs.Memory.{bytes_of}

pub one_byte : (n : ℕ) → n < 256 → n % 256 ≡ n
one_byte n h = omega arith

pub two_bytes : (n : ℕ) → to_le_bytes w16 n ≡ bytes_of 2 n
two_bytes n = search arith

pub four_bytes : (n : ℕ) → to_le_bytes w32 n ≡ bytes_of 4 n
four_bytes n = search arith

pub eight_bytes : (n : ℕ) → to_le_bytes w64 n ≡ bytes_of 8 n
eight_bytes n = search arith
