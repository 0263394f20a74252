-- Hashes as they are written.
use Rattle.std.specs.Prelude.{ℕ, List}
use Rattle.hex.specs.Hex.{encode_lower}
use Rattle.sha2.specs.Sha256.{sha256}

-- the SHA-256 (FIPS 180-4) of bytes in 64 lower-case hex digits
abbrev pub digits_of : List ℕ → List ℕ
digits_of bytes = encode_lower (sha256 bytes)
