-- How many bytes there are after a write.
use Rattle.std.proofs.Common.{◌≡◌, ℕ, ◌+◌, ◌<◌, max, List, [], ◌∷◌, length, refl, arith}
use Rattle.vr_files.specs.Bodies.{written}
use Rattle.vr_files.proofs.Overwriting.{length-written}

pub size_of_written : (bytes piece : List ℕ) (at : ℕ) → 0 < length piece → length (written bytes at piece) ≡ max (length bytes) (at + length piece)
size_of_written bytes piece at some = length-written bytes piece at some

pub written_nothing : (bytes piece : List ℕ) (at : ℕ) → length piece ≡ 0 → written bytes at piece ≡ bytes
written_nothing bytes [] at none = refl
written_nothing bytes (b ∷ piece) at none = absurd (omega arith)
