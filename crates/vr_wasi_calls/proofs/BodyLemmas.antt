-- Bodies that are written or sized within the most bytes of a file are a file's.
use Rattle.std.proofs.Common.{◌≡◌, ℕ, ◌+◌, ◌≤◌, List, [], ◌∷◌, length, Ok, arith}
use Rattle.std.proofs.lemmas.List.{length-take, length-drop, length-append, length-replicate}
use Rattle.vr_files.specs.Bodies.{resized, sized, written}
use Rattle.vr_files.specs.declared.pages.TheConstants.{MOST_BYTES}

-- bytes that are not too many are a file's
pub small_sized : (bytes : List ℕ) → length bytes ≤ MOST_BYTES → sized bytes ≡ Ok bytes
small_sized bytes few = grind arith

-- what is written within them
pub written_sized : (bytes piece : List ℕ) (at : ℕ) → length bytes ≤ MOST_BYTES
    → at + length piece ≤ MOST_BYTES → sized (written bytes at piece) ≡ Ok (written bytes at piece)
written_sized bytes [] at few room = small_sized bytes few
written_sized bytes (b ∷ piece) at few room =
    let more : List ℕ = b ∷ piece in
    let size : length (written bytes at more) ≤ MOST_BYTES =
    simp (length-append, length-take, length-drop, length-replicate) (omega arith) in
    small_sized (written bytes at more) size

-- what is sized to no more
pub resized_sized : (bytes : List ℕ) (size : ℕ) → size ≤ MOST_BYTES
    → sized (resized bytes size) ≡ Ok (resized bytes size)
resized_sized bytes size few =
    let small : length (resized bytes size) ≤ MOST_BYTES =
    simp (length-append, length-take, length-replicate) (omega arith) in
    small_sized (resized bytes size) small
