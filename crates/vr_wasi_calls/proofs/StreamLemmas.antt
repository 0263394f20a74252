-- How many bytes pieces have.
use Rattle.std.proofs.Common.{◌≡◌, ℕ, ◌+◌, true, List, [], ◌∷◌, length, refl, ap, sym, ◌∙◌, arith}
use Rattle.std.proofs.lemmas.List.{length-take, length-drop, length-append, append-nil}
use Rattle.std.proofs.lemmas.List.Elements.{All-head, All-tail}
use Rattle.std.proofs.lemmas.List.Sums.{sum_by-cons}
use Rattle.vr_wasi_abi.specs.Iovecs.{has_buffer}
use Rattle.vr_wasi_abi.specs.declared.iovecs.Iovec.{Iovec}
use Rattle.vr_wasm_num.specs.Memory.{Contents, is_within, part}
use Rattle.vr_wasi_calls.specs.Pieces.{AreThere, bytes_in, size_of}

-- a range within the memory has as many bytes as it says
pub part_sized : (bytes : List ℕ) (at len : ℕ) → is_within bytes at len ≡ true
    → length (part bytes at len) ≡ len
part_sized bytes at len is = simp (length-take, length-drop) (grind (arith, is))

-- pieces within the memory have as many bytes as they say
pub bytes_sized : (m : Contents) (pieces : List Iovec) → AreThere m pieces
    → length (bytes_in m pieces) ≡ size_of pieces
bytes_sized m [] there = refl
bytes_sized m (piece ∷ pieces) there =
    let first = part_sized m.bytes piece.pointer piece.length (All-head
    (λ p. has_buffer m.bytes p ≡ true) piece pieces there) in
    let rest = bytes_sized m pieces (All-tail
    (λ p. has_buffer m.bytes p ≡ true) piece pieces there) in
    let head : List ℕ = part m.bytes piece.pointer piece.length in
    length-append head (bytes_in m pieces) ∙ ap (λ n. n + length (bytes_in m pieces)) first
    ∙ ap (λ n. piece.length + n) rest
    ∙ sym (sum_by-cons (λ p. p.length) piece pieces)

-- the bytes of one piece alone
pub one_piece : (m : Contents) (piece : Iovec)
    → bytes_in m (piece ∷ []) ≡ part m.bytes piece.pointer piece.length
one_piece m piece = simp append-nil
