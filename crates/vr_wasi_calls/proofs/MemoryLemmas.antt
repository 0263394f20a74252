-- Writing within the memory keeps its size.
use Rattle.std.proofs.Common.{◌≡◌, ℕ, zero, suc, ◌+◌, ◌<◌, ◌≤◌, true, nat_le, ◌==◌, if◌then◌else◌, List, [], ◌∷◌, length, IsTrue, subst, sym, arith}
use Rattle.std.proofs.lemmas.List.{length-take, length-drop, length-append}
use Rattle.vr_wasm_num.specs.Memory.{Contents, is_within, with_piece, bytes_of}

-- a range within the memory ends within it, or is empty
pub range_ends : (m : Contents) (at len : ℕ) → IsTrue (is_within m.bytes at len) → 0 < len
    → at + len ≤ length m.bytes
range_ends m at zero is more = absurd (omega arith)
range_ends m at (suc len) is more = grind arith

-- a piece within the memory keeps the size
pub piece_keeps_size : (m : Contents) (at : ℕ) (piece : List ℕ)
    → IsTrue (is_within m.bytes at (length piece))
    → length (with_piece m at piece).bytes ≡ length m.bytes
piece_keeps_size m at [] is = simp (length-append, length-take, length-drop) (omega arith)
piece_keeps_size m at (b ∷ piece) is =
    let ends : at + length (b ∷ piece) ≤ length m.bytes = range_ends m at (length (b ∷ piece)) is
    (omega arith) in
    simp (length-append, length-take, length-drop) (omega arith)

-- so ranges that were within it still are
pub number_keeps_range : (m : Contents) (at number other len : ℕ) → IsTrue (is_within m.bytes at 4)
    → IsTrue (is_within m.bytes other len)
    → IsTrue (is_within (with_piece m at (bytes_of 4 number)).bytes other len)
number_keeps_range m at number other len is within =
    let same : length m.bytes ≡ length (with_piece m at (bytes_of 4 number)).bytes = sym
    (piece_keeps_size m at (bytes_of 4 number) is) in
    let Within : ℕ → Type 0 = λ size. IsTrue (if len == 0 then true else nat_le
    (other + len) size) in
    subst Within same within
