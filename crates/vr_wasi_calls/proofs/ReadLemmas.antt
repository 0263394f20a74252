-- Bytes that are laid into pieces.
use Rattle.std.proofs.Common.{◌≡◌, ℕ, zero, suc, ◌+◌, ◌<◌, ◌≤◌, ◌==◌, nat_le, min, true, if◌then◌else◌, List, ◌∷◌, length, take, drop, get_or, IsTrue, refl, ap, subst, sym, ◌∙◌, drop-cons, add-one, inl, inr, arith}
use Rattle.std.proofs.lemmas.Bool.{cases_lt}
use Rattle.std.proofs.lemmas.List.{drop_all, take_all}
use Rattle.std.specs.List.{AllPass}
use Rattle.vr_wasi_abi.specs.declared.iovecs.Iovec.{Iovec}
use Rattle.vr_wasm_num.specs.Memory.{Contents, is_within, with_piece}
use Rattle.vr_wasi_calls.proofs.MemoryLemmas.{range_ends}
use Rattle.vr_wasi_calls.specs.Pieces.{AreThere, spread}

-- as many as there are and fit
pub take_min : (k : ℕ) (left : List ℕ) → take (min (length left) k) left ≡ take k left
take_min k left = elim (cases_lt k (length left)) [
  | inl short ↦ ap (λ n. take n left) (omega arith)
  | inr long ↦ take_all (min (length left) k) left (omega arith)
      ∙ sym (take_all k left (omega arith))
]

pub drop_min : (k : ℕ) (left : List ℕ) → drop (min (length left) k) left ≡ drop k left
drop_min k left = elim (cases_lt k (length left)) [
  | inl short ↦ ap (λ n. drop n left) (omega arith)
  | inr long ↦ drop_all (min (length left) k) left (omega arith)
      ∙ sym (drop_all k left (omega arith))
]

-- one piece more
pub spread_step : (m n : Contents) (pieces : List Iovec) (i : ℕ) (d : Iovec) (left : List ℕ)
    (count : ℕ) → i < length pieces → count ≡ min (length left) (get_or pieces i d).length
    → n ≡ with_piece m (get_or pieces i d).pointer (take count left)
    → spread n (drop (i + 1) pieces) (drop count left) ≡ spread m (drop i pieces) left
spread_step m n pieces i d left count lt is laid =
    let piece : Iovec = get_or pieces i d in
    let rest : List Iovec = drop (i + 1) pieces in
    let front : take count left ≡ take piece.length left = ap (λ k. take k left) is
    ∙ take_min piece.length left in
    let back : drop count left ≡ drop piece.length left = ap (λ k. drop k left) is
    ∙ drop_min piece.length left in
    let here : n ≡ with_piece m piece.pointer (take piece.length left) = laid
    ∙ ap (with_piece m piece.pointer) front in
    let split : drop i pieces ≡ piece ∷ rest = rw (add-one, drop-cons pieces i d) refl in
    ap (λ u. spread u rest (drop count left)) here
    ∙ ap (λ bytes. spread (with_piece m piece.pointer (take piece.length left)) rest bytes) back
    ∙ ap (λ ps. spread m ps left) (sym split)

-- no piece is left
pub spread_end : (m : Contents) (pieces : List Iovec) (i : ℕ) (left : List ℕ) → length pieces ≤ i
    → spread m (drop i pieces) left ≡ m
spread_end m pieces i left le = ap (λ ps. spread m ps left) (drop_all i pieces le)

-- ranges of a memory of the same size
pub same_within : (m n : Contents) (at len : ℕ) → length n.bytes ≡ length m.bytes
    → IsTrue (is_within m.bytes at len) → IsTrue (is_within n.bytes at len)
same_within m n at len same is =
    let Within : ℕ → Type 0 = λ size. IsTrue (if len == 0 then true else nat_le (at + len) size) in
    subst Within (sym same) is

-- a part of a range within the memory
pub part_within : (m : Contents) (at len count : ℕ) → IsTrue (is_within m.bytes at len)
    → count ≤ len → IsTrue (is_within m.bytes at count)
part_within m at len zero is le = refl
part_within m at len (suc count) is le =
    let ends : at + len ≤ length m.bytes = range_ends m at len is (omega arith) in
    grind arith

-- pieces are there in a memory of the same size
pub there_in : (m n : Contents) (pieces : List Iovec) → length n.bytes ≡ length m.bytes
    → AreThere m pieces → AreThere n pieces
there_in m n pieces same there =
    let There : ℕ → Type 0 = λ size. AllPass (λ piece. if piece.length == 0 then true else nat_le
    (piece.pointer + piece.length) size) pieces in
    subst There (sym same) there
