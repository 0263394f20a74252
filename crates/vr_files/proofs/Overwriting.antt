-- Writing a piece over bytes, part by part.
use Rattle.std.proofs.Common.{inl, inr, ◌≡◌, ℕ, zero, suc, ◌+◌, ◌-◌, ◌≤◌, ◌<◌, min, max, replicate, List, [], ◌∷◌, ◌++◌, length, take, drop, sym, ap, ◌∙◌, arith, append_assoc, length-append}
use Rattle.std.proofs.lemmas.List.{take_all, drop_all, length-take, length-drop, take-append-le, drop-append-le, append-nil, take-append-drop, take-replicate, drop-replicate, length-replicate}
use Rattle.std.proofs.lemmas.Grind.{common_steps}
use Rattle.std.proofs.lemmas.Bool.{cases_lt}
use Rattle.std.proofs.Math.Seq.{drop-append-add, take-append-add}
use Rattle.vr_files.proofs.Chunks.{take-none, drop-none}
use Rattle.vr_files.specs.Bodies.{overwritten, written, resized}

-- an empty piece leaves the bytes
pub overwritten-nothing : (bytes : List ℕ) (at : ℕ) → overwritten bytes at [] ≡ bytes
overwritten-nothing bytes at = grind (arith, common_steps, take-append-drop)

drop_beyond : (p q : List ℕ) (n m : ℕ) → length p ≤ m → n ≡ m - length p → drop m (p ++ q) ≡ drop n q
drop_beyond p q n m h e = let s : m ≡ length p + n = omega arith in ap (λ i. drop i (p ++ q)) s ∙ drop-append-add p q n

take_beyond : (p q : List ℕ) (n m : ℕ) → length p ≤ m → n ≡ m - length p → take m (p ++ q) ≡ p ++ take n q
take_beyond p q n m h e = let s : m ≡ length p + n = omega arith in ap (λ i. take i (p ++ q)) s ∙ take-append-add p q n

-- a piece that ends in the first part
pub overwritten-front : (at : ℕ) (p q piece : List ℕ) → at + length piece ≤ length p
    → overwritten p at piece ++ q ≡ overwritten (p ++ q) at piece
overwritten-front at p q piece h = grind (arith, append_assoc, take-append-le, drop-append-le)

-- a piece that goes on behind the first part
pub overwritten-across : (at k : ℕ) (p q piece : List ℕ) → at ≤ length p → k ≡ length p - at → k ≤ length piece
    → overwritten p at (take k piece) ++ overwritten q 0 (drop k piece) ≡ overwritten (p ++ q) at piece
overwritten-across at k p q piece a b h =
    let joined : take k piece ++ drop k piece ≡ piece = take-append-drop k piece in
    let front : take at (p ++ q) ≡ take at p = take-append-le at p q a in
    let count : length (take k piece) ≡ k = omega (arith, length-take k piece) in
    let none : drop (at + length (take k piece)) p ≡ [] = drop_all _ p (omega arith) in
    let past : drop (at + length piece) (p ++ q) ≡ drop (0 + length (drop k piece)) q = drop_beyond p q _ _ (omega arith) (omega (arith, length-drop k piece)) in
    grind (arith, append_assoc, append-nil)

-- a piece that lies in the middle is written there
pub overwritten-middle : (at from : ℕ) (a b c piece : List ℕ) → length a + from ≡ at → from + length piece ≤ length b
    → a ++ (overwritten b from piece ++ c) ≡ overwritten (a ++ (b ++ c)) at piece
overwritten-middle at from a b c piece e h =
    let front : take at (a ++ (b ++ c)) ≡ a ++ take from b = take_beyond a (b ++ c) from at (omega arith) (omega arith) ∙ ap (λ x. a ++ x) (take-append-le from b c (omega arith)) in
    let past : drop (at + length piece) (a ++ (b ++ c)) ≡ drop (from + length piece) b ++ c =
    drop_beyond a (b ++ c) (from + length piece) (at + length piece) (omega arith) (omega arith) ∙ drop-append-le (from + length piece) b c h in
    grind (arith, append_assoc)

-- the part that lies in the first bytes is written there, and what is left over the bytes after them
pub overwritten-append : (at k : ℕ) (p q piece : List ℕ) → at ≤ length p → k ≡ min (length piece) (length p - at)
    → overwritten p at (take k piece) ++ overwritten q 0 (drop k piece) ≡ overwritten (p ++ q) at piece
overwritten-append at k p q piece a is = elim (cases_lt (length piece) (length p - at)) [
  | inl short ↦
      let front : take k piece ≡ piece = take_all k piece (omega arith) in
      let none : drop k piece ≡ [] = drop_all k piece (omega arith) in
      ap (λ x. overwritten p at x ++ overwritten q 0 (drop k piece)) front
      ∙ ap (λ x. overwritten p at piece ++ overwritten q 0 x) none
      ∙ ap (λ x. overwritten p at piece ++ x) (overwritten-nothing q 0)
      ∙ overwritten-front at p q piece (omega arith)
  | inr long ↦ overwritten-across at k p q piece a (omega arith) (omega arith)
]

-- the front and the rest of two lists together, wherever they are cut
pub take-append : {A : Type 0} (n : ℕ) (a b : List A) → take n (a ++ b) ≡ take n a ++ take (n - length a) b
take-append n [] b = let e : n ≡ n - 0 = omega arith in ap (λ m. take m b) e ∙ sym (ap (λ x. x ++ take (n - 0) b) (take-none n))
take-append zero (x ∷ a) b = let e : 0 ≡ 0 - suc (length a) = omega arith in ap (λ m. take m b) e
take-append (suc n) (x ∷ a) b = let e : n - length a ≡ suc n - suc (length a) = omega arith in ap (λ y. x ∷ y) (take-append n a b ∙ ap (λ m. take n a ++ take m b) e)

pub drop-append : {A : Type 0} (n : ℕ) (a b : List A) → drop n (a ++ b) ≡ drop n a ++ drop (n - length a) b
drop-append n [] b = let e : n ≡ n - 0 = omega arith in ap (λ m. drop m b) e ∙ sym (ap (λ x. x ++ drop (n - 0) b) (drop-none n))
drop-append zero (x ∷ a) b = let e : 0 ≡ 0 - suc (length a) = omega arith in ap (λ m. x ∷ (a ++ drop m b)) e
drop-append (suc n) (x ∷ a) b = let e : n - length a ≡ suc n - suc (length a) = omega arith in drop-append n a b ∙ ap (λ m. drop n a ++ drop m b) e

-- bytes with enough zeros after them are cut to a size
pub take-zeros : (bytes : List ℕ) (size more : ℕ) → size ≤ length bytes + more → take size (bytes ++ replicate more 0) ≡ resized bytes size
take-zeros bytes size more fits = take-append size bytes (replicate more 0) ∙ ap (λ x. take size bytes ++ x) (take-replicate (size - length bytes) more 0 (omega arith))

pub length-resized : (bytes : List ℕ) (size : ℕ) → length (resized bytes size) ≡ size
length-resized bytes size = omega (arith, length-append (take size bytes) (replicate (size - length bytes) 0), length-take size bytes, length-replicate {A = ℕ} (size - length bytes) 0)

-- bytes with zeros after them over which a piece is written are the bytes with the piece written, and zeros
pub overwritten-zeros : (bytes piece : List ℕ) (at more : ℕ) → 0 < length piece → at + length piece ≤ length bytes + more
    → overwritten (bytes ++ replicate more 0) at piece ≡ written bytes at piece ++ replicate (length bytes + more - max (length bytes) (at + length piece)) 0
overwritten-zeros bytes [] at more some fits = absurd (omega arith)
overwritten-zeros bytes (b ∷ piece) at more some fits =
    let whole = b ∷ piece in
    let end = at + length whole in
    let zeros : List ℕ = replicate more 0 in
    let k = length bytes + more - max (length bytes) end in
    let count : more - (end - length bytes) ≡ k = omega arith in
    let past : drop end (bytes ++ zeros) ≡ drop end bytes ++ replicate k 0 =
    drop-append end bytes zeros ∙ ap (λ x. drop end bytes ++ x) (drop-replicate (end - length bytes) more 0 ∙ ap (λ n. replicate n 0) count) in
    ap (λ x. x ++ whole ++ drop end (bytes ++ zeros)) (take-zeros bytes at more (omega arith)) ∙ ap (λ x. resized bytes at ++ whole ++ x) past
    ∙ sym (append_assoc (resized bytes at ++ whole) (drop end bytes) (replicate k 0))

pub length-written : (bytes piece : List ℕ) (at : ℕ) → 0 < length piece → length (written bytes at piece) ≡ max (length bytes) (at + length piece)
length-written bytes [] at some = absurd (omega arith)
length-written bytes (b ∷ piece) at some =
    omega (
      arith,
      length-append (resized bytes at ++ b ∷ piece) (drop (at + length (b ∷ piece)) bytes),
      length-append (resized bytes at) (b ∷ piece),
      length-resized bytes at,
      length-drop (at + length (b ∷ piece)) bytes,
    )
