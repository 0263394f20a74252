-- Runs of bytes out of pages, and runs that are laid one after the other.
use Rattle.std.proofs.Common.{◌≡◌, ℕ, ◌+◌, ◌-◌, ◌*◌, ◌<◌, ◌≤◌, min, List, [], ◌++◌, length, take, drop, ap, sym, ◌∙◌, append_assoc, length-append, arith}
use Rattle.std.proofs.lemmas.List.{append-nil, drop-drop, drop-take, drop_min, length-drop, length-take, length-take-le, take-append-drop, take-take, take_at, take_min}
use Rattle.std.proofs.Math.Seq.{drop-append-add, take-add}
use Rattle.vr_wasm_num.specs.Memory.{Contents, with_piece}

-- ---- out of pages

-- a part of a page is a part of the bytes
from_page : (n k r : ℕ) (bytes : List ℕ) → r ≤ n
    → drop r (take n (drop (n * k) bytes)) ≡ take (n - r) (drop (n * k + r) bytes)
from_page n k r bytes le =
    let whole : n ≡ r + (n - r) = omega arith in
    ap (λ m. drop r (take m (drop (n * k) bytes))) whole ∙ drop-take r (n - r) (drop (n * k) bytes)
    ∙ ap (take (n - r)) (drop-drop r (n * k) bytes)

-- as many as were taken
taken : (n : ℕ) (bytes : List ℕ) → take n bytes ≡ take (length (take n bytes)) bytes
taken n bytes = sym (ap (λ m. take m bytes) (length-take n bytes) ∙ take_min n bytes)

-- what is left of a page from a place on
pub run_is : (n k r place : ℕ) (bytes page run : List ℕ) → r ≤ n → n * k + r ≡ place
    → page ≡ take n (drop (n * k) bytes) → run ≡ drop (min r (length page)) page
    → run ≡ take (length run) (drop place bytes)
run_is n k r place bytes page run le here is left =
    let shown : run ≡ take (n - r) (drop place bytes) =
    left ∙ drop_min r page ∙ ap (drop r) is ∙ from_page n k r bytes le
    ∙ ap (λ p. take (n - r) (drop p bytes)) here in
    shown ∙ taken (n - r) (drop place bytes)
    ∙ ap (λ xs. take (length xs) (drop place bytes)) (sym shown)

-- is something, where the place is before the end
pub run_some : (n k r place : ℕ) (bytes page run : List ℕ) → r < n → n * k + r ≡ place
    → page ≡ take n (drop (n * k) bytes) → run ≡ drop (min r (length page)) page
    → place < length bytes → 0 < length run
run_some n k r place bytes page run lt here is left before =
    let sized : length page ≡ min n (length bytes - n * k) = ap length is
    ∙ length-take n (drop (n * k) bytes) ∙ ap (min n) (length-drop (n * k) bytes) in
    let run_sized : length run ≡ length page - min r (length page) = ap length left
    ∙ length-drop (min r (length page)) page in
    omega arith

-- the beginning of a run
pub part_of_run : (k from done : ℕ) (bytes run : List ℕ)
    → run ≡ take (length run) (drop (from + done) bytes)
    → take k run ≡ take (length (take k run)) (drop done (drop from bytes))
part_of_run k from done bytes run is =
    let rest : List ℕ = drop (from + done) bytes in
    let j : ℕ = min k (length run) in
    let few : j ≤ length run = omega arith in
    sym (take_min k run) ∙ ap (take j) is ∙ take-take j (length run) rest few
    ∙ ap (λ n. take n rest) (sym (length-take k run))
    ∙ ap (take (length (take k run))) (sym (drop-drop done from bytes))

-- ---- one after the other

no_bytes : (bs : List ℕ) (at : ℕ) → take at bs ++ [] ++ drop (at + 0) bs ≡ bs
no_bytes bs at =
    let none : at + 0 ≡ at = omega arith in
    ap (λ n. take at bs ++ [] ++ drop n bs) none
    ∙ ap (λ front. front ++ drop at bs) (append-nil (take at bs)) ∙ take-append-drop at bs

-- to write nothing changes nothing
pub nothing_laid : (m : Contents) (at : ℕ) → with_piece m at [] ≡ m
nothing_laid m at = ap (λ bytes. record m { bytes = bytes }) (no_bytes m.bytes at)

join_bytes : (bs : List ℕ) (at : ℕ) (f s : List ℕ) → at + length f ≤ length bs
    → take (at + length f) (take at bs ++ f ++ drop (at + length f) bs) ++ s ++ drop
    (at + length f + length s) (take at bs ++ f ++ drop (at + length f) bs)
    ≡ take at bs ++ (f ++ s) ++ drop (at + length (f ++ s)) bs
join_bytes bs at f s room =
    let front : List ℕ = take at bs ++ f in
    let rest : List ℕ = drop (at + length f) bs in
    let sized : length front ≡ at + length f = length-append (take at bs) f
    ∙ ap (λ n. n + length f) (length-take-le at bs (omega arith)) in
    let before : take (at + length f) (front ++ rest) ≡ front = take_at front rest
    (at + length f) sized in
    let behind : drop (at + length f + length s) (front ++ rest) ≡ drop
    (at + length f + length s) bs =
    ap (λ n. drop (n + length s) (front ++ rest)) (sym sized)
    ∙ drop-append-add front rest (length s) ∙ drop-drop (length s) (at + length f) bs in
    let far : at + length f + length s ≡ at + length (f ++ s) = omega (arith, length-append f s) in
    ap (λ xs. xs ++ s ++ drop (at + length f + length s) (front ++ rest)) before
    ∙ ap (λ ys. front ++ s ++ ys) (behind ∙ ap (λ n. drop n bs) far)
    ∙ ap (λ xs. xs ++ drop (at + length (f ++ s)) bs) (append_assoc (take at bs) f s)

-- a run behind those that were laid
pub laid_more : (m n : Contents) (at d : ℕ) (left run : List ℕ) → d ≤ length left
    → at + d ≤ length m.bytes → n ≡ with_piece m at (take d left)
    → run ≡ take (length run) (drop d left)
    → with_piece n (at + d) run ≡ with_piece m at (take (d + length run) left)
laid_more m n at d left run few room is there =
    let first : List ℕ = take d left in
    let sized : length first ≡ d = length-take-le d left few in
    let whole : take (d + length run) left ≡ first ++ run = take-add d (length run) left
    ∙ ap (λ p. first ++ p) (sym there) in
    let joined : with_piece (with_piece m at first) (at + length first) run ≡ with_piece m at
    (first ++ run) =
    ap (λ bytes. record m { bytes = bytes }) (join_bytes m.bytes at first run (omega arith)) in
    ap (λ x. with_piece x (at + d) run) is
    ∙ ap (λ k. with_piece (with_piece m at first) (at + k) run) (sym sized) ∙ joined
    ∙ ap (with_piece m at) (sym whole)
