-- The bytes between two places of a buffer, after a write past the second.
use Rattle.std.proofs.Common.{◌≡◌, ℕ, ◌+◌, ◌-◌, ◌≤◌, List, ◌++◌, length, take, drop, slice_range, refl, sym, ap, ◌∙◌, arith}
use Rattle.std.proofs.lemmas.List.{append-nil, take_at, drop_at, take-append-le, drop-append-le, drop-take, drop-drop, length-take-le, length-drop}
use Rattle.std.proofs.Math.Seq.{take-append-add}
use lib.Seq.{take-add}

-- the first n written bytes follow those that were there
pub grown : (xs ys after : List ℕ) (start end n : ℕ) → start ≤ end → end ≤ length xs → n ≤ length ys
    → slice_range (take end xs ++ (ys ++ after)) start (end + n) ≡ slice_range xs start end ++ take n ys
grown xs ys after start end n ordered within fits =
    let front = length-take-le end xs within in
    let held = drop start (take end xs) in
    let len : length held ≡ end - start = omega (arith, length-drop start (take end xs)) in
    let sum : end + n - start ≡ (end - start) + n = omega arith in
    let parts : end ≡ start + (end - start) = omega arith in
    let same : held ≡ take (end - start) (drop start xs) = ap (λ j. drop start (take j xs)) parts ∙ drop-take start (end - start) xs in
    ap (take (end + n - start)) (drop-append-le start (take end xs) (ys ++ after) (omega arith))
    ∙ ap (λ j. take j (held ++ (ys ++ after))) sum ∙ take-add (end - start) n (held ++ (ys ++ after))
    ∙ (rw (take_at held (ys ++ after) _ len, drop_at held (ys ++ after) _ len, take-append-le n ys after fits, same) refl)

-- the bytes that were there stay
pub kept : (xs ys after : List ℕ) (start end : ℕ) → start ≤ end → end ≤ length xs
    → slice_range (take end xs ++ (ys ++ after)) start end ≡ slice_range xs start end
kept xs ys after start end ordered within =
    let none : end ≡ end + 0 = omega arith in
    ap (slice_range (take end xs ++ (ys ++ after)) start) none ∙ grown xs ys after start end 0 ordered within (omega arith) ∙ append-nil _

-- a step of the start
pub consumed : (xs : List ℕ) (start end count : ℕ) → start + count ≤ end
    → slice_range xs (start + count) end ≡ drop count (slice_range xs start end)
consumed xs start end count inside =
    let parts : end - start ≡ count + (end - (start + count)) = omega arith in
    sym (ap (λ j. drop count (take j (drop start xs))) parts ∙ drop-take count _ (drop start xs)
    ∙ ap (take (end - (start + count))) (drop-drop count start xs))

-- a prefix that grows by the first n written bytes
pub front_more : (xs ys after : List ℕ) (at n : ℕ) → at ≤ length xs → n ≤ length ys
    → take (at + n) (take at xs ++ (ys ++ after)) ≡ take at xs ++ take n ys
front_more xs ys after at n within fits =
    ap (λ (k : ℕ). take (k + n) (take at xs ++ (ys ++ after))) (sym (length-take-le at xs within))
    ∙ take-append-add (take at xs) (ys ++ after) n
    ∙ ap (λ (t : List ℕ). take at xs ++ t) (take-append-le n ys after fits)
