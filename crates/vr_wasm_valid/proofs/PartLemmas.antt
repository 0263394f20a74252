-- The imported ones, which come first in an index space.
use Rattle.std.proofs.Common.{◌≡◌, ℕ, ◌+◌, ◌<◌, ◌≤◌, List, [], ◌∷◌, ◌++◌, Option, None, Some, length, take, subst, sym, ap, ◌∙◌, arith}
use Rattle.std.specs.Prelude.{IfSome}
use Rattle.std.specs.List.{cons_option, filter_map}
use Rattle.std.proofs.Math.Seq.{take-append_seam}
use Rattle.vr_wasm_valid.specs.Answer.{FindsUnfit}

-- they are the first of all
pub imported_first : {X : Type 0} {imported all : List X} {n : ℕ} (own : List X)
    → all ≡ imported ++ own → n ≡ length imported
    → take n all ≡ imported
imported_first {X} {imported} {n = n} own e counted =
    let P : ℕ → Type 0 = λ k. take k (imported ++ own) ≡ imported in
    ap (λ (x : List X). take n x) e ∙ subst P (sym counted) (take-append_seam imported own)

longer : {Y : Type 0} (o : Option Y) (ys : List Y) (n : ℕ) → length ys ≤ n
    → length (cons_option o ys) ≤ n + 1
longer None ys n within = omega arith
longer (Some y) ys n within = omega arith

-- there are at most as many of one kind as imports
pub length-filter_map : {X Y : Type 0} (h : X → Option Y) (xs : List X)
    → length (filter_map h xs) ≤ length xs
length-filter_map h [] = omega arith
length-filter_map h (x ∷ xs) =
    omega (arith, longer (h x) (filter_map h xs) (length xs) (length-filter_map h xs))

-- the index of what is found, where all indices are below this
pub index_below : {X : Type 0} {P : X → Type 0} {xs : List X} (first most : ℕ) (found : Option ℕ)
    → FindsUnfit P xs found
    → first + length xs ≤ most → IfSome found (λ place. first + place < most)
index_below first most None w within = tt
index_below first most (Some place) w within = omega (arith, w.some.within)
