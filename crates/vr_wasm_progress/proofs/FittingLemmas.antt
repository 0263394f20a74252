-- Values that fit types.
use Rattle.std.proofs.Common.{ℕ, zero, suc, ◌≡◌, ◌≤◌, List, [], ◌∷◌, ◌++◌, length, take, drop, reverse, replicate, refl, ap, subst, arith, Some, slice_get, slice_set, ◌^◌, false, true}
use Rattle.std.proofs.lemmas.Bool.{lt-ltb, ltb-true}
use Rattle.std.proofs.lemmas.List.{reverse-reverse}
use mathlib.Core.List.{reverse_aux}
use Rattle.vr_wasm_ast.specs.declared.tree.ValType.{ValType}
use Rattle.vr_wasm_ast.specs.declared.tree.ValType.TheVariants.{I32, I64}
use Rattle.vr_wasm_steps.specs.Store.{are_of, is_of, width}
use Rattle.vr_wasm_progress.specs.Typed.{Has, Fits}
use Rattle.vr_wasm_progress.proofs.CaseLemmas.{both_true, surely}

pub fits_along : (ts us : List ValType) (vs : List ℕ) → ts ≡ us → Fits ts vs → Fits us vs
fits_along ts us vs e f = subst (λ (x : List ValType). Fits x vs) e f

pub fits_length : (ts : List ValType) (vs : List ℕ) → Fits ts vs → length ts ≡ length vs
fits_length [] [] f = refl
fits_length [] (v ∷ vs) f = absurd f
fits_length (t ∷ ts) [] f = absurd f
fits_length (t ∷ ts) (v ∷ vs) f = ap suc (fits_length ts vs f.1)

pub fits_append : (ts us : List ValType) (vs ws : List ℕ) → Fits ts vs → Fits us ws → Fits (ts ++ us) (vs ++ ws)
fits_append [] us [] ws f g = g
fits_append [] us (v ∷ vs) ws f g = absurd f
fits_append (t ∷ ts) us [] ws f g = absurd f
fits_append (t ∷ ts) us (v ∷ vs) ws f g = (f.0, fits_append ts us vs ws f.1 g)

fits_first : (ts us : List ValType) (vs : List ℕ) → Fits (ts ++ us) vs → Fits ts (take (length ts) vs)
fits_first [] us vs f = tt
fits_first (t ∷ ts) us [] f = absurd f
fits_first (t ∷ ts) us (v ∷ vs) f = (f.0, fits_first ts us vs f.1)

fits_rest : (ts us : List ValType) (vs : List ℕ) → Fits (ts ++ us) vs → Fits us (drop (length ts) vs)
fits_rest [] us vs f = f
fits_rest (t ∷ ts) us [] f = absurd f
fits_rest (t ∷ ts) us (v ∷ vs) f = fits_rest ts us vs f.1

pub fits_take : (n : ℕ) (ts us : List ValType) (vs : List ℕ) → length ts ≡ n → Fits (ts ++ us) vs → Fits ts (take n vs)
fits_take n ts us vs e f = subst (λ (x : ℕ). Fits ts (take x vs)) e (fits_first ts us vs f)

pub fits_drop : (n : ℕ) (ts us : List ValType) (vs : List ℕ) → length ts ≡ n → Fits (ts ++ us) vs → Fits us (drop n vs)
fits_drop n ts us vs e f = subst (λ (x : ℕ). Fits us (drop x vs)) e (fits_rest ts us vs f)

pub fits_enough : (ts us : List ValType) (vs : List ℕ) → Fits (ts ++ us) vs → length ts ≤ length vs
fits_enough [] us vs f = omega arith
fits_enough (t ∷ ts) us [] f = absurd f
fits_enough (t ∷ ts) us (v ∷ vs) f = let l : length ts ≤ length vs = fits_enough ts us vs f.1 in omega (arith, l)

fits_turned : (ts us : List ValType) (vs ws : List ℕ) → Fits ts vs → Fits us ws → Fits (reverse_aux ts us) (reverse_aux vs ws)
fits_turned [] us [] ws f g = g
fits_turned [] us (v ∷ vs) ws f g = absurd f
fits_turned (t ∷ ts) us [] ws f g = absurd f
fits_turned (t ∷ ts) us (v ∷ vs) ws f g = fits_turned ts (t ∷ us) vs (v ∷ ws) f.1 (f.0, g)

-- the arguments of a call, in the order of the parameters
pub fits_reverse : (ts : List ValType) (vs : List ℕ) → Fits (reverse ts) vs → Fits ts (reverse vs)
fits_reverse ts vs f = fits_along (reverse (reverse ts)) ts (reverse vs) (reverse-reverse ts) (fits_turned (reverse ts) [] vs [] f tt)

has_zero : (t : ValType) → Has t 0
has_zero I32 = omega arith
has_zero I64 = omega arith

fits_zeros_of : (ts : List ValType) → Fits ts (replicate (length ts) 0)
fits_zeros_of [] = tt
fits_zeros_of (t ∷ ts) = (has_zero t, fits_zeros_of ts)

pub fits_zeros : (n : ℕ) (ts : List ValType) → length ts ≡ n → Fits ts (replicate n 0)
fits_zeros n ts e = subst (λ (x : ℕ). Fits ts (replicate x 0)) e (fits_zeros_of ts)

pub fits_get : (ts : List ValType) (vs : List ℕ) (i : ℕ) (t : ValType) → Fits ts vs → slice_get ts i ≡ Some t → (v : ℕ) × (slice_get vs i ≡ Some v) × Has t v
fits_get [] vs i t f e = let never : ⊥ = cc e in absurd never
fits_get (u ∷ ts) [] i t f e = absurd f
fits_get (u ∷ ts) (v ∷ vs) zero t f e = (v, refl, subst (λ (x : ValType). Has x v) (let same : u ≡ t = cc e in same) f.0)
fits_get (u ∷ ts) (v ∷ vs) (suc i) t f e = fits_get ts vs i t f.1 e

pub fits_set : (ts : List ValType) (vs : List ℕ) (i : ℕ) (t : ValType) (v : ℕ) → Fits ts vs → slice_get ts i ≡ Some t → Has t v → Fits ts (slice_set vs i v)
fits_set [] [] i t v f e h = tt
fits_set [] (w ∷ vs) i t v f e h = absurd f
fits_set (u ∷ ts) [] i t v f e h = absurd f
fits_set (u ∷ ts) (w ∷ vs) zero t v f e h = (subst (λ (x : ValType). Has x v) (let same : t ≡ u = cc e in same) h, f.1)
fits_set (u ∷ ts) (w ∷ vs) (suc i) t v f e h = (f.0, fits_set ts vs i t v f.1 e h)

-- ---- values that were tested

pub fits_from_are : (ts : List ValType) (vs : List ℕ) → are_of ts vs ≡ true → Fits ts vs
fits_from_are [] [] e = tt
fits_from_are [] (v ∷ vs) e = let never : ⊥ = cc e in absurd never
fits_from_are (t ∷ ts) [] e = let never : ⊥ = cc e in absurd never
fits_from_are (t ∷ ts) (v ∷ vs) e =
    let both : (is_of t v ≡ true) × (are_of ts vs ≡ true) = both_true (is_of t v) (are_of ts vs) e in
    (ltb-true v (2 ^ width t) both.0, fits_from_are ts vs both.1)

pub are_from_fits : (ts : List ValType) (vs : List ℕ) → Fits ts vs → are_of ts vs ≡ true
are_from_fits [] [] f = refl
are_from_fits [] (v ∷ vs) f = absurd f
are_from_fits (t ∷ ts) [] f = absurd f
are_from_fits (t ∷ ts) (v ∷ vs) f =
    let first : is_of t v ≡ true = lt-ltb v (2 ^ width t) f.0 in
    surely (λ d. d ≡ true) (is_of t v) (are_of ts vs) false first (are_from_fits ts vs f.1)
