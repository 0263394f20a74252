-- One argument more.
use Rattle.std.proofs.Common.{◌≡◌, ℕ, Bool, true, false, if◌then◌else◌, List, [], ◌∷◌, ◌++◌, refl}
use Rattle.vr_wasm_ast.specs.declared.tree.ValType.{ValType}
use Rattle.vr_wasm_steps.specs.Store.{are_of, is_of}

both_of : (a b : Bool) → (if a then b else false) ≡ true → (a ≡ true) × (b ≡ true)
both_of true b h = (refl, h)
both_of false b h = absurd cc

of_both : (a b : Bool) → a ≡ true → b ≡ true → (if a then b else false) ≡ true
of_both true b first second = second
of_both false b first second = first

-- a value behind others that are of their types
pub are_of_more : (ts : List ValType) (vs : List ℕ) (t : ValType) (v : ℕ)
    → are_of ts vs ≡ true → is_of t v ≡ true → are_of (ts ++ t ∷ []) (vs ++ v ∷ []) ≡ true
are_of_more [] [] t v fit is = of_both (is_of t v) true is refl
are_of_more [] (u ∷ vs) t v fit is = absurd cc
are_of_more (s ∷ ts) [] t v fit is = absurd cc
are_of_more (s ∷ ts) (u ∷ vs) t v fit is =
    let split : (is_of s u ≡ true) × (are_of ts vs ≡ true) =
    both_of (is_of s u) (are_of ts vs) fit in
    of_both (is_of s u) (are_of (ts ++ t ∷ []) (vs ++ v ∷ [])) split.0
    (are_of_more ts vs t v split.1 is)
