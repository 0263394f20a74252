-- One vector more.
use Rattle.std.proofs.Common.{arith, ℕ, zero, suc, ◌+◌, ◌*◌, ◌≡◌, ◌≤◌, ◌<◌, ◌∙◌, refl, sym, ap, subst, List, [], ◌∷◌, ◌++◌, length, Bool, true, false, if◌then◌else◌, nat_lt, nat_le, ◌==◌}
use Rattle.std.specs.Prelude.{◌&&◌, ◌-◌, Result, Ok, Err}
use Rattle.std.specs.Result.{IsErr, IsErrAnd}
use Rattle.std.specs.List.{list_all}
use Rattle.std.proofs.Math.Bool.{and-true, and-false}
use Rattle.std.proofs.lemmas.Bool.Decides.{nat_tests}
use Rattle.std.proofs.lemmas.List.FromFn.{map-range_with_len_more}
use Rattle.std.proofs.lemmas.List.Folds.{list_all-append}
use Rattle.vr_wasi_abi.specs.declared.fault.AbiFault.{AbiFault}
use Rattle.vr_wasi_abi.specs.declared.fault.AbiFault.TheVariants.{Inval, Fault}
use Rattle.vr_wasi_abi.specs.declared.iovecs.Iovec.{Iovec}
use Rattle.vr_wasi_abi.specs.declared.iovecs.TheConstants.{MAX_IOVECS}
use Rattle.vr_wasm_num.specs.Memory.{is_within}
use Rattle.vr_wasi_abi.specs.Iovecs.{vector, vectors, has_buffer, are_there, reading, Gives}

pub vectors_none : (bytes : List ℕ) (at : ℕ) → vectors bytes at 0 ≡ []
unfolding vectors
vectors_none bytes at = refl

pub vectors_more : (bytes : List ℕ) (at i : ℕ) → vectors bytes at (i + 1) ≡ vectors bytes at i ++ vector bytes (at + 8 * i) ∷ []
unfolding vectors
vectors_more bytes at i = map-range_with_len_more (λ k. vector bytes (at + 8 * k)) 0 i i (omega arith)

nat_within : (l at i : ℕ) → (if 8 * (i + 1) == 0 then true else nat_le (at + 8 * (i + 1)) l) ≡ ((if 8 * i == 0 then true else nat_le (at + 8 * i) l) && nat_le (at + 8 * i + 8) l)
nat_within l at i = grind (arith, nat_tests)

pub within_more : (bytes : List ℕ) (at i : ℕ) → is_within bytes at (8 * (i + 1)) ≡ (is_within bytes at (8 * i) && is_within bytes (at + 8 * i) 8)
within_more bytes at i = nat_within (length bytes) at i

all_one : (bytes : List ℕ) (v : Iovec) → list_all (has_buffer bytes) (v ∷ []) ≡ has_buffer bytes v
all_one bytes v = and-true (has_buffer bytes v)

four : (a b c d : Bool) → ((a && b) && (c && d)) ≡ ((a && c) && (b && d))
four true true c d = refl
four true false true d = refl
four true false false d = refl
four false b c d = refl

false_and : (a b : Bool) → a ≡ false → (a && b) ≡ false
false_and a b h = cc

pub there_more : (bytes : List ℕ) (at i : ℕ) → are_there bytes at (i + 1) ≡ (are_there bytes at i && (is_within bytes (at + 8 * i) 8 && has_buffer bytes (vector bytes (at + 8 * i))))
there_more bytes at i =
    let all : list_all (has_buffer bytes) (vectors bytes at (i + 1)) ≡ (list_all (has_buffer bytes) (vectors bytes at i) && has_buffer bytes (vector bytes (at + 8 * i))) =
    ap (list_all (has_buffer bytes)) (vectors_more bytes at i)
    ∙ list_all-append (has_buffer bytes) (vectors bytes at i) (vector bytes (at + 8 * i) ∷ [])
    ∙ ap (λ z. list_all (has_buffer bytes) (vectors bytes at i) && z) (all_one bytes (vector bytes (at + 8 * i))) in
    ap (λ z. z && list_all (has_buffer bytes) (vectors bytes at (i + 1))) (within_more bytes at i)
    ∙ ap (λ z. (is_within bytes at (8 * i) && is_within bytes (at + 8 * i) 8) && z) all
    ∙ four (is_within bytes at (8 * i)) (is_within bytes (at + 8 * i) 8) (list_all (has_buffer bytes) (vectors bytes at i)) (has_buffer bytes (vector bytes (at + 8 * i)))

pub there_none : (bytes : List ℕ) (at : ℕ) → are_there bytes at 0 ≡ true
there_none bytes at = ap (list_all (has_buffer bytes)) (vectors_none bytes at)

pub there_less : (bytes : List ℕ) (at i d : ℕ) → are_there bytes at i ≡ false → are_there bytes at (i + d) ≡ false
there_less bytes at i zero h = subst (λ z. are_there bytes at z ≡ false) (omega arith) h
there_less bytes at i (suc d) h =
    subst (λ z. are_there bytes at z ≡ false) (omega arith)
    (there_more bytes at (i + d) ∙ false_and (are_there bytes at (i + d)) _ (there_less bytes at i d h))

-- what one vector's answer says
pub one_fault : (b : Bool) (v : Iovec) (e : AbiFault) → Err e ≡ (if b then Ok v else Err Fault) → (b ≡ false) × (e ≡ Fault)
one_fault true v e p = absurd cc
one_fault false v e p = (refl, cc)

pub one_ok : (b : Bool) (x v : Iovec) → ◌≡◌ {A = Result Iovec AbiFault} (Ok x) (if b then Ok v else Err Fault) → (b ≡ true) × (x ≡ v)
one_ok true x v p = (refl, cc)
one_ok false x v p = absurd cc

few : (count : ℕ) → count ≤ MAX_IOVECS → nat_lt MAX_IOVECS count ≡ false
few count h = grind (arith, nat_tests)

-- a vector that isn't there, or whose buffer isn't, among those that are wanted
pub reading_fault : (bytes : List ℕ) (at count i : ℕ) → count ≤ MAX_IOVECS → i < count
    → (is_within bytes (at + 8 * i) 8 && has_buffer bytes (vector bytes (at + 8 * i))) ≡ false → reading bytes at count ≡ Err Fault
reading_fault bytes at count i h l e =
    let one : are_there bytes at (i + 1) ≡ false = there_more bytes at i ∙ ap (λ z. are_there bytes at i && z) e ∙ and-false (are_there bytes at i) in
    let all : are_there bytes at count ≡ false = subst (λ z. are_there bytes at z ≡ false) (omega arith) (there_less bytes at (i + 1) (count - (i + 1)) one) in
    ap (λ z. if z then Err Inval else (if are_there bytes at count then Ok (vectors bytes at count) else Err Fault)) (few count h)
    ∙ ap (λ z. if z then Ok (vectors bytes at count) else Err Fault) all

-- a fault that is handed on
pub handed_on : {A : Type 0} (r answer : Result A AbiFault) (e : AbiFault) → IsErr r → IsErrAnd r (λ x. x ≡ e) → e ≡ Fault → answer ≡ Err Fault → Gives r answer
handed_on (Ok x) answer e i j f a = absurd cc
handed_on (Err x) answer e i j f a = subst (λ z. Gives (Err z) answer) (sym (j ∙ f)) a
