-- A normal form is its own, and a name without a fault has none in its normal form.
use Rattle.std.proofs.Common.{◌≡◌, ℕ, Bool, true, false, cond, not, nat_eq, eqb, List, [], ◌∷◌, drop, None, option_map, Ok, codes, All, ap, refl, subst}
use Rattle.std.specs.List.{starts_with}
use Rattle.std.proofs.lemmas.Bool.{eqb-true}
use Rattle.std.proofs.lemmas.List.Elements.{All-drop, All-cons}
use Rattle.vr_base.specs.Names.{normal_form, from_root, is_name_byte, name_fault, byte_fault, length_fault}
use Rattle.vr_base.specs.Checks.{unless_fault}
use Rattle.vr_base.specs.declared.names.PathFault.TheVariants.{BadByte}
use Rattle.vr_base.proofs.FaultLemmas.{neither, none_mapped}
use Rattle.vr_base.proofs.Places.{none_passes, passes_none}

abbrev is_bad : ℕ → Bool
is_bad b = not (is_name_byte b)

abbrev AllGood : List ℕ → Type 0
AllGood name = All (λ b. is_bad b ≡ false) name

one_of : (t : Bool) (xs ys : List ℕ) → AllGood xs → AllGood ys → AllGood (cond t xs ys)
one_of true xs ys h k = h
one_of false xs ys h k = k

from_root_good : (name : List ℕ) → AllGood name → AllGood (from_root name)
from_root_good name h = one_of (starts_with nat_eq name (codes "/")) name (47 ∷ name) h (All-cons (λ b. is_bad b ≡ false) 47 name refl h)

-- a name without one leading ./
abbrev shortened : List ℕ → List ℕ
shortened name = cond (starts_with nat_eq name (codes "./")) (drop 2 name) name

normal_form_good : (name : List ℕ) → AllGood name → AllGood (normal_form name)
normal_form_good name h = from_root_good (shortened name) (one_of (starts_with nat_eq name (codes "./")) (drop 2 name) name (All-drop (λ b. is_bad b ≡ false) 2 name h) h)

normal_from_root : (name : List ℕ) → normal_form (from_root name) ≡ from_root name
normal_from_root [] = refl
normal_from_root (b ∷ bs) = by_test (eqb 47 b) refl
  where
    by_test : (t : Bool) → eqb 47 b ≡ t → normal_form (from_root (b ∷ bs)) ≡ from_root (b ∷ bs)
    by_test true e = subst (λ x. normal_form (from_root (x ∷ bs)) ≡ from_root (x ∷ bs)) (eqb-true 47 b e) refl
    by_test false e = rw e refl

-- a normal form is its own
pub normal_form-normal_form : (name : List ℕ) → normal_form (normal_form name) ≡ normal_form name
normal_form-normal_form name = normal_from_root (shortened name)

-- a name without a fault is without one in its normal form
pub without_fault : (parts : List ℕ → List (List ℕ)) (name : List ℕ) → name_fault name (parts (normal_form name)) ≡ None
    → unless_fault (name_fault (normal_form name) (parts (normal_form (normal_form name)))) (normal_form (normal_form name)) ≡ Ok (normal_form name)
without_fault parts name h =
    let outer = neither (length_fault (normal_form name)) _ h in
    let inner = neither (byte_fault name) _ outer.1 in
    let good = normal_form_good name (none_passes is_bad name (none_mapped BadByte _ inner.0)) in
    let bytes : byte_fault (normal_form name) ≡ None = ap (option_map BadByte) (passes_none is_bad (normal_form name) 0 (λ k l. good k 0 l)) in
    rw (normal_form-normal_form name, outer.0, bytes, inner.1) refl
