-- The functions of a program, and whether two types of functions are one.
use Rattle.std.proofs.Common.{ℕ, ◌≡◌, ◌≢◌, ◌<◌, ◌≤◌, List, [], ◌∷◌, length, map, slice_get, get_or, IsSome, Some, None, Bool, true, false, if◌then◌else◌, refl, ap, ◌∙◌, subst, inl, inr}
use Rattle.std.specs.Option.{option_map}
use Rattle.std.proofs.lemmas.Bool.{cases_lt, false≢true}
use Rattle.std.proofs.lemmas.Option.{slice_get-map, slice_get_read, slice_get_past}
use Rattle.vr_wasm_ast.specs.declared.tree.FuncType.{FuncType}
use Rattle.vr_wasm_ast.specs.declared.tree.ValType.{ValType}
use Rattle.vr_wasm_ast.specs.declared.tree.ValType.TheVariants.{I32, I64}
use Rattle.vr_wasm_link.specs.declared.functions.Callee.{Callee}
use Rattle.vr_wasm_link.specs.Functions.{function_of}
use Rattle.vr_wasm_steps.specs.Rows.{same_type, same_types, same_sort}

-- ---- places

pub within : {A : Type 0} (xs : List A) (n : ℕ) → IsSome (slice_get xs n) → n < length xs
within xs n h = elim (cases_lt n (length xs)) [
  | inl l ↦ l
  | inr l ↦ absurd (false≢true (subst IsSome (slice_get_past xs n l) h))
]

pub function_at : (xs : List Callee) (n : ℕ) (x : Callee) → n < length xs → x ≡ get_or xs n x → slice_get (map function_of xs) n ≡ Some (function_of x)
function_at xs n x l e = slice_get-map function_of xs n ∙ ap (option_map function_of) (slice_get_read xs (length xs) n x refl l e)

past : (xs : List Callee) (n : ℕ) → length xs ≤ n → slice_get (map function_of xs) n ≡ None
past xs n l = slice_get-map function_of xs n ∙ ap (option_map function_of) (slice_get_past xs n l)

pub function_within : (xs : List Callee) (n : ℕ) → IsSome (slice_get (map function_of xs) n) → n < length xs
function_within xs n h = elim (cases_lt n (length xs)) [
  | inl l ↦ l
  | inr l ↦ absurd (false≢true (subst IsSome (past xs n l) h))
]

-- ---- types

one_type : (t : ValType) → same_type t t ≡ true
one_type I32 = refl
one_type I64 = refl

one_list : (ts : List ValType) → same_types ts ts ≡ true
one_list [] = refl
one_list (t ∷ ts) = ap (λ b. if b then same_types ts ts else false) (one_type t) ∙ one_list ts

one_sort : (a : FuncType) → same_sort a a ≡ true
one_sort a = ap (λ b. if b then same_types a.results a.results else false) (one_list a.params) ∙ one_list a.results

pub equal_sorts : (a b : FuncType) → a ≡ b → same_sort a b ≡ true
equal_sorts a b e = subst (λ x. same_sort a x ≡ true) e (one_sort a)

type_is : (t u : ValType) → same_type t u ≡ true → t ≡ u
type_is I32 I32 e = refl
type_is I32 I64 e = absurd (false≢true e)
type_is I64 I32 e = absurd (false≢true e)
type_is I64 I64 e = refl

both : (a b : Bool) → (if a then b else false) ≡ true → (a ≡ true) × (b ≡ true)
both true b e = (refl, e)
both false b e = absurd (false≢true e)

list_is : (ts us : List ValType) → same_types ts us ≡ true → ts ≡ us
list_is [] [] e = refl
list_is [] (u ∷ us) e = absurd (false≢true e)
list_is (t ∷ ts) [] e = absurd (false≢true e)
list_is (t ∷ ts) (u ∷ us) e =
    let h : (same_type t u ≡ true) × (same_types ts us ≡ true) = both (same_type t u) (same_types ts us) e in
    ap (λ x. x ∷ ts) (type_is t u h.0) ∙ ap (λ x. u ∷ x) (list_is ts us h.1)

sort_is : (a b : FuncType) → same_sort a b ≡ true → a ≡ b
sort_is a b e =
    let h : (same_types a.params b.params ≡ true) × (same_types a.results b.results ≡ true) = both (same_types a.params b.params) (same_types a.results b.results) e in
    ap (λ x. record a { params = x }) (list_is a.params b.params h.0) ∙ ap (λ x. record b { results = x }) (list_is a.results b.results h.1)

differ : (a b : FuncType) (x : Bool) → same_sort a b ≡ x → a ≢ b → x ≡ false
differ a b true e other = absurd (other (sort_is a b e))
differ a b false e other = refl

pub other_sorts : (a b : FuncType) → a ≢ b → same_sort a b ≡ false
other_sorts a b other = differ a b (same_sort a b) refl other
