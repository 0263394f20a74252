-- Lists: the first element of which something does not hold, and elements that pass a test.
use Rattle.std.proofs.Common.{◌≡◌, Bool, true, false, cond, List, [], ◌∷◌, ◌++◌, Some, All, Contains, refl, sym, ap, ◌∙◌, subst, ◌⊎◌, inl, inr}
use Rattle.std.specs.Prelude.{find, is_some, IsSome}
use Rattle.std.specs.List.{list_any}
use Rattle.std.proofs.lemmas.List.Folds.{list_any_at}
use Rattle.vr_rights.proofs.LongestLemmas.{Contains-head, Contains-tail, Contains-cons_cases, never_in_nothing}
use Rattle.std.proofs.lemmas.List.Elements.{All-head, All-tail}

-- there is one such element
pub first_failing : {X : Type 0} (P : X → Type 0) (before other after rest : List X) (x y : X)
    → before ++ x ∷ after ≡ other ++ y ∷ rest → All P before → All P other → (P x → ⊥) → (P y → ⊥) → x ≡ y
first_failing P [] [] after rest x y e h k f g = cc
first_failing P [] (z ∷ other) after rest x y e h k f g =
    let same : z ≡ x = cc in absurd (f (subst P same (All-head P z other k)))
first_failing P (z ∷ before) [] after rest x y e h k f g =
    let same : z ≡ y = cc in absurd (g (subst P same (All-head P z before h)))
first_failing P (z ∷ before) (w ∷ other) after rest x y e h k f g =
    let rests : before ++ x ∷ after ≡ other ++ y ∷ rest = cc in
    first_failing P before other after rest x y rests (All-tail P z before h) (All-tail P w other k) f g

-- ---- tests

pub any_among : {X : Type 0} (p : X → Bool) (xs : List X) (x : X) → Contains xs x → p x ≡ true → list_any p xs ≡ true
any_among p xs x (k, l, e) h = list_any_at p xs k x l (ap p e ∙ h)

pub find_has : {X : Type 0} (p : X → Bool) (xs : List X) (x : X) → find p xs ≡ Some x → Contains xs x × (p x ≡ true)
find_has p [] x h = cc
find_has p (y ∷ ys) x h = by_test (p y) refl h (find_has p ys x)
  where
    by_test : (b : Bool) → p y ≡ b → cond b (Some y) (find p ys) ≡ Some x → (find p ys ≡ Some x → Contains ys x × (p x ≡ true))
        → Contains (y ∷ ys) x × (p x ≡ true)
    by_test true t e later = let same : y ≡ x = cc in (subst (λ z. Contains (z ∷ ys) x) (sym same) (Contains-head x ys), ap p (sym same) ∙ t)
    by_test false t e later = let rest = later e in (Contains-tail y ys x rest.0, rest.1)

-- where one passes, one is found
pub find_some : {X : Type 0} (p : X → Bool) (xs : List X) (x : X) → Contains xs x → p x ≡ true → IsSome (find p xs)
find_some p [] x h t = absurd (never_in_nothing x h)
find_some p (y ∷ ys) x h t = by_cases (Contains-cons_cases y ys x h) (λ there. find_some p ys x there t)
  where
    later : (b : Bool) → IsSome (find p ys) → IsSome (cond b (Some y) (find p ys))
    later true k = refl
    later false k = k

    by_cases : (y ≡ x) ⊎ Contains ys x → (Contains ys x → IsSome (find p ys)) → IsSome (find p (y ∷ ys))
    by_cases (inl same) rest = let here : p y ≡ true = ap p same ∙ t in ap (λ b. is_some (cond b (Some y) (find p ys))) here
    by_cases (inr there) rest = later (p y) (rest there)
