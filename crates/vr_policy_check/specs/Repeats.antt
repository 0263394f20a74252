-- Keys that come twice in a list.
use Rattle.std.specs.Prelude.{◌≢◌, Bool, ℕ, List, [], ◌∷◌, ◌++◌, length, AllPairs, Option, Some, None, if◌then◌else◌}
use Rattle.std.specs.List.{list_any}

-- the first key from here on that is the same as one before it, by its
-- index; these are the keys before
abbrev pub repeat_after : {K : Type 0} → (K → K → Bool) → List K → List K → Option ℕ
repeat_after same before [] = None
repeat_after same before (key ∷ keys) =
    if list_any (same key) before then Some (length before)
    else repeat_after same (before ++ key ∷ []) keys

-- the index of the first key that is the same as one before it
abbrev pub first_repeat : {K : Type 0} → (K → K → Bool) → List K → Option ℕ
first_repeat same keys = repeat_after same [] keys

-- no key comes twice
abbrev pub IsDistinct : {K : Type 0} → List K → Type 0
IsDistinct keys = AllPairs (λ x y. x ≢ y) keys
