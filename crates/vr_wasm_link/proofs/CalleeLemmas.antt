-- The functions that a loop over imports or over bodies has made so far.
use Rattle.std.proofs.Common.{◌≡◌, ℕ, ◌+◌, ◌<◌, List, [], ◌∷◌, ◌++◌, Option, None, Some, map, take, get_or, length, sym, ap, ◌∙◌, append_assoc, append-nil}
use Rattle.std.specs.List.{cons_option, filter_map}
use Rattle.std.proofs.lemmas.List.{map-append, take_more}
use Rattle.std.proofs.lemmas.List.Elements.{filter_map-append}
use Rattle.vr_wasm_ast.specs.declared.tree.FuncType.{FuncType}
use Rattle.vr_wasm_ast.specs.declared.tree.Import.{Import}
use Rattle.vr_wasm_steps.specs.Rows.{Callee}
use Rattle.vr_wasm_link.specs.Opening.{Finds, imported_callee}

-- what one more item gives
filtered_more : {X Y : Type 0} (h : X → Option Y) (xs : List X) (i : ℕ) (x : X) → i < length xs
    → x ≡ get_or xs i x
    → filter_map h (take (i + 1) xs) ≡ filter_map h (take i xs) ++ cons_option (h x) []
filtered_more h xs i x within at =
    ap (filter_map h) (take_more xs i x within ∙ ap (λ y. take i xs ++ y ∷ []) (sym at))
    ∙ filter_map-append h (take i xs) (x ∷ [])

-- one more item, which gives a value
pub pushed : {A X Y : Type 0} (f : A → Y) (h : X → Option Y) (old new : List A) (a : A) (before : List Y)
    (xs : List X) (i : ℕ) (x : X) → i < length xs → x ≡ get_or xs i x
    → map f old ≡ before ++ filter_map h (take i xs) → h x ≡ Some (f a) → new ≡ old ++ a ∷ []
    → map f new ≡ before ++ filter_map h (take (i + 1) xs)
pushed f h old new a before xs i x within at so_far gives is =
    ap (map f) is ∙ map-append f old (a ∷ []) ∙ ap (λ ys. ys ++ f a ∷ []) so_far
    ∙ append_assoc before (filter_map h (take i xs)) (f a ∷ [])
    ∙ ap (λ ys. before ++ ys) (sym (filtered_more h xs i x within at
    ∙ ap (λ o. filter_map h (take i xs) ++ cons_option o []) gives))

-- one more item, which gives none
pub passed_over : {A X Y : Type 0} (f : A → Y) (h : X → Option Y) (old : List A) (before : List Y)
    (xs : List X) (i : ℕ) (x : X) → i < length xs → x ≡ get_or xs i x
    → map f old ≡ before ++ filter_map h (take i xs) → h x ≡ None
    → map f old ≡ before ++ filter_map h (take (i + 1) xs)
passed_over f h old before xs i x within at so_far gives =
    so_far ∙ ap (λ ys. before ++ ys) (sym (filtered_more h xs i x within at
    ∙ ap (λ o. filter_map h (take i xs) ++ cons_option o []) gives
    ∙ append-nil (filter_map h (take i xs))))

-- the callee of an import that was looked for in these types
pub callee_here : (finds : Finds) (types others : List FuncType) (i : Import) (given : Option Callee)
    → others ≡ types → given ≡ imported_callee finds others i → imported_callee finds types i ≡ given
callee_here finds types others i given same is =
    ap (λ ts. imported_callee finds ts i) (sym same) ∙ sym is
