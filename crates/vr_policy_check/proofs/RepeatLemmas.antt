-- The first repeat in a list of keys: of names by their bytes, and that keys without one are distinct.
use Rattle.std.proofs.Common.{◌≡◌, ℕ, ◌<◌, Bool, true, false, cond, List, [], ◌∷◌, ◌++◌, length, map, get_or, None, Some, is_some, ap, sym, ◌∙◌, subst, refl, arith, append_assoc, bytes_eq}
use Rattle.std.specs.Prelude.{AllPairs}
use Rattle.std.specs.Borrow.{Bor}
use Rattle.std.specs.List.{list_any}
use Rattle.std.specs.Ordering.{nat_cmp}
use Rattle.std.specs.declared.cmp.Ordering.{Ordering}
use Rattle.std.specs.Cmp.Lexicographic.{slice_cmp}
use Rattle.std.proofs.lemmas.List.{append-nil, length-map, map-append}
use Rattle.std.proofs.lemmas.List.Folds.{list_any_at}
use Rattle.std.proofs.lemmas.List.Quantifiers.{all_pairs_push}
use Rattle.std.proofs.lemmas.Map.Text.{is_eq-slice_cmp}
use Rattle.std.specs.BTreeMap.{BTreeMap}
use Rattle.vr_policy_check.specs.declared.places.Index.{Index}
use Rattle.vr_policy_check.specs.declared.places.Index.TheVariants.{Places, Repeat}
use Rattle.vr_policy_check.specs.Places.{same_by, IsIndexOf, HasNames}
use Rattle.vr_policy_check.specs.Repeats.{repeat_after, first_repeat, IsDistinct}
use Rattle.vr_policy_check.proofs.PlaceLemmas.{is_some-position}

-- ---- keys that are seen through a view

module _ {A B : Type 0} (f : A → B) (same : B → B → Bool) where
  abbrev through : A → A → Bool
  through x y = same (f x) (f y)

  pub list_any-view : (x : A) (ys : List A) → list_any (through x) ys ≡ list_any (same (f x)) (map f ys)
  list_any-view x [] = refl
  list_any-view x (y ∷ ys) = rw (list_any-view x ys) refl

  repeat_after-view : (before keys : List A) → repeat_after through before keys ≡ repeat_after same (map f before) (map f keys)
  repeat_after-view before [] = refl
  repeat_after-view before (key ∷ keys) =
      let go = repeat_after-view (before ++ key ∷ []) keys ∙ ap (λ b. repeat_after same b (map f keys)) (map-append f before (key ∷ [])) in
      ap (λ r. cond (list_any (through key) before) (Some (length before)) r) go
      ∙ ap (λ b. cond b (Some (length before)) (repeat_after same (map f before ++ f key ∷ []) (map f keys))) (list_any-view key before)
      ∙ ap (λ n. cond (list_any (same (f key)) (map f before)) (Some n) (repeat_after same (map f before ++ f key ∷ []) (map f keys)))
      (sym (length-map before f))

  pub first_repeat-view : (keys : List A) → first_repeat through keys ≡ first_repeat same (map f keys)
  first_repeat-view keys = repeat_after-view [] keys

-- ---- names

abbrev pub bytes_of : Bor (List ℕ) → List ℕ
bytes_of name = name.now

abbrev pub names_cmp : Bor (List ℕ) → Bor (List ℕ) → Ordering
names_cmp x y = slice_cmp nat_cmp x.now y.now

same_bytes : same_by names_cmp ≡ (λ x y. bytes_eq (bytes_of x) (bytes_of y))
same_bytes = λ i x y. is_eq-slice_cmp x.now y.now i

-- names that are referred to repeat as their bytes do
pub repeat_of_names : (names : List (Bor (List ℕ))) → first_repeat (same_by names_cmp) names ≡ first_repeat bytes_eq (map bytes_of names)
repeat_of_names names = ap (λ (same : Bor (List ℕ) → Bor (List ℕ) → Bool). first_repeat same names) same_bytes ∙ first_repeat-view bytes_of bytes_eq names

pub any_of_names : (name : Bor (List ℕ)) (names : List (Bor (List ℕ)))
    → list_any (same_by names_cmp name) names ≡ list_any (bytes_eq name.now) (map bytes_of names)
any_of_names name names =
    ap (λ (same : Bor (List ℕ) → Bor (List ℕ) → Bool). list_any (same name) names) same_bytes ∙ list_any-view bytes_of bytes_eq name names

-- what the index of the names tells of their bytes
pub names_new : (names : List (Bor (List ℕ))) (index : Index (Bor (List ℕ))) (places : BTreeMap (Bor (List ℕ)) ℕ) → index ≡ Places places
    → IsIndexOf names_cmp names index → first_repeat bytes_eq (map bytes_of names) ≡ None
names_new names index places is h =
    let P : Index (Bor (List ℕ)) → Type 0 = λ i. IsIndexOf names_cmp names i in
    sym (repeat_of_names names) ∙ (subst P is h).0

pub names_indexed : (names : List (Bor (List ℕ))) (index : Index (Bor (List ℕ))) (places : BTreeMap (Bor (List ℕ)) ℕ) → index ≡ Places places
    → IsIndexOf names_cmp names index → HasNames (map bytes_of names) places
names_indexed names index places is h =
    let P : Index (Bor (List ℕ)) → Type 0 = λ i. IsIndexOf names_cmp names i in
    let indexes = (subst P is h).1 in
    λ name. ap is_some (indexes name) ∙ is_some-position (same_by names_cmp name) names ∙ any_of_names name names

pub names_repeat : (names : List (Bor (List ℕ))) (index : Index (Bor (List ℕ))) (at : ℕ) → index ≡ Repeat at
    → IsIndexOf names_cmp names index → first_repeat bytes_eq (map bytes_of names) ≡ Some at
names_repeat names index at is h =
    let P : Index (Bor (List ℕ)) → Type 0 = λ i. IsIndexOf names_cmp names i in
    sym (repeat_of_names names) ∙ subst P is h

-- ---- distinct keys

module _ {K : Type 0} (same : K → K → Bool) where
  -- a key before another is not the same
  abbrev Apart : K → K → Type 0
  Apart x y = same y x ≡ false

  none_same : (before : List K) (key : K) (b : Bool) → list_any (same key) before ≡ b → b ≡ false → (k : ℕ) (d : K) → k < length before → same key (get_or before k d) ≡ false
  none_same before key b is none k d within = by_case (same key (get_or before k d)) refl
    where
      by_case : (t : Bool) → same key (get_or before k d) ≡ t → t ≡ false
      by_case true passes = let found = list_any_at (same key) before k d within passes in cc
      by_case false passes = refl

  apart_case : (before keys : List K) (key : K) (b : Bool) → list_any (same key) before ≡ b → AllPairs Apart before
      → cond b (Some (length before)) (repeat_after same (before ++ key ∷ []) keys) ≡ None
      → (b ≡ false) × (repeat_after same (before ++ key ∷ []) keys ≡ None)
  apart_case before keys key true is apart h = cc
  apart_case before keys key false is apart h = (refl, h)

  apart_after : (before keys : List K) → AllPairs Apart before → repeat_after same before keys ≡ None → AllPairs Apart (before ++ keys)
  apart_after before [] apart h = let P : List K → Type 0 = λ ks. AllPairs Apart ks in subst P (sym (append-nil before)) apart
  apart_after before (key ∷ keys) apart h =
      let parts = apart_case before keys key (list_any (same key) before) refl apart h in
      let more = all_pairs_push Apart before key apart (none_same before key (list_any (same key) before) refl parts.0) in
      let P : List K → Type 0 = λ ks. AllPairs Apart ks in
      subst P (append_assoc before (key ∷ []) keys) (apart_after (before ++ key ∷ []) keys more parts.1)

  -- keys without a repeat are distinct, where equal keys are the same
  pub distinct : ((x y : K) → x ≡ y → same y x ≡ true) → (keys : List K) → first_repeat same keys ≡ None → IsDistinct keys
  distinct equal keys h = λ i j d below within is.
      let apart = apart_after [] keys (λ a b e p q. absurd (omega arith)) h i j d below within in
      let yes_ = equal (get_or keys i d) (get_or keys j d) is in
      cc
