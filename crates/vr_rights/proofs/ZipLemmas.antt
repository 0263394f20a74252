-- Two lists that agree element by element.
use Rattle.std.proofs.Common.{◌≡◌, ℕ, suc, List, [], ◌∷◌, ◌++◌, length, map, Some, slice_get, get_or, refl, ap, ◌∙◌, All}
use Rattle.std.specs.List.{AllZip, flat_map}
use Rattle.std.proofs.lemmas.List.{get_or-map}
use Rattle.std.proofs.lemmas.Option.{get_or_from_slice_get, slice_get_within}
use Rattle.std.proofs.lemmas.List.Elements.{All-head, All-tail, All-nil, All-cons}

module _ {A B : Type 0} (R : A → B → Type 0) where
  pub zip_length : (xs : List A) (ys : List B) → AllZip R xs ys → length xs ≡ length ys
  zip_length [] [] h = refl
  zip_length [] (y ∷ ys) h = absurd h
  zip_length (x ∷ xs) [] h = absurd h
  zip_length (x ∷ xs) (y ∷ ys) h = ap suc (zip_length xs ys h.1)

  pub zip_push : (xs : List A) (ys : List B) (x : A) (y : B) → AllZip R xs ys → R x y → AllZip R (xs ++ x ∷ []) (ys ++ y ∷ [])
  zip_push [] [] x y h r = (r, tt)
  zip_push [] (y' ∷ ys) x y h r = absurd h
  zip_push (x' ∷ xs) [] x y h r = absurd h
  zip_push (x' ∷ xs) (y' ∷ ys) x y h r = (h.0, zip_push xs ys x y h.1 r)

  -- what each pair gives of its second element
  pub zip_all : (P : A → Type 0) (Q : B → Type 0) → ((x : A) (y : B) → P x → R x y → Q y) → (xs : List A) (ys : List B) → All P xs → AllZip R xs ys → All Q ys
  zip_all P Q give [] [] p h = All-nil Q
  zip_all P Q give [] (y ∷ ys) p h = absurd h
  zip_all P Q give (x ∷ xs) [] p h = absurd h
  zip_all P Q give (x ∷ xs) (y ∷ ys) p h = All-cons Q y ys (give x y (All-head P x xs p) h.0) (zip_all P Q give xs ys (All-tail P x xs p) h.1)

  -- two maps that agree at each pair
  pub zip_map : {C : Type 0} (P : A → Type 0) (f : A → C) (g : B → C) → ((x : A) (y : B) → P x → R x y → f x ≡ g y) → (xs : List A) (ys : List B) → All P xs → AllZip R xs ys → map f xs ≡ map g ys
  zip_map P f g same [] [] p h = refl
  zip_map P f g same [] (y ∷ ys) p h = absurd h
  zip_map P f g same (x ∷ xs) [] p h = absurd h
  zip_map P f g same (x ∷ xs) (y ∷ ys) p h = rw (same x y (All-head P x xs p) h.0, zip_map P f g same xs ys (All-tail P x xs p) h.1) refl

-- ---- what holds of each element of a list that is made of others

pub All-left : {X : Type 0} (P : X → Type 0) (xs ys : List X) → All P (xs ++ ys) → All P xs
All-left P [] ys h = All-nil P
All-left P (x ∷ xs) ys h = All-cons P x xs (All-head P x (xs ++ ys) h) (All-left P xs ys (All-tail P x (xs ++ ys) h))

pub All-right : {X : Type 0} (P : X → Type 0) (xs ys : List X) → All P (xs ++ ys) → All P ys
All-right P [] ys h = h
All-right P (x ∷ xs) ys h = All-right P xs ys (All-tail P x (xs ++ ys) h)

pub All-mapped : {X Y : Type 0} (P : X → Type 0) (f : Y → X) (ys : List Y) → All P (map f ys) → All (λ y. P (f y)) ys
All-mapped P f [] h = All-nil (λ y. P (f y))
All-mapped P f (y ∷ ys) h = All-cons (λ z. P (f z)) y ys (All-head P (f y) (map f ys) h) (All-mapped P f ys (All-tail P (f y) (map f ys) h))

pub All-flat : {X Y : Type 0} (P : X → Type 0) (f : Y → List X) (ys : List Y) → All P (flat_map f ys) → All (λ y. All P (f y)) ys
All-flat P f [] h = All-nil (λ y. All P (f y))
All-flat P f (y ∷ ys) h = All-cons (λ z. All P (f z)) y ys (All-left P (f y) (flat_map f ys) h) (All-flat P f ys (All-right P (f y) (flat_map f ys) h))

-- the second list may be mapped
pub zip_mapped : {A B C : Type 0} (R : A → B → Type 0) (f : C → B) (xs : List A) (zs : List C) → AllZip (λ x z. R x (f z)) xs zs → AllZip R xs (map f zs)
zip_mapped R f [] [] h = tt
zip_mapped R f [] (z ∷ zs) h = absurd h
zip_mapped R f (x ∷ xs) [] h = absurd h
zip_mapped R f (x ∷ xs) (z ∷ zs) h = (h.0, zip_mapped R f xs zs h.1)

pub map_same : {X Y : Type 0} (f g : X → Y) (xs : List X) → ((x : X) → f x ≡ g x) → map f xs ≡ map g xs
map_same f g [] h = refl
map_same f g (x ∷ xs) h = rw (h x, map_same f g xs h) refl

-- an element of a map
pub mapped_at : {X Y : Type 0} (f : X → Y) (xs : List X) (i : ℕ) (x : X) (absent : Y) → slice_get xs i ≡ Some x → get_or (map f xs) i absent ≡ f x
mapped_at f xs i x absent e = get_or-map f xs i x absent (slice_get_within xs i x e) ∙ ap f (get_or_from_slice_get xs i x x e)
