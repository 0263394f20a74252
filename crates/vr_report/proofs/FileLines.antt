-- The lines of files, place by place.
use Rattle.std.proofs.Common.{◌≡◌, ℕ, suc, ◌+◌, ◌<◌, ◌≤◌, List, [], ◌++◌, drop, length, Some, None, sym, ap, ◌∙◌, arith, add-one, drop-cons}
use Rattle.std.specs.Prelude.{slice_get}
use Rattle.std.specs.List.{flat_map}
use Rattle.std.specs.FinMap.{entries, len, len-entries}
use Rattle.std.proofs.lemmas.Option.{slice_get_within, get_or_from_slice_get, slice_get-get_or}
use Rattle.std.proofs.lemmas.List.{drop_all}
use Rattle.vr_files.specs.FileMaps.{FileMap}

module _ {A : Type 0} (f : A → List ℕ) (xs : List A) (k : ℕ) where
  -- the text of the items from a place on begins with that of the item there
  pub flat_from : (x : A) → slice_get xs k ≡ Some x → flat_map f (drop k xs) ≡ f x ++ flat_map f (drop (k + 1) xs)
  flat_from x e =
      ap (flat_map f) (drop-cons xs k x (slice_get_within xs k x e)) ∙ ap (λ y. f y ++ flat_map f (drop (suc k) xs)) (get_or_from_slice_get xs k x x e)
      ∙ ap (λ n. f x ++ flat_map f (drop n xs)) (sym (add-one k))

  -- past the last item there is no text
  pub flat_past : length xs ≤ k → flat_map f (drop k xs) ≡ []
  flat_past past = ap (flat_map f) (drop_all k xs past)

-- a place below the number of files has a file
pub has_file : (files : FileMap) (k : ℕ) → k < len files → slice_get (entries files) k ≡ None → ⊥
has_file files k below none =
    let within : k < length (entries files) = omega (arith, len-entries files) in
    let some = slice_get-get_or (entries files) k ([], []) within in
    cc
