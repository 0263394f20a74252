-- An element of the list that a function makes of another.
use Rattle.std.proofs.Common.{◌≡◌, ℕ, List, map, slice_get, option_map}
use Rattle.std.proofs.lemmas.Option.{slice_get-map}

pub get_mapped : {A B : Type 0} (f : A → B) (xs : List A) (k : ℕ) → slice_get (map f xs) k ≡ option_map f (slice_get xs k)
get_mapped f xs k = slice_get-map f xs k
