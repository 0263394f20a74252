-- Files that are changed over others.
use Rattle.std.specs.Prelude.{◌≡◌, ℕ, List}
use Rattle.std.specs.List.{HoldsAt}
use Rattle.vr_files.specs.FileMaps.{FileMap}
use Rattle.vr_files.specs.Entries.{AreSorted, IsAt}
use Rattle.vr_files.specs.Changes.{Change, applied, body_of}

-- The body of the path stands among the new changes, which make the same files as the old ones.
pub record OwnsBody (base : FileMap) (old new : List Change) (path : List ℕ)
    (place : ℕ) : Type 0 where
  pub sorted : AreSorted new
  pub found : IsAt path new place
  pub body : HoldsAt (λ change. change.1 ≡ body_of base old path) new place
  pub same : applied base new ≡ applied base old
