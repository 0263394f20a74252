-- What a request's target stands for.
use Rattle.std.specs.Prelude.{◌≡◌, ℕ, ◌<◌, ◌==◌, Bool, false, List, [], ◌∷◌, ◌++◌, length, codes, Option, Some, None, if◌then◌else◌}
use Rattle.std.specs.List.{list_any}
use Rattle.std.specs.Option.{option_or, option_and_then}
use Rattle.std.specs.Str.{is_utf8}
use Rattle.vr_base.specs.Signs.{slash}

-- a file by its name, a pipeline by its id, or the hash of the policy
pub data Resource : Type 0 where
  FileNamed : (name : List ℕ) → Resource
  PipelineNamed : (id : List ℕ) → Resource
  HashOfPolicy : Resource

-- a byte of these is a slash
abbrev pub has_slash : List ℕ → Bool
has_slash bytes = list_any (λ b. b == slash) bytes

-- the path of each resource
abbrev pub path_of : Resource → List ℕ
path_of (FileNamed name) = codes "/files/" ++ name
path_of (PipelineNamed id) = codes "/pipelines/" ++ id
path_of HashOfPolicy = codes "/policy/hash"

-- a name and an id have at least one byte, and an id has no slash
abbrev pub IsProper : Resource → Type 0
IsProper (FileNamed name) = 0 < length name
IsProper (PipelineNamed id) = (0 < length id) × (has_slash id ≡ false)
IsProper HashOfPolicy = Unit {0}

-- the path is that of this resource
abbrev pub StandsFor : List ℕ → Resource → Type 0
StandsFor path resource = (path ≡ path_of resource) × IsProper resource

-- what follows the word, where the path begins with it
abbrev pub after : List ℕ → List ℕ → Option (List ℕ)
after [] path = Some path
after (w ∷ word) [] = None
after (w ∷ word) (b ∷ path) = if w == b then after word path else None

-- a file, by what follows `/files/`
abbrev pub file_of : List ℕ → Option Resource
file_of [] = None
file_of (b ∷ name) = Some (FileNamed (b ∷ name))

-- a pipeline, by what follows `/pipelines/`
abbrev pub pipeline_of : List ℕ → Option Resource
pipeline_of [] = None
pipeline_of (b ∷ id) = if has_slash (b ∷ id) then None else Some (PipelineNamed (b ∷ id))

-- the hash of the policy, where nothing follows
abbrev pub hash_of : List ℕ → Option Resource
hash_of [] = Some HashOfPolicy
hash_of (b ∷ rest) = None

-- the resource that a path stands for
abbrev pub kind_of : List ℕ → Option Resource
kind_of path =
    option_or (option_and_then file_of (after (codes "/files/") path))
    (option_or (option_and_then pipeline_of (after (codes "/pipelines/") path))
    (option_and_then hash_of (after (codes "/policy/hash") path)))

-- the resource that a target stands for; bytes that are no UTF-8 stand for none
abbrev pub resource_of : List ℕ → Option Resource
resource_of target = if is_utf8 target then kind_of target else None
