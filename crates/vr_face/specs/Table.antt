-- The rows of the router, as a contract of `matchit` sees them.
use Rattle.std.specs.Prelude.{◌≡◌, ℕ, [], ◌∷◌, ◌++◌, codes}
use Rattle.matchit.specs.Router.{RouteOf, rename}
use Rattle.matchit.specs.Rows.{RowsOf, param_token, catch_all_token}
use Rattle.vr_face.specs.Resources.{Resource, FileNamed, PipelineNamed, HashOfPolicy}

-- the number that the router keeps for each kind of resource
abbrev pub number_of : Resource → ℕ
number_of (FileNamed name) = 0
number_of (PipelineNamed id) = 1
number_of HashOfPolicy = 2

-- each pattern with its number
abbrev pub table : RowsOf ℕ
table =
    (codes "/files/" ++ catch_all_token ∷ [], 0)
    ∷ (codes "/pipelines/" ++ param_token ∷ [], 1)
    ∷ (codes "/policy/hash", 2)
    ∷ []

-- The router has these rows.
abbrev pub HasRows : RowsOf (RouteOf ℕ) → Type 0
HasRows router = rename (λ route. route.value) router ≡ table
