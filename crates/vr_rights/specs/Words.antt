-- The word of a holder of grants in a region, and the programs that it may execute.
use Rattle.std.specs.Prelude.{ℕ, Bool, not, List, filter, position, Option, option_map, unwrap_or}
use Rattle.vr_base.specs.Rights.{longest_grant, word_on, has_bit, execute}
use Rattle.vr_pipe.specs.Trees.{PipeTree, programs_of}
use Rattle.vr_rights.specs.Regions.{includes}

-- the grants whose name includes a region
abbrev pub including_grants : List ℕ → List (List ℕ × ℕ) → List (List ℕ × ℕ)
including_grants region grants = filter (λ grant. includes grant.0 region) grants

-- the word of a holder in a region: that of its longest grant that includes the region, or 0
abbrev pub word_in : List ℕ → List (List ℕ × ℕ) → ℕ
word_in region grants =
    unwrap_or (option_map (λ grant. grant.1) (longest_grant (including_grants region grants))) 0

-- whether a holder may execute the program at a path
abbrev pub may_execute : List (List ℕ × ℕ) → List ℕ → Bool
may_execute grants path = has_bit (word_on path grants) execute

-- the first of a pipeline's program places that a holder may not execute, none
-- where it may execute the pipeline
abbrev pub missing_program : List (List ℕ × ℕ) → PipeTree → Option ℕ
missing_program grants pipeline =
    position (λ path. not (may_execute grants path)) (programs_of pipeline)
