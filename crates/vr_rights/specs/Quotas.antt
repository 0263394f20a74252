-- The quota of a region.
use Rattle.std.specs.Prelude.{ℕ, min, List, [], ◌∷◌, map, filter, fold, bytes_eq, Option, None, Some}
use Rattle.vr_policy_read.specs.declared.entries.Quota.{Quota}

-- the least of the numbers, where there is one
abbrev pub least_of : List ℕ → Option ℕ
least_of [] = None
least_of (n ∷ ns) = Some (fold min n ns)

-- the quota of a region: the least of those on its name, none where none is
abbrev pub quota_of : List ℕ → List Quota → Option ℕ
quota_of region quotas =
    least_of (map (λ quota. quota.bytes) (filter (λ quota. bytes_eq quota.name region) quotas))
