-- The reach of an identity: whose calls can lead to what it learns, and over which regions.
use Rattle.std.specs.Prelude.{◌≡◌, ℕ, Bool, true, List}
use Rattle.vr_flow.specs.Flows.{FlowTests}
use Rattle.vr_flow.specs.Places.{Within, has_place}

-- Identities and regions that are closed for a caller: the caller is one of the identities, and
-- the regions have all that it observes; where a pipeline that some identity may execute modifies
-- one of the regions, they have all that it observes; who modifies one of the regions is one of
-- the identities.
pub record IsClosed (flows : FlowTests) (caller : ℕ) (identities regions : ℕ → Bool) : Type 0 where
  pub itself : identities caller ≡ true
  pub observed : Within (flows.identity_observes caller) regions
  pub led : (pipeline changed : ℕ) → flows.is_executable pipeline ≡ true
      → flows.pipeline_modifies pipeline changed ≡ true → regions changed ≡ true
      → Within (flows.pipeline_observes pipeline) regions
  pub modified : (identity changed : ℕ) → flows.identity_modifies identity changed ≡ true
      → regions changed ≡ true → identities identity ≡ true

-- The least of the pairs that are closed for a caller: it is one, and each of them contains it.
pub record IsReach (flows : FlowTests) (caller : ℕ) (identities regions : ℕ → Bool) : Type 0 where
  pub closed : IsClosed flows caller identities regions
  pub least : (p g : ℕ → Bool) → IsClosed flows caller p g → Within identities p × Within regions g

-- the identities and the regions of a reach, as sets
pub record ReachData : Type 0 where
  pub identities : List ℕ
  pub regions : List ℕ

-- it is the reach of a caller
abbrev pub IsReachOf : FlowTests → ℕ → ReachData → Type 0
IsReachOf flows caller reach =
    IsReach flows caller (has_place reach.identities) (has_place reach.regions)
