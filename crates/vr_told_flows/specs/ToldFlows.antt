-- What the lines of a policy's flows say: of each identity, whose calls can lead to what it learns, and over which regions.
use Rattle.std.specs.Prelude.{◌≡◌, ℕ, Bool, false, List, length, slice_get, Some}
use Rattle.std.specs.Option.{option_map_or}
use Rattle.vr_policy_check.specs.Checked.{IsChecked, identity_place}
use Rattle.vr_policy_check.specs.Rules.{CheckedData}
use Rattle.vr_policy_read.specs.declared.entries.Identity.{Identity}
use Rattle.vr_flow.specs.Places.{Within, has_place}
use Rattle.vr_flow.specs.Reach.{ReachData}
use Rattle.vr_core.specs.Isolation.{IsClosedFor}
use Rattle.vr_core.specs.Quotas.{region_names}
use Rattle.vr_report.specs.Flows.{IsFlowText, flow_lines, reach_at}

-- the identities of a reach, by their ids
abbrev pub told_ids : CheckedData → ReachData → ℕ → Bool
told_ids checked reach who =
    option_map_or (has_place reach.identities) (identity_place checked.policy who) false

-- The identities and the regions of a reach are closed for the identity with this id, and all others that are closed for
-- it contain them.
pub record BoundsLearning (checked : CheckedData) (id : ℕ) (reach : ReachData) : Type 0 where
  pub closed : IsClosedFor checked id (told_ids checked reach) (has_place reach.regions)
  pub least : (ids regions : ℕ → Bool) → IsClosedFor checked id ids regions
      → Within (told_ids checked reach) ids × Within (has_place reach.regions) regions

-- The text has a line for each identity, in the policy's order, with a reach that bounds what it learns.
pub record TellsBounds (checked : CheckedData) (text : List ℕ) : Type 0 where
  pub reaches : List ReachData
  pub all : length reaches ≡ length checked.policy.identities
  pub each : (place : ℕ) (identity : Identity)
      → slice_get checked.policy.identities place ≡ Some identity
      → BoundsLearning checked identity.id (reach_at reaches place)
  pub written : text ≡ flow_lines checked.policy.identities (region_names checked) reaches

-- each text of the flows of a checked policy does so
abbrev pub PrintsBounds : Type 0
PrintsBounds =
    (checked : CheckedData) → IsChecked checked → (text : List ℕ) → IsFlowText checked text
    → TellsBounds checked text
