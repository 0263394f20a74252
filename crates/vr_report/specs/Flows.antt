-- The text of a policy's flows: a line an identity, with its reach.
use Rattle.std.specs.Prelude.{◌≡◌, ℕ, ◌+◌, ◌<◌, Bool, List, [], ◌∷◌, ◌++◌, length, codes, decimal, slice_index_or, if◌then◌else◌}
use Rattle.std.specs.List.{flat_map, zip}
use Rattle.vr_base.specs.Signs.{line_feed}
use Rattle.vr_policy_read.specs.declared.entries.Identity.{Identity}
use Rattle.vr_policy_check.specs.Rules.{CheckedData}
use Rattle.vr_rights.specs.Tables.{RegionsData, IsRegionsOf}
use Rattle.vr_flow.specs.Flows.{flows_of}
use Rattle.vr_flow.specs.Places.{has_place}
use Rattle.vr_flow.specs.Reach.{ReachData, IsReachOf}
use Rattle.vr_text.specs.Words.{word, number}

-- a word for each of the entries at whose places, counted from this one on, a test passes
abbrev pub words_from : {A : Type 0} → (A → List ℕ) → (ℕ → Bool) → ℕ → List A → List ℕ
words_from name test place [] = []
words_from name test place (entry ∷ others) =
    (if test place then word (name entry) else []) ++ words_from name test (place + 1) others

-- the identities of a reach, by their numbers in the policy's order
abbrev pub identities_text : List Identity → ReachData → List ℕ
identities_text identities reach =
    words_from (λ identity. decimal identity.id) (has_place reach.identities) 0 identities

-- the regions of a reach, in the order of the bytes of their names
abbrev pub regions_text : List (List ℕ) → ReachData → List ℕ
regions_text names reach = words_from (λ name. name) (has_place reach.regions) 0 names

-- the identities and the regions of a reach
abbrev pub reach_text : List Identity → List (List ℕ) → ReachData → List ℕ
reach_text identities names reach =
    codes " identities" ++ identities_text identities reach ++ codes " regions"
    ++ regions_text names reach

-- the line of an identity: its number and its reach
abbrev pub flow_line : List Identity → List (List ℕ) → Identity → ReachData → List ℕ
flow_line identities names identity reach =
    codes "flow" ++ number identity.id ++ reach_text identities names reach ++ line_feed ∷ []

-- the lines of identities with these reaches, each in its turn
abbrev pub flow_lines : List Identity → List (List ℕ) → List ReachData → List ℕ
flow_lines identities names reaches =
    flat_map (λ line. flow_line identities names line.0 line.1) (zip identities reaches)

-- the reach at a place, of nobody where there is none
abbrev pub reach_at : List ReachData → ℕ → ReachData
reach_at reaches place =
    slice_index_or reaches place (record { identities = []; regions = [] })

-- The text has the lines of the first identities, so many, each with its reach by the policy.
pub record HasFlowLines (checked : CheckedData) (names : List (List ℕ)) (count : ℕ)
    (text : List ℕ) : Type 0 where
  pub reaches : List ReachData
  pub all : length reaches ≡ count
  pub each : (place : ℕ) → place < count
      → IsReachOf (flows_of checked names) place (reach_at reaches place)
  pub written : text ≡ flow_lines checked.policy.identities names reaches

-- The text has a line for each identity, in the policy's order, over the regions of the policy.
pub record IsFlowText (checked : CheckedData) (text : List ℕ) : Type 0 where
  pub regions : RegionsData
  pub named : IsRegionsOf checked regions
  pub lines : HasFlowLines checked regions.names (length checked.policy.identities) text
