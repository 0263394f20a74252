-- Which pipelines are led to: by what is observed first, and by what these pipelines observe.
use Rattle.std.specs.Prelude.{◌≡◌, ◌⊎◌, ℕ, true, ◌<◌, ◌^◌, List, [], length, All, slice_index_or}
use Rattle.vr_flow.specs.declared.flow.Flow.{Flow}
use Rattle.vr_flow.specs.Flows.{flow_at, observed_at}
use Rattle.vr_flow.specs.Places.{has_place, words_for, Meet, Within}

-- the set at a place, of nothing where there is none
abbrev pub set_at : List (List ℕ) → ℕ → List ℕ
set_at sets place = slice_index_or sets place []

-- A set has the executable pipelines that modify one of the regions.
pub record AreLed (pipelines : List Flow) (executable regions led : List ℕ) : Type 0 where
  pub room : length led ≡ words_for (length pipelines)
  pub only : (place : ℕ) → has_place led place ≡ true
      → (has_place executable place ≡ true) × Meet (flow_at pipelines place).modified regions
  pub all : (place : ℕ) → has_place executable place ≡ true
      → Meet (flow_at pipelines place).modified regions → has_place led place ≡ true

-- For each pipeline a set of the executable ones that modify what it observes.
pub record AreLeads (pipelines : List Flow) (executable : List ℕ) (leads : List (List ℕ))
    : Type 0 where
  pub every : length leads ≡ length pipelines
  pub each : (place : ℕ) → place < length pipelines
      → AreLed pipelines executable (flow_at pipelines place).observed (set_at leads place)

-- a place is in a set, or led to from one that is reached
pub data Reached (start : List ℕ) (leads : List (List ℕ)) : ℕ → Type 0 where
  first : (place : ℕ) → has_place start place ≡ true → Reached start leads place
  next : (place other : ℕ) → Reached start leads place
      → has_place (set_at leads place) other ≡ true → Reached start leads other

-- A set got all that is reached from it, and no more.
pub record Closes (leads : List (List ℕ)) (old new : List ℕ) : Type 0 where
  pub kept : Within (has_place old) (has_place new)
  pub closed : (place : ℕ) → has_place new place ≡ true
      → Within (has_place (set_at leads place)) (has_place new)
  pub least : (place : ℕ) → has_place new place ≡ true → Reached old leads place

-- A set has what is observed first, and what the pipelines that are led to observe.
pub record IsObserved (pipelines : List Flow) (first led regions : List ℕ) : Type 0 where
  pub room : length regions ≡ length first
  pub at_first : Within (has_place first) (has_place regions)
  pub by_led : (place : ℕ) → has_place led place ≡ true
      → Within (observed_at pipelines place) (has_place regions)
  pub only : (region : ℕ) → has_place regions region ≡ true
      → (has_place first region ≡ true)
      ⊎ ((place : ℕ) × (has_place led place ≡ true) × (observed_at pipelines place region ≡ true))

-- A set has the caller and those that modify one of the regions.
pub record AreModifiers (flows : List Flow) (caller : ℕ) (regions found : List ℕ) : Type 0 where
  pub itself : has_place found caller ≡ true
  pub all : (place : ℕ) → Meet (flow_at flows place).modified regions
      → has_place found place ≡ true
  pub only : (place : ℕ) → has_place found place ≡ true
      → (place ≡ caller) ⊎ Meet (flow_at flows place).modified regions

-- A flow's sets have room for so many regions.
pub record FitsRegions (regions : ℕ) (flow : Flow) : Type 0 where
  pub observed : length flow.observed ≡ words_for regions
  pub modified : length flow.modified ≡ words_for regions

-- What the flows of a policy keep: room for so many regions, and the leads of the pipelines.
pub record KeepsFlows (regions : ℕ) (identities pipelines : List Flow) (executable : List ℕ)
    (leads : List (List ℕ)) : Type 0 where
  pub identities_fit : All (FitsRegions regions) identities
  pub pipelines_fit : All (FitsRegions regions) pipelines
  pub few_identities : length identities < 2 ^ 32
  pub few_pipelines : length pipelines < 2 ^ 32
  pub leads_are : AreLeads pipelines executable leads
