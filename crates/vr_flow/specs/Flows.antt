-- Who observes and modifies which regions: what a policy says, and as it is kept in sets.
use Rattle.std.specs.Prelude.{◌≡◌, ℕ, Bool, false, ◌<◌, List, [], length, slice_get, slice_index_or}
use Rattle.std.specs.List.{list_any}
use Rattle.std.specs.Option.{option_map_or}
use Rattle.vr_pipe.specs.declared.trees.Tree.{Tree}
use Rattle.vr_pipe.specs.Trees.{pipe_tree}
use Rattle.vr_policy_check.specs.Rules.{CheckedData}
use Rattle.vr_rights.specs.Flows as rights
use Rattle.vr_flow.specs.declared.flow.Flow.{Flow}
use Rattle.vr_flow.specs.Places.{has_place, IsSet}

-- Tests of what identities and pipelines, by their places in the policy, observe and modify of the
-- regions, by their numbers, and which pipelines some identity may execute.
pub record FlowTests : Type 0 where
  pub identity_observes : ℕ → ℕ → Bool
  pub identity_modifies : ℕ → ℕ → Bool
  pub pipeline_observes : ℕ → ℕ → Bool
  pub pipeline_modifies : ℕ → ℕ → Bool
  pub is_executable : ℕ → Bool

-- what a test says of the entry at a place, false where there is none
abbrev pub at_place : {A : Type 0} → (A → Bool) → List A → ℕ → Bool
at_place test entries place = option_map_or test (slice_get entries place) false

-- some identity may execute the pipeline
abbrev pub is_executable : CheckedData → Tree → Bool
is_executable checked pipe =
    list_any (λ identity. rights.may_run identity (pipe_tree pipe)) checked.policy.identities

-- what a policy says, over the names of its regions
unfoldable pub flows_of : CheckedData → List (List ℕ) → FlowTests
flows_of checked names = record {
  identity_observes = λ place region.
      at_place (λ identity. at_place (rights.identity_observes checked identity) names region)
      checked.policy.identities place;
  identity_modifies = λ place region.
      at_place (λ identity. at_place (rights.identity_modifies checked identity) names region)
      checked.policy.identities place;
  pipeline_observes = λ place region.
      at_place (λ pipe.
      at_place (rights.pipeline_observes checked.policy (pipe_tree pipe)) names region)
      checked.pipes place;
  pipeline_modifies = λ place region.
      at_place (λ pipe.
      at_place (rights.pipeline_modifies checked.policy (pipe_tree pipe)) names region)
      checked.pipes place;
  is_executable = at_place (is_executable checked) checked.pipes;
}

-- ---- as sets

-- A flow's sets have the regions at which tests pass, of so many.
pub record IsFlow (regions : ℕ) (observes modifies : ℕ → Bool) (flow : Flow) : Type 0 where
  pub observed : IsSet regions observes flow.observed
  pub modified : IsSet regions modifies flow.modified

-- the flow at a place, of nothing where there is none
abbrev pub flow_at : List Flow → ℕ → Flow
flow_at flows place = slice_index_or flows place (record { observed = []; modified = [] })

-- A flow at each place, which has the regions at which tests pass.
pub record AreFlows (count regions : ℕ) (observes modifies : ℕ → ℕ → Bool) (flows : List Flow)
    : Type 0 where
  pub all : length flows ≡ count
  pub each : (place : ℕ) → place < count
      → IsFlow regions (observes place) (modifies place) (flow_at flows place)

-- what the flow at a place observes
abbrev pub observed_at : List Flow → ℕ → ℕ → Bool
observed_at flows place region = has_place (flow_at flows place).observed region

-- what the flow at a place modifies
abbrev pub modified_at : List Flow → ℕ → ℕ → Bool
modified_at flows place region = has_place (flow_at flows place).modified region

-- The flows of a policy: one for each identity and each pipeline, and which pipelines some identity
-- may execute.
pub record FlowsData : Type 0 where
  pub identities : List Flow
  pub pipelines : List Flow
  pub executable : List ℕ

-- what the sets say
abbrev pub tests_of : FlowsData → FlowTests
tests_of flows = record {
  identity_observes = observed_at flows.identities;
  identity_modifies = modified_at flows.identities;
  pipeline_observes = observed_at flows.pipelines;
  pipeline_modifies = modified_at flows.pipelines;
  is_executable = has_place flows.executable;
}

-- Two tests of flows say the same.
pub record SaysTheSame (flows others : FlowTests) : Type 0 where
  pub identities_observe : (place region : ℕ)
      → flows.identity_observes place region ≡ others.identity_observes place region
  pub identities_modify : (place region : ℕ)
      → flows.identity_modifies place region ≡ others.identity_modifies place region
  pub pipelines_observe : (place region : ℕ)
      → flows.pipeline_observes place region ≡ others.pipeline_observes place region
  pub pipelines_modify : (place region : ℕ)
      → flows.pipeline_modifies place region ≡ others.pipeline_modifies place region
  pub executable : (place : ℕ) → flows.is_executable place ≡ others.is_executable place

-- the flows of the pipelines that a policy lists
abbrev pub ArePipelineFlows : CheckedData → List (List ℕ) → List Flow → Type 0
ArePipelineFlows checked names flows =
    AreFlows (length checked.pipes) (length names)
    (flows_of checked names).pipeline_observes (flows_of checked names).pipeline_modifies flows

-- the flows of its identities
abbrev pub AreIdentityFlows : CheckedData → List (List ℕ) → List Flow → Type 0
AreIdentityFlows checked names flows =
    AreFlows (length checked.policy.identities) (length names)
    (flows_of checked names).identity_observes (flows_of checked names).identity_modifies flows
