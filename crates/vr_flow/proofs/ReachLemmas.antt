-- Laws of reaches: for callers that have a policy and the names of its regions.
use Rattle.std.proofs.Common.{◌≡◌, ℕ, ◌<◌, ◌≤◌, Bool, true, false, ◌&&◌, eqb, List, length, get_or, Some, None, slice_get, refl, sym, ◌∙◌, ap, ◌⊎◌, inl, inr, arith}
use Rattle.std.proofs.lemmas.Bool.{cases_lt, eqb-true, eq-eqb, or_left, or_right}
use Rattle.std.proofs.lemmas.Option.{slice_get_cases}
use Rattle.vr_pipe.specs.declared.trees.Tree.{Tree}
use Rattle.vr_pipe.specs.Trees.{pipe_tree}
use Rattle.vr_policy_check.specs.Rules.{CheckedData}
use Rattle.vr_policy_read.specs.declared.entries.Identity.{Identity}
use Rattle.vr_rights.specs.Flows as rights
use Rattle.vr_rights.proofs.FlowLemmas.{pipeline_observes_what_it_modifies}
use Rattle.vr_flow.specs.Flows.{FlowTests, FlowsData, SaysTheSame, tests_of, flows_of, at_place, AreIdentityFlows, ArePipelineFlows}
use Rattle.vr_flow.specs.Places.{Within, IsSet}
use Rattle.vr_flow.specs.Reach.{IsClosed, IsReach}
use Rattle.vr_flow.proofs.ClosingLemmas.{none_observed_at, none_modified_at}
use Rattle.vr_flow.proofs.PolicyLemmas.{own_observes, own_modifies, piped, pipe_observes, pipe_modifies, identity_sees, identity_changes, identity_sees_none, identity_changes_none, pipeline_sees_none, pipeline_changes_none, pipe_observes_at, pipe_modifies_at, executable_at}
use Rattle.vr_flow.proofs.TableLemmas.{any_at, at_weaker}

-- ---- tests that say the same

pub closed_same : (flows others : FlowTests) (caller : ℕ) (p g : ℕ → Bool) → SaysTheSame flows others → IsClosed others caller p g → IsClosed flows caller p g
closed_same flows others caller p g s h = record {
  itself = h.itself;
  observed = λ region t. h.observed region (sym (s.identities_observe caller region) ∙ t);
  led = λ pipeline changed runs modifies there region t. h.led pipeline changed (sym (s.executable pipeline) ∙ runs) (sym (s.pipelines_modify pipeline changed) ∙ modifies) there region (sym (s.pipelines_observe pipeline region) ∙ t);
  modified = λ identity changed modifies there. h.modified identity changed (sym (s.identities_modify identity changed) ∙ modifies) there;
}

same_back : (flows others : FlowTests) → SaysTheSame flows others → SaysTheSame others flows
same_back flows others s = record {
  identities_observe = λ place region. sym (s.identities_observe place region);
  identities_modify = λ place region. sym (s.identities_modify place region);
  pipelines_observe = λ place region. sym (s.pipelines_observe place region);
  pipelines_modify = λ place region. sym (s.pipelines_modify place region);
  executable = λ place. sym (s.executable place);
}

pub reach_same : (flows others : FlowTests) (caller : ℕ) (p g : ℕ → Bool) → SaysTheSame flows others → IsReach flows caller p g → IsReach others caller p g
reach_same flows others caller p g s h = record {
  closed = closed_same others flows caller p g (same_back flows others s) h.closed;
  least = λ q r c. h.least q r (closed_same flows others caller q r s c);
}

-- there is one reach of a caller
pub one_reach : (flows : FlowTests) (caller : ℕ) (p g q r : ℕ → Bool) → IsReach flows caller p g → IsReach flows caller q r → Within p q × Within g r
one_reach flows caller p g q r h k = h.least q r k.closed

-- ---- the sets say what the policy says

pub says_the_same : (checked : CheckedData) (names : List (List ℕ)) (flows : FlowsData) → AreIdentityFlows checked names flows.identities → ArePipelineFlows checked names flows.pipelines
    → IsSet (length checked.pipes) (flows_of checked names).is_executable flows.executable → SaysTheSame (tests_of flows) (flows_of checked names)
says_the_same checked names flows identities pipelines executable = record {
  identities_observe = λ place region. observe place region (cases_lt place (length checked.policy.identities));
  identities_modify = λ place region. modify place region (cases_lt place (length checked.policy.identities));
  pipelines_observe = λ place region. pipe_observe place region (cases_lt place (length checked.pipes));
  pipelines_modify = λ place region. pipe_modify place region (cases_lt place (length checked.pipes));
  executable = executable.same;
}
  where
    observe : (place region : ℕ) → (place < length checked.policy.identities) ⊎ (length checked.policy.identities ≤ place) → (tests_of flows).identity_observes place region ≡ (flows_of checked names).identity_observes place region
    observe place region (inl l) = (identities.each place l).observed.same region
    observe place region (inr g) = none_observed_at flows.identities place region (omega (arith, identities.all)) ∙ sym (identity_sees_none checked names place region g)

    modify : (place region : ℕ) → (place < length checked.policy.identities) ⊎ (length checked.policy.identities ≤ place) → (tests_of flows).identity_modifies place region ≡ (flows_of checked names).identity_modifies place region
    modify place region (inl l) = (identities.each place l).modified.same region
    modify place region (inr g) = none_modified_at flows.identities place region (omega (arith, identities.all)) ∙ sym (identity_changes_none checked names place region g)

    pipe_observe : (place region : ℕ) → (place < length checked.pipes) ⊎ (length checked.pipes ≤ place) → (tests_of flows).pipeline_observes place region ≡ (flows_of checked names).pipeline_observes place region
    pipe_observe place region (inl l) = (pipelines.each place l).observed.same region
    pipe_observe place region (inr g) = none_observed_at flows.pipelines place region (omega (arith, pipelines.all)) ∙ sym (pipeline_sees_none checked names place region g)

    pipe_modify : (place region : ℕ) → (place < length checked.pipes) ⊎ (length checked.pipes ≤ place) → (tests_of flows).pipeline_modifies place region ≡ (flows_of checked names).pipeline_modifies place region
    pipe_modify place region (inl l) = (pipelines.each place l).modified.same region
    pipe_modify place region (inr g) = none_modified_at flows.pipelines place region (omega (arith, pipelines.all)) ∙ sym (pipeline_changes_none checked names place region g)

-- ---- laws of a policy's flows

module _ (checked : CheckedData) (names : List (List ℕ)) where
  -- a pipeline observes what it modifies, a region with a quota too
  pub observes_where_it_modifies : (pipeline region : ℕ) → (flows_of checked names).pipeline_modifies pipeline region ≡ true → (flows_of checked names).pipeline_observes pipeline region ≡ true
  observes_where_it_modifies pipeline region t = by_pipe (slice_get_cases checked.pipes pipeline).1
    where
      by_pipe : ((pipe : Tree) × (pipeline < length checked.pipes) × (slice_get checked.pipes pipeline ≡ Some pipe) × (get_or checked.pipes pipeline pipe ≡ pipe)) ⊎ ((length checked.pipes ≤ pipeline) × (slice_get checked.pipes pipeline ≡ None))
          → (flows_of checked names).pipeline_observes pipeline region ≡ true
      by_pipe (inl (pipe, within, e, same)) =
          let modifies : at_place (pipe_modifies checked names pipe) names region ≡ true = sym (pipe_modifies_at checked names pipeline pipe e region) ∙ t in
          pipe_observes_at checked names pipeline pipe e region ∙ at_weaker (pipe_modifies checked names pipe) (pipe_observes checked names pipe) (λ name m. pipeline_observes_what_it_modifies checked.policy (pipe_tree pipe) name m) names region modifies
      by_pipe (inr (past, none)) = let never : (flows_of checked names).pipeline_modifies pipeline region ≡ false = pipeline_changes_none checked names pipeline region past in absurd (cc)

  module _ (place : ℕ) (identity : Identity) (e : slice_get checked.policy.identities place ≡ Some identity) where
    -- an identity observes and modifies by its own word
    pub observes_by_word : (region : ℕ) → at_place (own_observes checked identity) names region ≡ true → (flows_of checked names).identity_observes place region ≡ true
    observes_by_word region t = sym (identity_sees checked names place identity e region) ∙ or_left (at_place (own_observes checked identity) names region) _ t

    pub modifies_by_word : (region : ℕ) → at_place (own_modifies identity) names region ≡ true → (flows_of checked names).identity_modifies place region ≡ true
    modifies_by_word region t = sym (identity_changes checked names place identity e region) ∙ or_left (at_place (own_modifies identity) names region) _ t

    -- and by each pipeline that it may execute, which is then executable
    module _ (pipeline : ℕ) (pipe : Tree) (f : slice_get checked.pipes pipeline ≡ Some pipe) (runs : rights.may_run identity (pipe_tree pipe) ≡ true) where
      pub runs_executable : (flows_of checked names).is_executable pipeline ≡ true
      runs_executable = sym (executable_at checked names pipeline pipe f) ∙ any_at (λ (i : Identity). rights.may_run i (pipe_tree pipe)) checked.policy.identities place identity e runs

      pub observes_by_pipeline : (region : ℕ) → (flows_of checked names).pipeline_observes pipeline region ≡ true → (flows_of checked names).identity_observes place region ≡ true
      observes_by_pipeline region t =
          let does : (rights.may_run identity (pipe_tree pipe) && at_place (pipe_observes checked names pipe) names region) ≡ true = ap (λ b. b && at_place (pipe_observes checked names pipe) names region) runs ∙ sym (pipe_observes_at checked names pipeline pipe f region) ∙ t in
          sym (identity_sees checked names place identity e region)
          ∙ or_right (at_place (own_observes checked identity) names region) _ (any_at (λ p. piped checked names (pipe_observes checked names) identity p region) checked.pipes pipeline pipe f does)

      pub modifies_by_pipeline : (region : ℕ) → (flows_of checked names).pipeline_modifies pipeline region ≡ true → (flows_of checked names).identity_modifies place region ≡ true
      modifies_by_pipeline region t =
          let does : (rights.may_run identity (pipe_tree pipe) && at_place (pipe_modifies checked names pipe) names region) ≡ true = ap (λ b. b && at_place (pipe_modifies checked names pipe) names region) runs ∙ sym (pipe_modifies_at checked names pipeline pipe f region) ∙ t in
          sym (identity_changes checked names place identity e region)
          ∙ or_right (at_place (own_modifies identity) names region) _ (any_at (λ p. piped checked names (pipe_modifies checked names) identity p region) checked.pipes pipeline pipe f does)

  -- the reach of a number that is no identity is that number, and no region
  pub reach_of_nobody : (caller : ℕ) → length checked.policy.identities ≤ caller → IsReach (flows_of checked names) caller (λ place. eqb place caller) (λ region. false)
  reach_of_nobody caller g = record {
    closed = record {
      itself = eq-eqb caller caller refl;
      observed = λ region t. sym (identity_sees_none checked names caller region g) ∙ t;
      led = λ pipeline changed runs modifies there. (let never : false ≡ true = there in absurd (cc));
      modified = λ identity changed modifies there. (let never : false ≡ true = there in absurd (cc));
    };
    least = λ p r h. ((λ place t. ap p (eqb-true place caller t) ∙ h.itself), (λ region t. (let never : false ≡ true = t in absurd (cc))));
  }
