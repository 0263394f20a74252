-- Which pipelines are led to, one after the other.
use Rattle.std.proofs.Common.{◌≡◌, ℕ, ◌<◌, ◌≤◌, Bool, true, false, List, [], length, ◌∙◌, ap, subst, ◌⊎◌, inl, inr}
use Rattle.std.proofs.lemmas.Bool.{cases_lt}
use Rattle.std.proofs.lemmas.List.{get_or_past}
use Rattle.vr_flow.specs.declared.flow.Flow.{Flow}
use Rattle.vr_flow.specs.Closing.{set_at, AreLed, AreLeads, Reached, first, next, Closes, IsObserved, AreModifiers}
use Rattle.vr_flow.specs.Flows.{FlowsData, tests_of, flow_at, observed_at, modified_at}
use Rattle.vr_flow.specs.Places.{has_place, Meet, Within}
use Rattle.vr_flow.specs.Reach.{IsClosed, IsReach}
use Rattle.vr_flow.proofs.PlaceLemmas.{empty_set}

-- ---- past the end is nothing

pub no_set_at : (sets : List (List ℕ)) (place other : ℕ) → length sets ≤ place → has_place (set_at sets place) other ≡ false
no_set_at sets place other g = ap (λ s. has_place s other) (get_or_past sets place [] g) ∙ empty_set other

pub none_observed_at : (flows : List Flow) (place region : ℕ) → length flows ≤ place → observed_at flows place region ≡ false
none_observed_at flows place region g = ap (λ (f : Flow). has_place f.observed region) (get_or_past flows place (record { observed = []; modified = [] }) g) ∙ empty_set region

pub none_modified_at : (flows : List Flow) (place region : ℕ) → length flows ≤ place → modified_at flows place region ≡ false
none_modified_at flows place region g = ap (λ (f : Flow). has_place f.modified region) (get_or_past flows place (record { observed = []; modified = [] }) g) ∙ empty_set region

-- what is at a place that has something
pub is_within : (sets : List (List ℕ)) (place other : ℕ) → has_place (set_at sets place) other ≡ true → place < length sets
is_within sets place other t = by_cases (cases_lt place (length sets))
  where
    by_cases : (place < length sets) ⊎ (length sets ≤ place) → place < length sets
    by_cases (inl l) = l
    by_cases (inr g) = let none : has_place (set_at sets place) other ≡ false = no_set_at sets place other g in cc

pub is_listed : (flows : List Flow) (place region : ℕ) → observed_at flows place region ≡ true → place < length flows
is_listed flows place region t = by_cases (cases_lt place (length flows))
  where
    by_cases : (place < length flows) ⊎ (length flows ≤ place) → place < length flows
    by_cases (inl l) = l
    by_cases (inr g) = let none : observed_at flows place region ≡ false = none_observed_at flows place region g in cc

-- ---- the reach

module _ (flows : FlowsData) (caller : ℕ) (leads : List (List ℕ)) (start led : List ℕ) (regions identities : List ℕ)
    (are_leads : AreLeads flows.pipelines flows.executable leads)
    (starts : AreLed flows.pipelines flows.executable (flow_at flows.identities caller).observed start)
    (closes : Closes leads start led)
    (observed : IsObserved flows.pipelines (flow_at flows.identities caller).observed led regions)
    (modified : AreModifiers flows.identities caller regions identities) where
  -- an executable pipeline that modifies a region is led to
  leads_on : (pipeline changed : ℕ) → has_place flows.executable pipeline ≡ true → modified_at flows.pipelines pipeline changed ≡ true → has_place regions changed ≡ true → has_place led pipeline ≡ true
  leads_on pipeline changed runs modifies there = by_cases (observed.only changed there)
    where
      by_cases : (has_place (flow_at flows.identities caller).observed changed ≡ true) ⊎ ((place : ℕ) × (has_place led place ≡ true) × (observed_at flows.pipelines place changed ≡ true)) → has_place led pipeline ≡ true
      by_cases (inl at_first) = closes.kept pipeline (starts.all pipeline runs (changed, modifies, at_first))
      by_cases (inr (place, is_led, observes)) =
          let within : place < length flows.pipelines = is_listed flows.pipelines place changed observes in
          closes.closed place is_led pipeline ((are_leads.each place within).all pipeline runs (changed, modifies, observes))

  is_closed : IsClosed (tests_of flows) caller (has_place identities) (has_place regions)
  is_closed = record {
    itself = modified.itself;
    observed = observed.at_first;
    led = λ pipeline changed runs modifies there. observed.by_led pipeline (leads_on pipeline changed runs modifies there);
    modified = λ identity changed modifies there. modified.all identity (changed, modifies, there);
  }

  -- what a pipeline observes that is reached is in each closed pair
  reached_within : (p g : ℕ → Bool) → IsClosed (tests_of flows) caller p g → (pipeline : ℕ) → Reached start leads pipeline → Within (observed_at flows.pipelines pipeline) g
  reached_within p g h _ (first pipeline is_first) =
      let only = starts.only pipeline is_first in
      h.led pipeline only.1.0 only.0 only.1.1 (h.observed only.1.0 only.1.2)
  reached_within p g h _ (next place other reached leads_to) =
      let within : place < length flows.pipelines = subst (λ n. place < n) are_leads.every (is_within leads place other leads_to) in
      let only = (are_leads.each place within).only other leads_to in
      h.led other only.1.0 only.0 only.1.1 (reached_within p g h place reached only.1.0 only.1.2)

  regions_within : (p g : ℕ → Bool) → IsClosed (tests_of flows) caller p g → Within (has_place regions) g
  regions_within p g h region there = by_cases (observed.only region there)
    where
      by_cases : (has_place (flow_at flows.identities caller).observed region ≡ true) ⊎ ((place : ℕ) × (has_place led place ≡ true) × (observed_at flows.pipelines place region ≡ true)) → g region ≡ true
      by_cases (inl at_first) = h.observed region at_first
      by_cases (inr (place, is_led, observes)) = reached_within p g h place (closes.least place is_led) region observes

  identities_within : (p g : ℕ → Bool) → IsClosed (tests_of flows) caller p g → Within (has_place identities) p
  identities_within p g h identity there = by_cases (modified.only identity there)
    where
      by_cases : (identity ≡ caller) ⊎ Meet (flow_at flows.identities identity).modified regions → p identity ≡ true
      by_cases (inl same) = ap p same ∙ h.itself
      by_cases (inr (changed, modifies, is_in)) = h.modified identity changed modifies (regions_within p g h changed is_in)

  pub is_reach : IsReach (tests_of flows) caller (has_place identities) (has_place regions)
  is_reach = record { closed = is_closed; least = λ p g h. (identities_within p g h, regions_within p g h) }
