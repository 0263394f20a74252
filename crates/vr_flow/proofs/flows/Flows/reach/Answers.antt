-- The reach of an identity, by the flows.
use Rattle.std.proofs.Common.{◌≡◌, ◌<◌, ℕ, List, length, sym, subst}
use Rattle.vr_flow.specs.declared.flow.Flow.{Flow}
use Rattle.vr_flow.specs.Closing.{AreLed, Closes, IsObserved, AreModifiers}
use Rattle.vr_flow.specs.Flows.{FlowsData, tests_of, flow_at}
use Rattle.vr_flow.specs.Places.{has_place}
use Rattle.vr_flow.specs.Reach.{IsReach}
use Rattle.vr_flow.proofs.ClosingLemmas.{is_reach}
use Rattle.vr_flow.proofs.LoopLemmas.{flow_read}
use Rattle.vr_flow.proofs.flows.Flows.reach.Goals as goal

pub returns : goal.returns
returns c =
    let inside = c.self.inside in
    let identity = c.args.identity in
    let identities = inside.identities.items in
    let pipelines = inside.pipelines.items in
    let flows : FlowsData = record { identities = identities; pipelines = pipelines; executable = inside.executable } in
    let start = c.in_ok-led.led in
    let led = c.close.new.led in
    let regions = c.in_ok-regions.regions in
    let found = c.in_ok-identities.identities in
    let within : identity < length identities = subst (λ (f : FlowsData). identity < length f.identities) (sym c.self.view_is) c.requires in
    let caller : c.index-caller.result.now ≡ flow_at identities identity = flow_read identities identity c.index-caller.result.now within c.index-caller.ensures in
    let starts : AreLed pipelines inside.executable (flow_at identities identity).observed start =
    subst (λ (f : Flow). AreLed pipelines inside.executable f.observed start) caller (subst (λ ps. AreLed ps inside.executable c.index-caller.result.now.observed start) c.deref.ensures.value c.in_ok-led.ensures) in
    let closes : Closes inside.leads.items start led = subst (λ leads. Closes leads start led) c.deref-2.ensures.value c.in_ok-close.ensures.closes in
    let observed : IsObserved pipelines (flow_at identities identity).observed led regions =
    subst (λ (f : Flow). IsObserved pipelines f.observed led regions) caller (subst (λ ps. IsObserved ps c.index-caller.result.now.observed led regions) c.deref-3.ensures.value c.in_ok-regions.ensures) in
    let modified : AreModifiers identities identity regions found = subst (λ fs. AreModifiers fs identity regions found) c.deref-4.ensures.value c.in_ok-identities.ensures in
    let reached : IsReach (tests_of flows) identity (has_place found) (has_place regions) = is_reach flows identity inside.leads.items start led regions found c.self.invariant.leads_are starts closes observed modified in
    let seen = subst (λ (f : FlowsData). IsReach (tests_of f) identity (has_place found) (has_place regions)) c.self.view_is reached in
    subst (λ (s : List ℕ). IsReach (tests_of c.args.self.now) identity (has_place s) (has_place c.new.result.regions)) (sym c.new.ensures.identities)
    (subst (λ (s : List ℕ). IsReach (tests_of c.args.self.now) identity (has_place found) (has_place s)) (sym c.new.ensures.regions) seen)
