-- One line more.
use Rattle.std.proofs.Common.{◌≡◌, ℕ, length, List, Some, slice_get, refl, ◌∙◌, subst}
use Rattle.std.proofs.lemmas.Option.{slice_get_read}
use Rattle.vr_policy_read.specs.declared.entries.Identity.{Identity}
use Rattle.vr_flow.specs.Flows.{tests_of, flows_of}
use Rattle.vr_flow.specs.Places.{has_place}
use Rattle.vr_flow.specs.Reach.{IsReachOf}
use Rattle.vr_flow.proofs.ReachLemmas.{reach_same}
use Rattle.vr_report.proofs.FlowLines.{identity_list, no_lines, line_more}
use Rattle.vr_report.proofs.flows.write_flows.Goals as goal

pub loop-place-init : goal.loop-place-init
loop-place-init c = rw c.new-text.ensures (no_lines c.args.policy.now c.args.regions.now.names)

pub loop-place-preserved : goal.loop-place-preserved
loop-place-preserved c =
    let checked = c.args.policy.now in
    let names = c.args.regions.now.names in
    let place : ℕ = c.loop-place.place in
    let identity = c.index-identities-place.result in
    let listed = c.as_slice-identities.result.now in
    let same = identity_list checked _ listed (c.behind-policy.view_is ∙ c.policy.ensures.policy) c.as_slice-identities.ensures in
    let here : slice_get checked.policy.identities place ≡ Some identity =
    subst (λ (is : List Identity). slice_get is place ≡ Some identity) same (slice_get_read listed (length listed) place identity refl c.loop-place-test.true c.index-identities-place.is) in
    let reach = c.in_ok-reach.reach in
    let is : IsReachOf (flows_of checked names) place reach =
    reach_same (tests_of c.args.flows.now) (flows_of checked names) place (has_place reach.identities) (has_place reach.regions) c.requires.same c.in_ok-reach.ensures in
    line_more checked names place c.loop-place.text c.in_ok-text.text identity reach c.loop-place.invariant here is (rw same at c.in_ok-text.ensures)
