-- One identity more.
use Rattle.std.proofs.Common.{◌≡◌, ℕ, length, arith, ◌∙◌, subst}
use Rattle.vr_flow.specs.Flows.{AreFlows, flows_of}
use Rattle.vr_flow.proofs.PolicyLemmas.{identity_count}
use Rattle.vr_flow.proofs.TableLemmas.{flows_push}
use Rattle.vr_flow.proofs.tables.identity_flows.Goals as goal

pub identity_flow-requires-clause-identity : goal.identity_flow-requires-clause-identity
identity_flow-requires-clause-identity c =
    let many = identity_count c.args.policy.now _ c.as_slice-count.result.now (c.behind-policy.view_is ∙ c.policy.ensures.policy) c.as_slice-count.ensures in
    omega (arith, many, c.loop-place-test.true)

pub loop-place-preserved : goal.loop-place-preserved
loop-place-preserved c =
    let names = c.args.regions.now.names in
    let tests = flows_of c.args.policy.now names in
    rw c.in_ok-push.ensures.items (flows_push c.loop-place.place (length names) tests.identity_observes tests.identity_modifies c.loop-place.flows.items c.in_ok-identity_flow.field-0 c.loop-place.invariant c.in_ok-identity_flow.ensures)

pub returns-clause-flows : goal.returns-clause-flows
returns-clause-flows c =
    let checked = c.args.policy.now in
    let names = c.args.regions.now.names in
    let tests = flows_of checked names in
    let many = identity_count checked _ c.as_slice-count.result.now (c.behind-policy.view_is ∙ c.policy.ensures.policy) c.as_slice-count.ensures in
    let all : c.loop-place.place ≡ length checked.policy.identities = omega (arith, many, c.loop-place-test.false) in
    subst (λ (n : ℕ). AreFlows n (length names) tests.identity_observes tests.identity_modifies c.loop-place.flows.items) all c.loop-place.invariant

pub returns-clause-few : goal.returns-clause-few
returns-clause-few c = omega (arith, c.policy.ensures.checked.limits.identities)
