-- One pipeline more.
use Rattle.std.proofs.Common.{◌≡◌, ℕ, length, arith, ◌∙◌, subst}
use Rattle.vr_policy_check.proofs.CheckedLemmas.{as_many_trees}
use Rattle.vr_rights.proofs.CollectLemmas.{tree_each}
use Rattle.vr_flow.specs.Flows.{AreFlows, flows_of}
use Rattle.vr_flow.proofs.TableLemmas.{flows_push}
use Rattle.vr_flow.proofs.tables.pipeline_flows.Goals as goal

pub loop-place-preserved : goal.loop-place-preserved
loop-place-preserved c =
    let names = c.args.regions.now.names in
    let tests = flows_of c.args.policy.now names in
    rw c.in_ok-push.ensures.items (flows_push c.loop-place.place (length names) tests.pipeline_observes tests.pipeline_modifies c.loop-place.flows.items c.in_ok-pipeline_flow.field-0 c.loop-place.invariant c.in_ok-pipeline_flow.ensures)

pub returns-clause-flows : goal.returns-clause-flows
returns-clause-flows c =
    let checked = c.args.policy.now in
    let names = c.args.regions.now.names in
    let tests = flows_of checked names in
    let many = tree_each checked _ c.as_slice-count.result.now c.policy-2.ensures.checked (c.behind-policy-2.view_is ∙ c.policy-2.ensures.policy) c.as_slice-count.ensures in
    let all : c.loop-place.place ≡ length checked.pipes = omega (arith, many, c.loop-place-test.false) in
    subst (λ (n : ℕ). AreFlows n (length names) tests.pipeline_observes tests.pipeline_modifies c.loop-place.flows.items) all c.loop-place.invariant

pub returns-clause-few : goal.returns-clause-few
returns-clause-few c = omega (arith, as_many_trees c.args.policy.now c.policy.ensures.checked, c.policy.ensures.checked.limits.pipelines)
