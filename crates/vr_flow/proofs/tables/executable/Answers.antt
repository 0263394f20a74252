-- One pipeline more.
use Rattle.std.proofs.Common.{◌≤◌, length, arith, ◌∙◌, subst, ℕ}
use Rattle.vr_rights.proofs.CollectLemmas.{tree_each}
use Rattle.vr_flow.specs.Flows.{flows_of}
use Rattle.vr_flow.specs.Places.{IsSet, nowhere, below, just}
use Rattle.vr_flow.proofs.PolicyLemmas.{never_executable}
use Rattle.vr_flow.proofs.SetLemmas.{set_adds, set_same, room_below, below_none, below_next, below_all}
use Rattle.vr_flow.proofs.tables.executable.Goals as goal

pub loop-pipeline-init : goal.loop-pipeline-init
loop-pipeline-init c =
    let checked = c.args.policy.now in
    let tests = (flows_of checked c.args.regions.now.names).is_executable in
    let many = tree_each checked _ c.as_slice.result.now c.policy.ensures.checked (c.behind-policy.view_is ∙ c.policy.ensures.policy) c.as_slice.ensures in
    let none : IsSet (length checked.pipes) nowhere c.in_ok-found.found = subst (λ (n : ℕ). IsSet n nowhere c.in_ok-found.found) many c.in_ok-found.ensures in
    set_same (length checked.pipes) nowhere _ c.in_ok-found.found none (below_none tests)

pub put-requires : goal.put-requires
put-requires c =
    let checked = c.args.policy.now in
    let many = tree_each checked _ c.as_slice.result.now c.policy.ensures.checked (c.behind-policy.view_is ∙ c.policy.ensures.policy) c.as_slice.ensures in
    room_below (length checked.pipes) c.loop-pipeline.pipeline _ c.loop-pipeline.found c.loop-pipeline.invariant (omega (arith, many, c.loop-pipeline-test.true))

pub loop-pipeline-preserved : goal.loop-pipeline-preserved
loop-pipeline-preserved c =
    let checked = c.args.policy.now in
    let tests = (flows_of checked c.args.regions.now.names).is_executable in
    let pipeline = c.loop-pipeline.pipeline in
    set_adds (length checked.pipes) (below pipeline tests) (just pipeline c.is_executable.result) _ c.loop-pipeline.found c.put.new.self c.loop-pipeline.invariant c.put.ensures
    (below_next pipeline tests c.is_executable.result c.is_executable.ensures)

pub returns : goal.returns
returns c =
    let checked = c.args.policy.now in
    let names = c.args.regions.now.names in
    let many = tree_each checked _ c.as_slice.result.now c.policy.ensures.checked (c.behind-policy.view_is ∙ c.policy.ensures.policy) c.as_slice.ensures in
    let past : length checked.pipes ≤ c.loop-pipeline.pipeline = omega (arith, many, c.loop-pipeline-test.false) in
    set_same (length checked.pipes) (below c.loop-pipeline.pipeline (flows_of checked names).is_executable) _ c.loop-pipeline.found c.loop-pipeline.invariant
    (below_all c.loop-pipeline.pipeline (flows_of checked names).is_executable (λ place g. never_executable checked names place (omega arith)))
