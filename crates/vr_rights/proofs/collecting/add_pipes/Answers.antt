-- The programs and tests of one more pipeline, until none is left.
use Rattle.std.proofs.Common.{◌<◌, ◌≤◌, ◌++◌, length, take_all, arith, ap, ◌∙◌}
use Rattle.std.proofs.lemmas.List.{map-id}
use Rattle.vr_rights.specs.Tables.{names_of_pipes}
use Rattle.vr_rights.proofs.CollectLemmas.{one_more_pipe, tree_each}
use Rattle.vr_rights.proofs.collecting.add_pipes.Goals as goal

pub loop-place-preserved : goal.loop-place-preserved
loop-place-preserved c =
    let pipes = c.args.policy.now.pipes in
    let many = tree_each c.args.policy.now _ c.as_slice-count.result.now c.policy.ensures.checked (c.behind-policy.view_is ∙ c.policy.ensures.policy) c.as_slice-count.ensures in
    let within : c.loop-place.place < length pipes = omega (arith, many, c.loop-place-test.true) in
    one_more_pipe _ c.loop-place.names.items c.add_names.new.names.items c.add_names-in-loop-place.new.names.items pipes c.loop-place.place c.pipe-pipe.result.now within c.pipe-pipe.ensures.tree
    c.loop-place.invariant
    (c.in_ok-add_names.ensures ∙ ap (λ ps. c.loop-place.names.items ++ ps) (map-id c.programs.result.now ∙ c.programs.ensures))
    (c.in_ok-add_names-2.ensures ∙ ap (λ ps. c.add_names.new.names.items ++ ps) (map-id c.tests.result.now ∙ c.tests.ensures))

pub returns : goal.returns
returns c =
    let pipes = c.args.policy.now.pipes in
    let many = tree_each c.args.policy.now _ c.as_slice-count.result.now c.policy.ensures.checked (c.behind-policy.view_is ∙ c.policy.ensures.policy) c.as_slice-count.ensures in
    let none_left : length pipes ≤ c.loop-place.place = omega (arith, many, c.loop-place-test.false) in
    c.loop-place.invariant ∙ ap (λ ps. c.args.names.now.items ++ names_of_pipes ps) (take_all c.loop-place.place pipes none_left)
