-- The places of one more pipeline's programs, until none is left.
use Rattle.std.proofs.Common.{◌≡◌, ◌<◌, ◌≤◌, ◌+◌, ◌∷◌, [], ◌++◌, length, take, take_all, All, Contains, ◌∙◌, ap, get_or, subst, arith}
use Rattle.std.proofs.lemmas.List.{take_more}
use Rattle.std.proofs.lemmas.Option.{get_or_from_slice_get}
use Rattle.vr_pipe.specs.declared.trees.Tree.{Tree}
use Rattle.vr_pipe.specs.Trees.{pipe_tree, programs_of}
use Rattle.vr_rights.specs.Kept.{ArePlaces}
use Rattle.vr_rights.proofs.CollectLemmas.{tree_each}
use Rattle.vr_rights.proofs.ZipLemmas.{zip_push}
use Rattle.vr_rights.proofs.regions.program_places.Goals as goal

pub places_of-requires : goal.places_of-requires
places_of-requires c =
    let pipes = c.args.policy.now.pipes in
    let place = c.loop-place.place in
    let pipe = c.pipe-pipe.result.now in
    let many = tree_each c.args.policy.now _ c.as_slice-count.result.now c.policy.ensures.checked (c.behind-policy.view_is ∙ c.policy.ensures.policy) c.as_slice-count.ensures in
    let within : place < length pipes = omega (arith, many, c.loop-place-test.true) in
    let is : get_or pipes place pipe ≡ pipe = get_or_from_slice_get pipes place pipe pipe c.pipe-pipe.ensures.tree in
    rw c.programs.ensures (subst (λ (p : Tree). All (Contains c.args.names.now) (programs_of (pipe_tree p))) is (c.requires place pipe within))

pub loop-place-preserved : goal.loop-place-preserved
loop-place-preserved c =
    let pipes = c.args.policy.now.pipes in
    let place = c.loop-place.place in
    let pipe = c.pipe-pipe.result.now in
    let many = tree_each c.args.policy.now _ c.as_slice-count.result.now c.policy.ensures.checked (c.behind-policy.view_is ∙ c.policy.ensures.policy) c.as_slice-count.ensures in
    let within : place < length pipes = omega (arith, many, c.loop-place-test.true) in
    let is : get_or pipes place pipe ≡ pipe = get_or_from_slice_get pipes place pipe pipe c.pipe-pipe.ensures.tree in
    let more : take (place + 1) pipes ≡ take place pipes ++ pipe ∷ [] = take_more pipes place pipe within ∙ ap (λ p. take place pipes ++ p ∷ []) is in
    let last : ArePlaces c.args.names.now (programs_of (pipe_tree pipe)) c.in_ok-places_of.field-0.items = rw c.programs.ensures at c.in_ok-places_of.ensures in
    rw (more, c.in_ok-push.ensures.items) (zip_push _ (take place pipes) c.loop-place.all.items pipe c.in_ok-places_of.field-0 c.loop-place.invariant last)

pub returns : goal.returns
returns c =
    let pipes = c.args.policy.now.pipes in
    let many = tree_each c.args.policy.now _ c.as_slice-count.result.now c.policy.ensures.checked (c.behind-policy.view_is ∙ c.policy.ensures.policy) c.as_slice-count.ensures in
    let none_left : length pipes ≤ c.loop-place.place = omega (arith, many, c.loop-place-test.false) in
    rw take_all at c.loop-place.invariant
