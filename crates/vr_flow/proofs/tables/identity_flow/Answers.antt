-- One pipeline more.
use Rattle.std.proofs.Common.{◌≡◌, ◌<◌, ◌≤◌, ◌||◌, ◌&&◌, List, length, take_all, arith, sym, ◌∙◌, ap}
use Rattle.std.specs.List.{list_any}
use Rattle.vr_pipe.specs.declared.trees.Tree.{Tree}
use Rattle.vr_pipe.specs.Trees.{pipe_tree}
use Rattle.vr_rights.specs.Flows.{may_run}
use Rattle.vr_rights.specs.declared.regions.Holder.TheVariants.{Identity}
use Rattle.vr_rights.proofs.CallLemmas.{has_entry}
use Rattle.vr_rights.proofs.CollectLemmas.{tree_each}
use Rattle.vr_flow.specs.declared.flow.Flow.{Flow}
use Rattle.vr_flow.specs.Flows.{flow_at}
use Rattle.vr_flow.specs.Holders.{observed_by_words, modified_by_words}
use Rattle.vr_flow.specs.Places.{has_place}
use Rattle.vr_flow.proofs.LoopLemmas.{flow_read}
use Rattle.vr_flow.proofs.PolicyLemmas.{pipe_there, identity_at, identity_there, identity_observed, identity_modified, piped, pipe_observes, pipe_modifies, identity_sees, identity_changes, pipe_observes_at, pipe_modifies_at}
use Rattle.vr_flow.proofs.SetLemmas.{set_same}
use Rattle.vr_flow.proofs.TableLemmas.{any_next}
use Rattle.vr_flow.proofs.tables.identity_flow.Goals as goal

pub bounds-pipelines-place : goal.bounds-pipelines-place
bounds-pipelines-place c =
    let many = tree_each c.args.policy.now _ c.as_slice-count.result.now c.policy.ensures.checked (c.behind-policy.view_is ∙ c.policy.ensures.policy) c.as_slice-count.ensures in
    omega (arith, many, c.requires.pipelines.all, c.loop-place-test.true)

pub may_run-requires : goal.may_run-requires
may_run-requires c =
    let checked = c.args.policy.now in
    let many = tree_each checked _ c.as_slice-count.result.now c.policy.ensures.checked (c.behind-policy.view_is ∙ c.policy.ensures.policy) c.as_slice-count.ensures in
    has_entry checked c.args.regions.now c.requires.regions c.args.identity c.loop-place.place (identity_at checked c.args.identity) (identity_there checked c.args.identity c.requires.identity) (omega (arith, many, c.loop-place-test.true))

pub add-requires-clause-observed : goal.add-requires-clause-observed
add-requires-clause-observed c =
    let many = tree_each c.args.policy.now _ c.as_slice-count.result.now c.policy.ensures.checked (c.behind-policy.view_is ∙ c.policy.ensures.policy) c.as_slice-count.ensures in
    let place = c.loop-place.place in
    let within : place < length c.args.pipelines.now = omega (arith, many, c.requires.pipelines.all, c.loop-place-test.true) in
    let flow = flow_read c.args.pipelines.now place c.index-pipelines-place.result within c.index-pipelines-place.is in
    let table = c.requires.pipelines.each place (omega (arith, c.requires.pipelines.all)) in
    ap (λ (f : Flow). length f.observed) flow ∙ table.observed.room ∙ sym c.loop-place.invariant.observed.room

pub add-requires-clause-modified : goal.add-requires-clause-modified
add-requires-clause-modified c =
    let many = tree_each c.args.policy.now _ c.as_slice-count.result.now c.policy.ensures.checked (c.behind-policy.view_is ∙ c.policy.ensures.policy) c.as_slice-count.ensures in
    let place = c.loop-place.place in
    let within : place < length c.args.pipelines.now = omega (arith, many, c.requires.pipelines.all, c.loop-place-test.true) in
    let flow = flow_read c.args.pipelines.now place c.index-pipelines-place.result within c.index-pipelines-place.is in
    let table = c.requires.pipelines.each place (omega (arith, c.requires.pipelines.all)) in
    ap (λ (f : Flow). length f.modified) flow ∙ table.modified.room ∙ sym c.loop-place.invariant.modified.room

pub loop-place-preserved : goal.loop-place-preserved
loop-place-preserved c =
    let checked = c.args.policy.now in
    let regions = c.args.regions.now in
    let names = regions.names in
    let count = length names in
    let place = c.loop-place.place in
    let many = tree_each checked _ c.as_slice-count.result.now c.policy.ensures.checked (c.behind-policy.view_is ∙ c.policy.ensures.policy) c.as_slice-count.ensures in
    let there = pipe_there checked place (omega (arith, many, c.loop-place-test.true)) in
    let pipe = there.0 in
    let listed = identity_at checked c.args.identity in
    let runs : c.may_run.result ≡ may_run listed (pipe_tree pipe) = c.may_run.ensures checked listed pipe c.requires.regions (identity_there checked c.args.identity c.requires.identity) there.1 in
    let within : place < length c.args.pipelines.now = omega (arith, many, c.requires.pipelines.all, c.loop-place-test.true) in
    let flow : c.index-pipelines-place.result ≡ flow_at c.args.pipelines.now place = flow_read c.args.pipelines.now place c.index-pipelines-place.result within c.index-pipelines-place.is in
    let table = c.requires.pipelines.each place (omega (arith, c.requires.pipelines.all)) in
    record {
      observed = any_next count (observed_by_words regions (Identity c.args.identity)) (λ p region. piped checked names (pipe_observes checked names) listed p region) checked.pipes place pipe c.may_run.result
          c.index-pipelines-place.result.observed c.loop-place.flow.observed c.add.new.self.observed there.1 c.loop-place.invariant.observed c.add.ensures.observed
          (λ r. ap (λ t. t && has_place c.index-pipelines-place.result.observed r) runs ∙ ap (λ (f : Flow). may_run listed (pipe_tree pipe) && has_place f.observed r) flow
          ∙ ap (λ t. may_run listed (pipe_tree pipe) && t) (table.observed.same r ∙ pipe_observes_at checked names place pipe there.1 r));
      modified = any_next count (modified_by_words regions (Identity c.args.identity)) (λ p region. piped checked names (pipe_modifies checked names) listed p region) checked.pipes place pipe c.may_run.result
          c.index-pipelines-place.result.modified c.loop-place.flow.modified c.add.new.self.modified there.1 c.loop-place.invariant.modified c.add.ensures.modified
          (λ r. ap (λ t. t && has_place c.index-pipelines-place.result.modified r) runs ∙ ap (λ (f : Flow). may_run listed (pipe_tree pipe) && has_place f.modified r) flow
          ∙ ap (λ t. may_run listed (pipe_tree pipe) && t) (table.modified.same r ∙ pipe_modifies_at checked names place pipe there.1 r));
    }

pub returns : goal.returns
returns c =
    let checked = c.args.policy.now in
    let regions = c.args.regions.now in
    let names = regions.names in
    let count = length names in
    let place = c.loop-place.place in
    let identity = c.args.identity in
    let many = tree_each checked _ c.as_slice-count.result.now c.policy.ensures.checked (c.behind-policy.view_is ∙ c.policy.ensures.policy) c.as_slice-count.ensures in
    let past : length checked.pipes ≤ place = omega (arith, many, c.loop-place-test.false) in
    let all = take_all place checked.pipes past in
    let listed = identity_at checked identity in
    let there = identity_there checked identity c.requires.identity in
    record {
      observed = set_same count _ _ c.loop-place.flow.observed c.loop-place.invariant.observed
          (λ r. ap (λ (ps : List Tree). observed_by_words regions (Identity identity) r || list_any (λ pipe. piped checked names (pipe_observes checked names) listed pipe r) ps) all
          ∙ ap (λ t. t || list_any (λ pipe. piped checked names (pipe_observes checked names) listed pipe r) checked.pipes) (identity_observed checked regions c.requires.regions identity listed there r)
          ∙ identity_sees checked names identity listed there r);
      modified = set_same count _ _ c.loop-place.flow.modified c.loop-place.invariant.modified
          (λ r. ap (λ (ps : List Tree). modified_by_words regions (Identity identity) r || list_any (λ pipe. piped checked names (pipe_modifies checked names) listed pipe r) ps) all
          ∙ ap (λ t. t || list_any (λ pipe. piped checked names (pipe_modifies checked names) listed pipe r) checked.pipes) (identity_modified checked regions c.requires.regions identity listed there r)
          ∙ identity_changes checked names identity listed there r);
    }
