-- One program more.
use Rattle.std.proofs.Common.{◌≡◌, ◌<◌, ◌≤◌, ◌||◌, ◌&&◌, List, length, take_all, All, Contains, Some, slice_get, arith, refl, sym, ◌∙◌, ap, subst}
use Rattle.std.specs.List.{list_any}
use Rattle.std.proofs.lemmas.Option.{slice_get_read}
use Rattle.vr_pipe.specs.Trees.{pipe_tree, programs_of}
use Rattle.vr_policy_read.specs.declared.entries.Program.{Program}
use Rattle.vr_rights.specs.Flows.{is_among, program_observes, program_modifies}
use Rattle.vr_flow.specs.declared.flow.Flow.{Flow}
use Rattle.vr_flow.specs.Flows.{IsFlow, flow_at, at_place}
use Rattle.vr_flow.specs.Places.{has_place, nowhere, IsSet, Adds}
use Rattle.vr_flow.proofs.LoopLemmas.{flow_read}
use Rattle.vr_flow.proofs.PolicyLemmas.{pipe_names_at, program_list, names_it, run_does, program_observed, program_modified, pipeline_observed, pipeline_modified}
use Rattle.vr_flow.proofs.SetLemmas.{set_adds, set_same}
use Rattle.vr_flow.proofs.TableLemmas.{any_first, any_next}
use Rattle.vr_flow.proofs.tables.pipeline_flow.Goals as goal

pub add_named-requires-clause-named : goal.add_named-requires-clause-named
add_named-requires-clause-named c =
    let names = c.args.regions.now.names in
    let named = pipe_names_at c.args.policy.now c.args.regions.now c.requires.regions c.args.pipeline c.pipe-pipe.result.now c.pipe-pipe.ensures.tree in
    subst (All (Contains names)) (sym c.programs.ensures) named.0

pub add_named-requires-2-clause-named : goal.add_named-requires-2-clause-named
add_named-requires-2-clause-named c =
    let names = c.args.regions.now.names in
    let named = pipe_names_at c.args.policy.now c.args.regions.now c.requires.regions c.args.pipeline c.pipe-pipe.result.now c.pipe-pipe.ensures.tree in
    subst (All (Contains names)) (sym c.tests.ensures) named.1

pub loop-place-init : goal.loop-place-init
loop-place-init c =
    let checked = c.args.policy.now in
    let names = c.args.regions.now.names in
    let count = length names in
    let pipe = c.pipe-pipe.result.now in
    let flow = c.in_ok-flow.flow in
    let none : IsFlow count nowhere nowhere flow = rw (← c.count.ensures) c.in_ok-flow.ensures in
    let programs = subst (λ ps. Adds (at_place (is_among ps) names) flow.observed c.add_named.new.set) c.programs.ensures c.add_named.ensures in
    let tests = subst (λ ps. Adds (at_place (is_among ps) names) c.add_named.new.set c.add_named-2.new.set) c.tests.ensures c.add_named-2.ensures in
    let first : IsSet count (at_place (is_among (programs_of (pipe_tree pipe))) names) c.add_named.new.set = set_adds count nowhere _ _ flow.observed c.add_named.new.set none.observed programs (λ r. refl) in
    let both : IsSet count (names_it checked names pipe) c.add_named-2.new.set = set_adds count _ _ _ c.add_named.new.set c.add_named-2.new.set first tests (λ r. refl) in
    record {
      observed = any_first count (names_it checked names pipe) (λ program region. run_does checked names program_observes pipe program region) checked.policy.programs _ both;
      modified = any_first count nowhere (λ program region. run_does checked names program_modifies pipe program region) checked.policy.programs flow.modified none.modified;
    }

pub add-requires-clause-observed : goal.add-requires-clause-observed
add-requires-clause-observed c =
    let listed = program_list c.args.policy.now _ c.as_slice-program-items.result.now (c.behind-policy.view_is ∙ c.policy.ensures.policy) c.as_slice-program-items.ensures in
    let place = c.loop-place.place in
    let within : place < length c.args.programs.now = omega (arith, c.requires.programs.all, ap length listed, c.loop-place-test.true) in
    let flow = flow_read c.args.programs.now place c.index-programs-place.result within c.index-programs-place.is in
    let table = c.requires.programs.each place (omega (arith, c.requires.programs.all)) in
    ap (λ (f : Flow). length f.observed) flow ∙ table.observed.room ∙ sym c.loop-place.invariant.observed.room

pub add-requires-clause-modified : goal.add-requires-clause-modified
add-requires-clause-modified c =
    let listed = program_list c.args.policy.now _ c.as_slice-program-items.result.now (c.behind-policy.view_is ∙ c.policy.ensures.policy) c.as_slice-program-items.ensures in
    let place = c.loop-place.place in
    let within : place < length c.args.programs.now = omega (arith, c.requires.programs.all, ap length listed, c.loop-place-test.true) in
    let flow = flow_read c.args.programs.now place c.index-programs-place.result within c.index-programs-place.is in
    let table = c.requires.programs.each place (omega (arith, c.requires.programs.all)) in
    ap (λ (f : Flow). length f.modified) flow ∙ table.modified.room ∙ sym c.loop-place.invariant.modified.room

pub loop-place-preserved : goal.loop-place-preserved
loop-place-preserved c =
    let checked = c.args.policy.now in
    let regions = c.args.regions.now in
    let names = regions.names in
    let count = length names in
    let pipe = c.pipe-pipe.result.now in
    let place = c.loop-place.place in
    let program = c.program-item.result in
    let programs = c.as_slice-program-items.result.now in
    let listed = program_list checked _ programs (c.behind-policy.view_is ∙ c.policy.ensures.policy) c.as_slice-program-items.ensures in
    let here : slice_get checked.policy.programs place ≡ Some program =
    subst (λ (ps : List Program). slice_get ps place ≡ Some program) listed (slice_get_read programs (length programs) place program refl c.loop-place-test.true c.program-item.is) in
    let is_run : c.is_among-is_run.result ≡ is_among (programs_of (pipe_tree pipe)) program.name =
    c.is_among-is_run.ensures ∙ ap (λ ps. is_among ps c.as_slice.result.now) c.programs-in-loop-place.ensures ∙ ap (is_among (programs_of (pipe_tree pipe))) c.as_slice.ensures.bytes in
    let within : place < length c.args.programs.now = omega (arith, c.requires.programs.all, ap length listed, c.loop-place-test.true) in
    let flow : c.index-programs-place.result ≡ flow_at c.args.programs.now place = flow_read c.args.programs.now place c.index-programs-place.result within c.index-programs-place.is in
    let table = c.requires.programs.each place (omega (arith, c.requires.programs.all)) in
    record {
      observed = any_next count (names_it checked names pipe) (λ p region. run_does checked names program_observes pipe p region) checked.policy.programs place program c.is_among-is_run.result
          c.index-programs-place.result.observed c.loop-place.flow.observed c.add.new.self.observed here c.loop-place.invariant.observed c.add.ensures.observed
          (λ r. ap (λ t. t && has_place c.index-programs-place.result.observed r) is_run ∙ ap (λ (f : Flow). is_among (programs_of (pipe_tree pipe)) program.name && has_place f.observed r) flow
          ∙ ap (λ t. is_among (programs_of (pipe_tree pipe)) program.name && t) (table.observed.same r ∙ program_observed checked regions c.requires.regions place program here r));
      modified = any_next count nowhere (λ p region. run_does checked names program_modifies pipe p region) checked.policy.programs place program c.is_among-is_run.result
          c.index-programs-place.result.modified c.loop-place.flow.modified c.add.new.self.modified here c.loop-place.invariant.modified c.add.ensures.modified
          (λ r. ap (λ t. t && has_place c.index-programs-place.result.modified r) is_run ∙ ap (λ (f : Flow). is_among (programs_of (pipe_tree pipe)) program.name && has_place f.modified r) flow
          ∙ ap (λ t. is_among (programs_of (pipe_tree pipe)) program.name && t) (table.modified.same r ∙ program_modified checked regions c.requires.regions place program here r));
    }

pub returns : goal.returns
returns c =
    let checked = c.args.policy.now in
    let names = c.args.regions.now.names in
    let count = length names in
    let pipe = c.pipe-pipe.result.now in
    let place = c.loop-place.place in
    let programs = c.as_slice-program-items.result.now in
    let listed = program_list checked _ programs (c.behind-policy.view_is ∙ c.policy.ensures.policy) c.as_slice-program-items.ensures in
    let past : length checked.policy.programs ≤ place = omega (arith, ap length listed, c.loop-place-test.false) in
    let all = take_all place checked.policy.programs past in
    record {
      observed = set_same count _ _ c.loop-place.flow.observed c.loop-place.invariant.observed
          (λ r. ap (λ (ps : List Program). names_it checked names pipe r || list_any (λ program. run_does checked names program_observes pipe program r) ps) all
          ∙ pipeline_observed checked names c.args.pipeline pipe c.pipe-pipe.ensures.tree r);
      modified = set_same count _ _ c.loop-place.flow.modified c.loop-place.invariant.modified
          (λ r. ap (λ (ps : List Program). list_any (λ program. run_does checked names program_modifies pipe program r) ps) all
          ∙ pipeline_modified checked names c.args.pipeline pipe c.pipe-pipe.ensures.tree r);
    }
