-- One program more.
use Rattle.std.proofs.Common.{◌≡◌, ◌≤◌, false, ◌||◌, ◌&&◌, List, length, take_all, Some, slice_get, arith, refl, sym, ◌∙◌, ap, subst}
use Rattle.std.specs.List.{list_any}
use Rattle.std.proofs.lemmas.Bool.{or_left, or_right, or_from}
use Rattle.std.proofs.lemmas.Option.{slice_get_read}
use Rattle.vr_pipe.specs.Trees.{pipe_tree, programs_of, tests_of}
use Rattle.vr_policy_read.specs.declared.entries.Program.{Program}
use Rattle.vr_rights.specs.Calls.{word_of}
use Rattle.vr_rights.specs.Flows.{is_among, word_observes, program_observes}
use Rattle.vr_rights.specs.declared.regions.Holder.TheVariants as holders
use Rattle.vr_flow.proofs.PolicyLemmas.{program_list, names_it, names_here, run_does, observes_here, pipeline_observed}
use Rattle.vr_flow.proofs.TableLemmas.{any_more, any_at}
use Rattle.vr_flow.proofs.calls.observes.Goals as goal

pub returns-then-names_region : goal.returns-then-names_region
returns-then-names_region c =
    let checked = c.args.policy.now in
    let names = c.args.regions.now.names in
    let region = c.args.region in
    let pipe = c.pipe-pipe.result.now in
    let named : c.names_region.result ≡ names_it checked names pipe region =
    c.names_region.ensures ∙ ap (λ name. is_among (programs_of (pipe_tree pipe)) name || is_among (tests_of (pipe_tree pipe)) name) (c.as_slice.ensures.bytes ∙ c.name_of.ensures) ∙ names_here checked names pipe region c.requires.region in
    sym (or_left (names_it checked names pipe region) _ (sym named ∙ c.if-names_region.true)) ∙ pipeline_observed checked names c.args.pipeline pipe c.pipe-pipe.ensures.tree region

pub loop-place-preserved : goal.loop-place-preserved
loop-place-preserved c =
    let checked = c.args.policy.now in
    let regions = c.args.regions.now in
    let names = regions.names in
    let region = c.args.region in
    let pipe = c.pipe-pipe.result.now in
    let place = c.loop-place.place in
    let program = c.index-programs-place.result in
    let programs = c.as_slice-programs.result.now in
    let listed = program_list checked _ programs (c.behind-policy.view_is ∙ c.policy.ensures.policy) c.as_slice-programs.ensures in
    let here : slice_get checked.policy.programs place ≡ Some program =
    subst (λ (ps : List Program). slice_get ps place ≡ Some program) listed (slice_get_read programs (length programs) place program refl c.loop-place-test.true c.index-programs-place.is) in
    let does : c.is_observer.result ≡ run_does checked names program_observes pipe program region =
    c.is_observer.ensures ∙ ap (λ ps. is_among ps program.name && word_observes (word_of regions (holders.Program place) region)) c.programs.ensures
    ∙ ap (λ t. is_among (programs_of (pipe_tree pipe)) program.name && t) (observes_here checked regions c.requires.regions place region program here c.requires.region) in
    any_more (λ p. run_does checked names program_observes pipe p region) checked.policy.programs place program here
    ∙ ap (λ t. t || run_does checked names program_observes pipe program region) c.loop-place.invariant ∙ sym does ∙ c.if-is_observer.false

pub returns-then-is_observer : goal.returns-then-is_observer
returns-then-is_observer c =
    let checked = c.args.policy.now in
    let regions = c.args.regions.now in
    let names = regions.names in
    let region = c.args.region in
    let pipe = c.pipe-pipe.result.now in
    let place = c.loop-place.place in
    let program = c.index-programs-place.result in
    let programs = c.as_slice-programs.result.now in
    let listed = program_list checked _ programs (c.behind-policy.view_is ∙ c.policy.ensures.policy) c.as_slice-programs.ensures in
    let here : slice_get checked.policy.programs place ≡ Some program =
    subst (λ (ps : List Program). slice_get ps place ≡ Some program) listed (slice_get_read programs (length programs) place program refl c.loop-place-test.true c.index-programs-place.is) in
    let does : c.is_observer.result ≡ run_does checked names program_observes pipe program region =
    c.is_observer.ensures ∙ ap (λ ps. is_among ps program.name && word_observes (word_of regions (holders.Program place) region)) c.programs.ensures
    ∙ ap (λ t. is_among (programs_of (pipe_tree pipe)) program.name && t) (observes_here checked regions c.requires.regions place region program here c.requires.region) in
    sym (or_right (names_it checked names pipe region) _ (any_at (λ p. run_does checked names program_observes pipe p region) checked.policy.programs place program here (sym does ∙ c.if-is_observer.true)))
    ∙ pipeline_observed checked names c.args.pipeline pipe c.pipe-pipe.ensures.tree region

pub returns : goal.returns
returns c =
    let checked = c.args.policy.now in
    let names = c.args.regions.now.names in
    let region = c.args.region in
    let pipe = c.pipe-pipe.result.now in
    let place = c.loop-place.place in
    let programs = c.as_slice-programs.result.now in
    let listed = program_list checked _ programs (c.behind-policy.view_is ∙ c.policy.ensures.policy) c.as_slice-programs.ensures in
    let past : length checked.policy.programs ≤ place = omega (arith, ap length listed, c.loop-place-test.false) in
    let named : c.names_region.result ≡ names_it checked names pipe region =
    c.names_region.ensures ∙ ap (λ name. is_among (programs_of (pipe_tree pipe)) name || is_among (tests_of (pipe_tree pipe)) name) (c.as_slice.ensures.bytes ∙ c.name_of.ensures) ∙ names_here checked names pipe region c.requires.region in
    let none : list_any (λ program. run_does checked names program_observes pipe program region) checked.policy.programs ≡ false =
    ap (list_any (λ program. run_does checked names program_observes pipe program region)) (sym (take_all place checked.policy.programs past)) ∙ c.loop-place.invariant in
    sym (or_from (names_it checked names pipe region) _ (sym named ∙ c.if-names_region.false) none) ∙ pipeline_observed checked names c.args.pipeline pipe c.pipe-pipe.ensures.tree region
