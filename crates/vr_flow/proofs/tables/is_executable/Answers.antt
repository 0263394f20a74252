-- One identity more.
use Rattle.std.proofs.Common.{◌≡◌, ◌<◌, ◌≤◌, true, false, ◌||◌, length, take_all, arith, sym, ◌∙◌, ap}
use Rattle.std.specs.List.{list_any}
use Rattle.vr_pipe.specs.Trees.{pipe_tree}
use Rattle.vr_policy_check.proofs.CheckedLemmas.{as_many_trees}
use Rattle.vr_rights.specs.Flows.{may_run}
use Rattle.vr_rights.proofs.CallLemmas.{has_entry}
use Rattle.vr_flow.proofs.PolicyLemmas.{pipe_there, identity_at, identity_there, identity_count, executable_at}
use Rattle.vr_flow.proofs.TableLemmas.{any_more, any_at}
use Rattle.vr_flow.proofs.tables.is_executable.Goals as goal

pub may_run-requires : goal.may_run-requires
may_run-requires c =
    let checked = c.args.policy.now in
    let many = identity_count checked _ c.as_slice-identity-end.result.now (c.behind-policy.view_is ∙ c.policy.ensures.policy) c.as_slice-identity-end.ensures in
    let within : c.loop-identity.identity < length checked.policy.identities = omega (arith, many, c.loop-identity-test.true) in
    let there : c.args.pipeline < length checked.pipes = omega (arith, as_many_trees checked c.policy.ensures.checked, c.requires.pipeline) in
    has_entry checked c.args.regions.now c.requires.regions c.loop-identity.identity c.args.pipeline (identity_at checked c.loop-identity.identity) (identity_there checked c.loop-identity.identity within) there

pub loop-identity-preserved : goal.loop-identity-preserved
loop-identity-preserved c = λ pipe e.
    (let checked = c.args.policy.now in
    let identity = c.loop-identity.identity in
    let many = identity_count checked _ c.as_slice-identity-end.result.now (c.behind-policy.view_is ∙ c.policy.ensures.policy) c.as_slice-identity-end.ensures in
    let within : identity < length checked.policy.identities = omega (arith, many, c.loop-identity-test.true) in
    let listed = identity_at checked identity in
    let there = identity_there checked identity within in
    let test : may_run listed (pipe_tree pipe) ≡ false = sym (c.may_run.ensures checked listed pipe c.requires.regions there e) ∙ c.if-may_run.false in
    any_more (λ i. may_run i (pipe_tree pipe)) checked.policy.identities identity listed there ∙ ap (λ t. t || may_run listed (pipe_tree pipe)) (c.loop-identity.invariant pipe e) ∙ test)

pub returns-then-may_run : goal.returns-then-may_run
returns-then-may_run c =
    let checked = c.args.policy.now in
    let identity = c.loop-identity.identity in
    let many = identity_count checked _ c.as_slice-identity-end.result.now (c.behind-policy.view_is ∙ c.policy.ensures.policy) c.as_slice-identity-end.ensures in
    let within : identity < length checked.policy.identities = omega (arith, many, c.loop-identity-test.true) in
    let listed = identity_at checked identity in
    let there = identity_there checked identity within in
    let piped = pipe_there checked c.args.pipeline (omega (arith, as_many_trees checked c.policy.ensures.checked, c.requires.pipeline)) in
    let test : may_run listed (pipe_tree piped.0) ≡ true = sym (c.may_run.ensures checked listed piped.0 c.requires.regions there piped.1) ∙ c.if-may_run.true in
    sym (any_at (λ i. may_run i (pipe_tree piped.0)) checked.policy.identities identity listed there test) ∙ executable_at checked c.args.regions.now.names c.args.pipeline piped.0 piped.1

pub returns : goal.returns
returns c =
    let checked = c.args.policy.now in
    let identity = c.loop-identity.identity in
    let identities = checked.policy.identities in
    let many = identity_count checked _ c.as_slice-identity-end.result.now (c.behind-policy.view_is ∙ c.policy.ensures.policy) c.as_slice-identity-end.ensures in
    let past : length identities ≤ identity = omega (arith, many, c.loop-identity-test.false) in
    let piped = pipe_there checked c.args.pipeline (omega (arith, as_many_trees checked c.policy.ensures.checked, c.requires.pipeline)) in
    sym (c.loop-identity.invariant piped.0 piped.1) ∙ ap (list_any (λ i. may_run i (pipe_tree piped.0))) (take_all identity identities past) ∙ executable_at checked c.args.regions.now.names c.args.pipeline piped.0 piped.1
