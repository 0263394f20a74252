use Rattle.std.proofs.Common.{◌≡◌, [], Some, get_or, sym, ap, ◌∙◌, subst}
use Rattle.std.proofs.lemmas.Option.{get_or_from_slice_get, slice_get_within}
use Rattle.vr_flow.proofs.PolicyLemmas.{identity_at, identity_there}
use Rattle.vr_pipe.specs.declared.trees.Tree.{Tree}
use Rattle.vr_pipe.specs.Trees.{pipe_tree, programs_of}
use Rattle.vr_rights.proofs.CallLemmas.{has_entry}
use Rattle.vr_core.specs.Machine.{Checked, execute_check, rights_check}
use Rattle.vr_core.specs.Replies.{Gives}
use Rattle.vr_core.proofs.ExecuteLemmas.{any_default, fails_here, passes_here}
use Rattle.vr_core.proofs.checks.check_programs.Goals as goal

pub may_run-requires : goal.may_run-requires
may_run-requires c =
    has_entry c.args.policy.now c.args.regions.now c.requires.regions c.args.identity c.args.pipeline (identity_at c.args.policy.now c.args.identity)
    (identity_there c.args.policy.now c.args.identity c.requires.identity)
    (slice_get_within c.args.policy.now.pipes c.args.pipeline c.pipe.result.now c.pipe.ensures.tree)

pub bounds-programs-program : goal.bounds-programs-program
bounds-programs-program c =
    rw c.programs-programs.ensures
    (fails_here c.args.policy.now c.args.regions.now c.requires.regions c.args.identity c.args.pipeline (identity_at c.args.policy.now c.args.identity) c.pipe.result.now
    (identity_there c.args.policy.now c.args.identity c.requires.identity) c.pipe.ensures.tree c.in-Err.field-0 (sym c.may_run.ensures ∙ c.in-Err.is)).0

pub returns-in-Ok : goal.returns-in-Ok
returns-in-Ok c = λ i tree e f.
    passes_here c.args.policy.now c.args.regions.now c.requires.regions c.args.identity c.args.pipeline i tree e f c.in-Ok.field-0 (sym c.may_run.ensures ∙ c.in-Ok.is)

pub returns-in-Err : goal.returns-in-Err
returns-in-Err c = λ i tree e f.
    let fails = fails_here c.args.policy.now c.args.regions.now c.requires.regions c.args.identity c.args.pipeline i tree e f c.in-Err.field-0 (sym c.may_run.ensures ∙ c.in-Err.is) in
    let both : ◌≡◌ (Some c.pipe.result.now) (Some tree) = sym c.pipe.ensures.tree ∙ f in
    let trees : c.pipe.result.now ≡ tree = cc in
    let listed = c.as_slice.ensures ∙ ap (λ p. p.identities) (c.behind-policy.view_is ∙ c.policy.ensures.policy) in
    let who : c.index-as_slice-identity.result ≡ i = (rw listed at c.index-as_slice-identity.is) ∙ get_or_from_slice_get c.args.policy.now.policy.identities c.args.identity i c.index-as_slice-identity.result e in
    let programs : c.programs-programs.result.now ≡ programs_of (pipe_tree tree) = c.programs-programs.ensures ∙ ap (λ (t : Tree). programs_of (pipe_tree t)) trees in
    let path : c.index-programs-program.result ≡ get_or (programs_of (pipe_tree tree)) c.in-Err.field-0.program [] =
    (rw programs at c.index-programs-program.is) ∙ any_default (programs_of (pipe_tree tree)) c.in-Err.field-0.program c.index-programs-program.result [] fails.0 in
    let same : rights_check c.index-as_slice-identity.result c.index-programs-program.result c.new-needed.result ≡ execute_check i (programs_of (pipe_tree tree)) =
    (λ k. rights_check (who k) (path k) (c.new-needed.ensures k)) ∙ sym fails.1 in
    subst (λ (answer : Checked (Unit {0})). Gives c.check_rights.result answer) same c.check_rights.ensures
