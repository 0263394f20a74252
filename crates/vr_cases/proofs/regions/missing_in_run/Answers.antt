-- The identity and the pipeline are listed, so the table has their entry.
use Rattle.std.proofs.Common.{◌≡◌, ◌<◌, ◌≤◌, inl, inr, length, arith, ap, ◌∙◌}
use Rattle.std.proofs.lemmas.Option.{slice_get_cases}
use Rattle.vr_policy_read.specs.PolicyData.{PolicyData}
use Rattle.vr_policy_check.proofs.CheckedLemmas.{as_many_trees}
use Rattle.vr_rights.proofs.CallLemmas.{has_entry}
use Rattle.vr_cases.proofs.regions.missing_in_run.Goals as goal

pub may_run-requires : goal.may_run-requires
may_run-requires c =
    let checked = c.args.policy.now in
    let view = c.listed.view_is ∙ c.policy-listed.ensures.policy in
    let identities : length c.as_slice.result.now ≡ length checked.policy.identities = ap length c.as_slice.ensures ∙ ap (λ (p : PolicyData). length p.identities) view in
    let pipelines : length c.as_slice-then-identity-as_slice.result.now ≡ length checked.policy.pipelines = ap length c.as_slice-then-identity-as_slice.ensures ∙ ap (λ (p : PolicyData). length p.pipelines) view in
    let trees : length checked.pipes ≡ length checked.policy.pipelines = as_many_trees checked c.policy-listed.ensures.checked in
    let listed : c.args.identity < length checked.policy.identities = omega (arith, identities, c.if-identity-as_slice.true) in
    let piped : c.args.pipeline < length checked.pipes = omega (arith, pipelines, trees, c.if-pipeline-as_slice.true) in
    elim (slice_get_cases checked.policy.identities c.args.identity).1 [
      | inl h ↦ has_entry checked c.args.regions.now c.requires c.args.identity c.args.pipeline h.0 h.2 piped
      | inr h ↦ (let past : length checked.policy.identities ≤ c.args.identity = h.0 in absurd (omega arith))
    ]
