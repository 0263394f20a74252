-- Each part of what was read keeps its limit.
use Rattle.serde_json.specs.View.{view, members_view}
use Rattle.vr_policy_read.specs.Policies.{identity_in, program_in, pipeline_in, pin_in, quota_in}
use Rattle.vr_policy_read.specs.PolicyData.{IsShort}
use Rattle.vr_policy_read.specs.declared.faults.Member.TheVariants.{Identities, Programs, Pipelines, FileHashes, Quotas}
use Rattle.vr_policy_read.proofs.LimitLemmas.{few_entries, All-list, few_optional, All-optional, few_grants_of_identity, few_grants_of_program, few_pages}
use Rattle.vr_policy_read.proofs.reading.policy.Goals as goal

pub invariant_of-result : goal.invariant_of-result
invariant_of-result c =
    let top = members_view c.in_ok-top.top.now.entries in
    let identities = view c.in_ok-required.field-0.now in
    record {
      pages = few_pages top _ c.in_ok-pages.ensures;
      identities = few_entries Identities identity_in identities _ c.in_ok-identities.ensures;
      programs = few_optional Programs program_in top _ c.in_ok-programs.ensures;
      pipelines = few_optional Pipelines pipeline_in top _ c.in_ok-pipelines.ensures;
      pins = few_optional FileHashes pin_in top _ c.in_ok-pins.ensures;
      quotas = few_optional Quotas quota_in top _ c.in_ok-quotas.ensures;
      grants_of_identities = All-list Identities identity_in (λ identity. IsShort identity.grants) few_grants_of_identity identities _ c.in_ok-identities.ensures;
      grants_of_programs = All-optional Programs program_in (λ program. IsShort program.grants) few_grants_of_program top _ c.in_ok-programs.ensures;
    }
