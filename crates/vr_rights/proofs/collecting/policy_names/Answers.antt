-- The lists one after the other.
use Rattle.std.proofs.Common.{ap, ◌∙◌}
use Rattle.vr_policy_read.specs.PolicyData.{PolicyData}
use Rattle.vr_rights.proofs.CollectLemmas.{all_names}
use Rattle.vr_rights.proofs.collecting.policy_names.Goals as goal

pub returns : goal.returns
returns c =
    let view = c.listed.view_is ∙ c.policy-listed.ensures.policy in
    all_names c.args.policy.now c.new-names.result.items c.add_grants.new.names.items c.add_grants-2.new.names.items c.add_names.new.names.items c.add_names-2.new.names.items c.add_pipes.new.names.items c.add_names-3.new.names.items
    c.new-names.ensures.items
    (rw (c.as_slice.ensures, ap (λ (p : PolicyData). p.identities) view) at c.in_ok-add_grants.ensures)
    (rw (c.as_slice-2.ensures, ap (λ (p : PolicyData). p.programs) view) at c.in_ok-add_grants-2.ensures)
    (rw (c.as_slice-3.ensures, ap (λ (p : PolicyData). p.programs) view) at c.in_ok-add_names.ensures)
    (rw (c.as_slice-4.ensures, ap (λ (p : PolicyData). p.pins) view) at c.in_ok-add_names-2.ensures)
    c.in_ok-add_pipes.ensures
    (rw (c.as_slice-5.ensures, ap (λ (p : PolicyData). p.quotas) view) at c.in_ok-add_names-3.ensures)
