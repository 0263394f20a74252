use Rattle.std.proofs.Common.{rules, All, length, ◌<◌, ◌^◌, subst}
use borrow.Author.Tests.{tests}
use Rattle.std.proofs.lemmas.Iterator.{YieldsList-from_slice, YieldsList-from_map_by}
use Rattle.std.proofs.lemmas.Iterator.Consumers.{map_from_collect, YieldsList-from_chain, YieldsList-at}
use Rattle.vr_policy_read.specs.PolicyData.{PolicyData, IsShort}
use Rattle.vr_policy_read.specs.declared.entries.Identity.{Identity}
use Rattle.vr_policy_read.specs.declared.entries.Program.{Program}
use Rattle.vr_policy_check.specs.Rules.{grant_lists}
use Rattle.vr_policy_check.proofs.CheckedLemmas.{grants_short, lists_few}
use Rattle.vr_policy_check.proofs.rules.grant_lists.Goals as goal

pub returns-clause-lists : goal.returns-clause-lists
returns-clause-lists c =
    map_from_collect _ c.collect.ensures.ran
    (YieldsList-from_chain
    (YieldsList-at c.chain.ensures.first (YieldsList-from_map_by _ (λ grants. grants.now) (λ (identity : Identity). identity.grants)
    (YieldsList-from_slice c.args.policy.now.identities cc) c.map.ensures.closure (λ x r q k. search (rules, tests))))
    (YieldsList-at c.chain.ensures.second (YieldsList-from_map_by _ (λ grants. grants.now) (λ (program : Program). program.grants)
    (YieldsList-from_slice c.args.policy.now.programs cc) c.map-2.ensures.closure (λ x r q k. search (rules, tests))))
    c.chain.ensures.first_done c.chain.ensures.second_done)

pub returns-clause-few : goal.returns-clause-few
returns-clause-few c =
    let P : PolicyData → Type 0 = λ policy. All IsShort (grant_lists policy) in
    subst P c.policy.view_is (grants_short _ c.policy.invariant)

pub returns-clause-count : goal.returns-clause-count
returns-clause-count c =
    let P : PolicyData → Type 0 = λ policy. length (grant_lists policy) < 2 ^ 32 in
    subst P c.policy.view_is (lists_few _ c.policy.invariant)
