use Rattle.std.proofs.Common.{ℕ, List, [], Option, Bool, is_some, bytes_eq, ap, sym, ◌∙◌, subst, arith, below_more}
use Rattle.vr_base.proofs.Places.{first_passes, passes_none}
use Rattle.vr_policy_read.specs.PolicyData.{IsShort}
use Rattle.vr_policy_check.specs.declared.faults.CheckKind.TheVariants.{GrantTwice}
use Rattle.vr_policy_check.specs.Faults.{Gives}
use Rattle.vr_policy_check.specs.Repeats.{first_repeat}
use Rattle.vr_policy_check.specs.Rules.{rule, grant_lists, grant_names}
use Rattle.vr_policy_check.proofs.GrantLemmas.{item_of, as_many, referred}
use Rattle.vr_policy_check.proofs.rules.check_grants.Goals as goal

abbrev has_twice : List (List ℕ × ℕ) → Bool
has_twice grants = is_some (first_repeat bytes_eq (grant_names grants))

pub has_repeat-requires : goal.has_repeat-requires
has_repeat-requires c =
    let item = item_of c.deref-grants-items.result.now _ (grant_lists c.args.policy.now) c.deref-grants-items.ensures.value c.in_ok-lists.ensures.lists
    c.loop-at.at c.grants-item.result c.loop-at-test.true c.grants-item.is in
    subst IsShort (item.is c.grants-item.result.now) (c.in_ok-lists.ensures.few c.loop-at.at c.grants-item.result.now item.within)

pub rule-requires : goal.rule-requires
rule-requires c =
    let item = item_of c.deref-grants-items.result.now _ (grant_lists c.args.policy.now) c.deref-grants-items.ensures.value c.in_ok-lists.ensures.lists
    c.loop-at.at c.grants-item.result c.loop-at-test.true c.grants-item.is in
    omega (arith, item.within, c.in_ok-lists.ensures.count)

pub returns-then-branch : goal.returns-then-branch
returns-then-branch c =
    let item = item_of c.deref-grants-items.result.now _ (grant_lists c.args.policy.now) c.deref-grants-items.ensures.value c.in_ok-lists.ensures.lists
    c.loop-at.at c.grants-item.result c.loop-at-test.true c.grants-item.is in
    let here = ap has_twice (item.is c.grants-item.result.now) ∙ sym c.in_ok-has_repeat.ensures ∙ c.if-branch.true in
    let P : Option ℕ → Type 0 = λ failing. Gives c.rule.result (rule GrantTwice failing) in
    subst P (sym (first_passes has_twice (grant_lists c.args.policy.now) c.loop-at.at c.grants-item.result.now item.within here (λ k below. c.loop-at.invariant k below c.grants-item.result.now))) c.rule.ensures

pub loop-at-preserved : goal.loop-at-preserved
loop-at-preserved c =
    let item = item_of c.deref-grants-items.result.now _ (grant_lists c.args.policy.now) c.deref-grants-items.ensures.value c.in_ok-lists.ensures.lists
    c.loop-at.at c.grants-item.result c.loop-at-test.true c.grants-item.is in
    below_more _ _ c.loop-at.invariant (λ d. ap has_twice (item.is d) ∙ sym c.in_ok-has_repeat.ensures ∙ c.if-branch.false)

pub returns : goal.returns
returns c =
    let many = as_many c.deref-grants-items.result.now (grant_lists c.args.policy.now)
    (referred c.deref-grants-items.result.now _ (grant_lists c.args.policy.now) c.deref-grants-items.ensures.value c.in_ok-lists.ensures.lists) in
    ap (rule GrantTwice) (passes_none has_twice (grant_lists c.args.policy.now) [] (λ k within. c.loop-at.invariant k (omega (arith, within, many, c.loop-at-test.false)) []))
