use Rattle.std.proofs.Common.{◌≡◌, ◌<◌, [], Err, length, get_or, rules, arith, refl, sym, ◌∙◌, true, false}
use Rattle.std.proofs.lemmas.Grind.{common_steps, get_or_default_zero}
use Rattle.vr_base.specs.declared.calls.Reply.TheVariants.{QuotaReached}
use Rattle.vr_core.specs.Machine.{quota_check}
use Rattle.std.specs.FinMap.{insert}
use Rattle.vr_core.specs.Quotas.{is_over}
use Rattle.vr_core.proofs.QuotaLemmas.{no_region, no_quota, within, quota_at, total_counts, total_fits, quota_answer}
use Rattle.vr_core.proofs.policy_files.PolicyFiles.check_quota.Goals as goal

pub returns-in-None : goal.returns-in-None
returns-in-None c = λ body h. rw (← c.self.view_is) (no_region c.self.inside.policy c.self.inside.regions c.self.inside.files.map c.self.inside.totals.items c.self.invariant c.args.path.now (sym c.in-None.ensures.region) body)

pub quota_of-requires : goal.quota_of-requires
quota_of-requires c = within c.self.inside.policy c.self.inside.regions c.self.inside.files.map c.self.inside.totals.items c.self.invariant c.args.path.now c.in-Some.region (sym c.in-Some.ensures.region)

pub returns-in-None-quota_of : goal.returns-in-None-quota_of
returns-in-None-quota_of c = λ body h.
    let none = sym (quota_at c.self.inside.policy c.self.inside.regions c.self.inside.files.map c.self.inside.totals.items c.self.invariant c.args.path.now c.in-Some.region (sym c.in-Some.ensures.region)) ∙ sym c.in-None-quota_of.ensures in
    rw (← c.self.view_is) (no_quota c.self.inside.policy c.self.inside.regions c.self.inside.files.map c.self.inside.totals.items c.self.invariant c.args.path.now c.in-Some.region (sym c.in-Some.ensures.region) none body)

pub new_total-new-requires-clause-counted : goal.new_total-new-requires-clause-counted
new_total-new-requires-clause-counted c =
    let inside : c.in-Some.region < length c.self.inside.totals.items =
    rw c.self.invariant.totals.all (within c.self.inside.policy c.self.inside.regions c.self.inside.files.map c.self.inside.totals.items c.self.invariant c.args.path.now c.in-Some.region (sym c.in-Some.ensures.region)) in
    let old : c.index-old.result.now ≡ get_or c.self.inside.totals.items c.in-Some.region 0 = grind (arith, common_steps, inside, get_or_default_zero) in
    rw old (total_counts c.self.inside.policy c.self.inside.regions c.self.inside.files.map c.self.inside.totals.items c.self.invariant c.args.path.now c.in-Some.region (sym c.in-Some.ensures.region))

pub new_total-new-requires-clause-most : goal.new_total-new-requires-clause-most
new_total-new-requires-clause-most c =
    let inside : c.in-Some.region < length c.self.inside.totals.items =
    rw c.self.invariant.totals.all (within c.self.inside.policy c.self.inside.regions c.self.inside.files.map c.self.inside.totals.items c.self.invariant c.args.path.now c.in-Some.region (sym c.in-Some.ensures.region)) in
    let old : c.index-old.result.now ≡ get_or c.self.inside.totals.items c.in-Some.region 0 = grind (arith, common_steps, inside, get_or_default_zero) in
    rw old (total_fits c.self.inside.policy c.self.inside.regions c.self.inside.files.map c.self.inside.totals.items c.self.invariant c.args.path.now c.in-Some.region (sym c.in-Some.ensures.region))

pub returns-then-not-is_over : goal.returns-then-not-is_over
returns-then-not-is_over c = λ body h.
    let some = (sym c.in-Some.ensures.region) in
    let inside : c.in-Some.region < length c.self.inside.totals.items =
    rw c.self.invariant.totals.all (within c.self.inside.policy c.self.inside.regions c.self.inside.files.map c.self.inside.totals.items c.self.invariant c.args.path.now c.in-Some.region (sym c.in-Some.ensures.region)) in
    let old : c.index-old.result.now ≡ get_or c.self.inside.totals.items c.in-Some.region 0 = grind (arith, common_steps, inside, get_or_default_zero) in
    let quota = sym (quota_at c.self.inside.policy c.self.inside.regions c.self.inside.files.map c.self.inside.totals.items c.self.invariant c.args.path.now c.in-Some.region some) ∙ sym c.in-Some-quota_of.ensures in
    let over : is_over c.in-Some-quota_of.quota c.index-old.result.now c.new_total-new.result ≡ false = search rules in
    let answer = quota_answer c.self.inside.policy c.self.inside.regions c.self.inside.files.map c.self.inside.totals.items c.self.invariant c.args.path.now c.in-Some.region some body c.in-Some-quota_of.quota c.new_total-new.result quota (rw (← old, h) c.new_total-new.ensures) in
    rw (← c.self.view_is) (answer ∙ rw (← old, over) refl)

pub returns : goal.returns
returns c = λ body h.
    let some = (sym c.in-Some.ensures.region) in
    let inside : c.in-Some.region < length c.self.inside.totals.items =
    rw c.self.invariant.totals.all (within c.self.inside.policy c.self.inside.regions c.self.inside.files.map c.self.inside.totals.items c.self.invariant c.args.path.now c.in-Some.region (sym c.in-Some.ensures.region)) in
    let old : c.index-old.result.now ≡ get_or c.self.inside.totals.items c.in-Some.region 0 = grind (arith, common_steps, inside, get_or_default_zero) in
    let quota = sym (quota_at c.self.inside.policy c.self.inside.regions c.self.inside.files.map c.self.inside.totals.items c.self.invariant c.args.path.now c.in-Some.region some) ∙ sym c.in-Some-quota_of.ensures in
    let over : is_over c.in-Some-quota_of.quota c.index-old.result.now c.new_total-new.result ≡ true = sym c.is_over.ensures ∙ c.if-not-is_over.false in
    let answer = quota_answer c.self.inside.policy c.self.inside.regions c.self.inside.files.map c.self.inside.totals.items c.self.invariant c.args.path.now c.in-Some.region some body c.in-Some-quota_of.quota c.new_total-new.result quota (rw (← old, h) c.new_total-new.ensures) in
    let reached : quota_check c.self.inside.policy c.self.inside.files.map (insert c.self.inside.files.map c.args.path.now body) c.args.path.now
    ≡ Err (QuotaReached (get_or c.self.inside.regions.names c.in-Some.region []) c.new_total-new.result) = rw answer (rw (← old, over) refl) in
    rw (← c.self.view_is, reached, ← c.name_of.ensures) c.quota_reached.ensures
