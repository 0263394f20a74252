use Rattle.std.proofs.Common.{sym, ap, ◌∙◌}
use Rattle.vr_base.specs.Checks.{or_fault}
use Rattle.vr_base.specs.declared.calls.Reply.TheVariants.{Unkeyed}
use Rattle.vr_core.proofs.Places.{found_at_place, not_found}
use Rattle.vr_core.proofs.checks.check_caller.Goals as goal

pub returns-in-Some : goal.returns-in-Some
returns-in-Some c =
    let listed = c.as_slice.ensures ∙ ap (λ p. p.identities) (c.behind-policy.view_is ∙ c.policy.ensures.policy) in
    ap (or_fault Unkeyed) (found_at_place (λ i. i.id) c.args.who c.args.policy.now.policy.identities c.in-Some.place
    c.index-as_slice-place.result (sym c.in-Some.ensures.place) c.in-Some.ensures.within (rw listed at c.index-as_slice-place.is))

pub returns-in-None : goal.returns-in-None
returns-in-None c =
    ap (or_fault Unkeyed) (not_found (λ i. i.id) c.args.who c.args.policy.now.policy.identities (sym c.in-None.ensures.place))
