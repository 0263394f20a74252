use Rattle.std.proofs.Common.{sym, ap}
use Rattle.std.specs.Prelude.{Some}
use Rattle.vr_base.specs.Checks.{or_fault, result_map}
use Rattle.vr_base.specs.declared.calls.Reply.TheVariants.{Unkeyed}
use Rattle.vr_core.proofs.Places.{not_found, placed}
use Rattle.vr_core.proofs.checks.find_caller.Goals as goal

pub returns-in-Some-clause-caller : goal.returns-in-Some-clause-caller
returns-in-Some-clause-caller c =
    placed (λ i. i.id) c.args.who Unkeyed c.args.policy.now.policy.identities c.in-Some.place (sym c.in-Some.ensures.place) c.in-Some.ensures.within

pub returns-in-None-clause-caller : goal.returns-in-None-clause-caller
returns-in-None-clause-caller c =
    ap (λ found. result_map (λ x. Some x) (or_fault Unkeyed found)) (not_found (λ i. i.id) c.args.who c.args.policy.now.policy.identities (sym c.in-None.ensures.place))
