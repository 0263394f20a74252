use Rattle.vr_core.proofs.DeskLemmas.{steps_by_seat, steps_seen}
use Rattle.vr_core.proofs.plain_desk.PlainDeskDesk.ask.Goals as goal

pub invariant_of-self : goal.invariant_of-self
invariant_of-self g c = record {
  own = steps_by_seat _ _ 0 c.args.who c.args.call c.step-reply.result c.step-reply.ensures.steps c.args.self.now.own;
  legal = ∣ (_, c.step-reply.ensures.book.history) ∣₁;
}

pub returns-clause-seen : goal.returns-clause-seen
returns-clause-seen g c = steps_seen _ _ 0 c.args.who c.args.call c.step-reply.result c.step-reply.ensures.steps
