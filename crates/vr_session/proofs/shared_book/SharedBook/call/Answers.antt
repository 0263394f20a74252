use Rattle.vr_core.proofs.DeskLemmas.{steps_own}
use Rattle.vr_session.proofs.shared_book.SharedBook.call.Goals as goal

pub returns : goal.returns
returns g c =
    let steps = c.step-reply.ensures.steps in
    record {
      origin = steps.origin;
      journal = steps_own _ _ c.args.seat c.args.who c.args.call c.step-reply.result steps;
      legal = (_, c.step-reply.ensures.book.history);
      isolated = c.step-reply.ensures.history;
      counted = c.entries-entries.ensures;
      later = c.step-reply.ensures.faults;
      unkept = λ is. (c.step-reply.ensures.cause is).rose;
    }
