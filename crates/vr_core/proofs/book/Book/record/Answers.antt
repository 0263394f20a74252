use Rattle.vr_core.proofs.Histories.{current_push}
use Rattle.vr_core.proofs.book.Book.record.Goals as goal

pub invariant_of-self-2 : goal.invariant_of-self-2
invariant_of-self-2 g c =
    let outcome = rw (← c.self.view_is) at c.requires.outcome in
    let history = current_push _ _ _ c.args.seat c.args.who c.args.call c.args.reply.now _ c.self.invariant.history outcome c.requires.made in
    record {
      checked = c.self.invariant.checked;
      history = rw (c.in_ok-push.ensures.items, c.in_ok-kept.ensures) history;
      loaded = c.self.invariant.loaded;
      kept = c.self.invariant.kept;
    }

pub returns-clause-book : goal.returns-clause-book
returns-clause-book g c = invariant_of-self-2 g c
