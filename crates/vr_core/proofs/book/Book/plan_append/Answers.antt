use Rattle.vr_core.proofs.book.Book.plan_append.Goals as goal

pub returns-clause-asks : goal.returns-clause-asks
returns-clause-asks g c = c.plan_store.ensures.asks c.args.self.now.files
