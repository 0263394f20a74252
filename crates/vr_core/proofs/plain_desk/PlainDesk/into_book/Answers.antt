use Rattle.vr_core.proofs.HistoryLemmas.{book_isolated}
use Rattle.vr_core.proofs.plain_desk.PlainDesk.into_book.Goals as goal

pub returns-clause-isolated : goal.returns-clause-isolated
returns-clause-isolated g c = book_isolated _ _ _ c.journal-entries.ensures.book
