use Rattle.std.proofs.Common.{sym, ◌∙◌}
use Rattle.vr_core.proofs.HistoryLemmas.{book_isolated, made_isolated}
use Rattle.vr_core.proofs.ReplyLemmas.{unavailable_kept, unkept_plan}
use Rattle.vr_core.proofs.RunStarts.{starts_rightly}
use Rattle.vr_core.proofs.book.Book.step.Goals as goal

pub returns-in-Ok-Keep-clause-cause : goal.returns-in-Ok-Keep-clause-cause
returns-in-Ok-Keep-clause-cause g c = λ h.
    unkept_plan _ _ c.in-Ok-Keep.field-0 c.in-Ok-Keep.reply c.in-Ok-Keep.changes _ _ c.in-Ok-Keep.field-0-is c.in-Ok-Keep.ensures.plan c.in-Ok-Keep.ensures.asks
    (c.keep-kept.ensures.cause (unavailable_kept c.keep-kept.result (sym c.unwrap_or.ensures ∙ h)))

pub returns-in-Ok-Keep-clause-isolated : goal.returns-in-Ok-Keep-clause-isolated
returns-in-Ok-Keep-clause-isolated g c = rw c.unwrap_or.ensures (made_isolated _ c.plan.ensures.book.checked _ _ _ _ _ c.keep-kept.ensures.steps.outcome)

pub returns-in-Ok-Keep-clause-history : goal.returns-in-Ok-Keep-clause-history
returns-in-Ok-Keep-clause-history g c = book_isolated _ _ _ c.keep-kept.ensures.book

pub returns-in-Ok-Keep-clause-starts : goal.returns-in-Ok-Keep-clause-starts
returns-in-Ok-Keep-clause-starts g c = starts_rightly c.args.self.now.origin.policy c.args.self.now.files c.args.who c.args.call

pub returns-in-Ok-Answer-clause-isolated : goal.returns-in-Ok-Answer-clause-isolated
returns-in-Ok-Answer-clause-isolated g c = made_isolated _ c.plan.ensures.book.checked _ _ _ _ _ c.answer.ensures.steps.outcome

pub returns-in-Ok-Answer-clause-history : goal.returns-in-Ok-Answer-clause-history
returns-in-Ok-Answer-clause-history g c = book_isolated _ _ _ c.answer.ensures.book

pub returns-in-Ok-Answer-clause-starts : goal.returns-in-Ok-Answer-clause-starts
returns-in-Ok-Answer-clause-starts g c = starts_rightly c.args.self.now.origin.policy c.args.self.now.files c.args.who c.args.call

pub returns-in-Err-clause-isolated : goal.returns-in-Err-clause-isolated
returns-in-Err-clause-isolated g c = made_isolated _ c.plan.ensures.book.checked _ _ _ _ _ c.answer-in-Err.ensures.steps.outcome

pub returns-in-Err-clause-history : goal.returns-in-Err-clause-history
returns-in-Err-clause-history g c = book_isolated _ _ _ c.answer-in-Err.ensures.book

pub returns-in-Err-clause-starts : goal.returns-in-Err-clause-starts
returns-in-Err-clause-starts g c = starts_rightly c.args.self.now.origin.policy c.args.self.now.files c.args.who c.args.call
