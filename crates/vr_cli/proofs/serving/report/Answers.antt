use Rattle.std.proofs.Common.{◌∙◌, inl, inr, length, refl, sym}
use Rattle.vr_session.proofs.ComingBack.{unmade_book}
use Rattle.vr_cli.specs.Servings.{first_lines, last_lines}
use Rattle.vr_cli.proofs.ServerLemmas.{ends_after, ends_first, first_there, listener_unserved, unwritten, unwritten_alone}
use Rattle.vr_cli.proofs.serving.report.Goals as goal

pub returns-in-Ok-clause-writes : goal.returns-in-Ok-clause-writes
returns-in-Ok-clause-writes g c =
    let book = c.run.result.2 in
    rw (c.run.ensures.book.origin, c.requires.digits)
    (ends_after c.run.result.0 _ _ _ (first_lines c.args.hash.now c.args.serving.port) (last_lines (length book.journal) book.files) c.in-Ok.ensures.text c.run.ensures.writes)

pub returns-in-Ok-clause-first : goal.returns-in-Ok-clause-first
returns-in-Ok-clause-first g c =
    let book = c.run.result.2 in
    let lines = first_lines c.args.hash.now c.args.serving.port in
    rw (c.run.ensures.book.origin, c.requires.digits) (inl (first_there c.run.result.0 _ _ _ lines (last_lines (length book.journal) book.files) c.in-Ok.ensures.text c.run.ensures.writes))

pub returns-in-Err-clause-book : goal.returns-in-Err-clause-book
returns-in-Err-clause-book g c =
    unmade_book g.K.Keeper.rows g.K.Keeper.is_loaded g.K.Keeper.faults c.args.serving.workers c.args.book c.journal-started.ensures.book c.requires.fresh

pub returns-in-Err-clause-writes : goal.returns-in-Err-clause-writes
returns-in-Err-clause-writes g c =
    let book = c.args.book in
    rw (c.from.ensures, c.requires.digits)
    (ends_first c.in-Err.fault _ _ (first_lines c.args.hash.now c.args.serving.port) (last_lines (length book.journal) book.files) c.in-Err.ensures.text)

pub returns-in-Err-clause-first : goal.returns-in-Err-clause-first
returns-in-Err-clause-first g c = inr (record { handed_out = refl; ended = refl })

pub returns-in-Err-clause-listener : goal.returns-in-Err-clause-listener
returns-in-Err-clause-listener g c =
    listener_unserved g.K.Keeper.faults _ _ _ _ c.args.book c.requires.fresh (λ e. unwritten c.in-Err.fault (sym c.from.ensures ∙ e)) (λ e. unwritten_alone c.in-Err.fault (sym c.from.ensures ∙ e))
