use Rattle.std.proofs.Common.{◌≡◌, ◌∙◌, true, ap, arith, rules, sym}
use Rattle.vr_core.specs.Machine.{Origin}
use Rattle.vr_cli.proofs.ServerLemmas.{book_counted, failed_here, listener_since, listener_unstarted, refused_ends, start_counted, start_undone}
use Rattle.vr_cli.proofs.serving.open.Goals as goal

pub returns-then-is_err-clause-listener : goal.returns-then-is_err-clause-listener
returns-then-is_err-clause-listener g c =
    let heard = c.listen.ensures in
    listener_unstarted g.K.Keeper.faults _ _ _ _ _ _ _ heard.handed_out heard.ended (λ e. cc (e))
    (record { later = heard.cause.later; failed = λ _. failed_here c.listen.result (sym c.is_err.ensures.value ∙ c.if-is_err.true) heard.cause.failed })

pub returns-in-Ok-clause-started : goal.returns-in-Ok-clause-started
returns-in-Ok-clause-started g c =
    let served = c.report-status.ensures in
    let heard : g.L.Listener.listens c.listen.new.self ≡ true = search rules in
    record {
      listening = served.listens ∙ heard;
      writes = served.writes;
      fuel = ap (λ (o : Origin). o.fuel) served.book.origin ∙ c.in-Ok.ensures.opens.fuel;
      loaded = rw served.book.origin c.in-Ok.ensures.opening;
      exact = rw served.book.origin c.in-Ok.ensures.exact;
      opening = rw served.book.origin c.in-Ok.ensures.opens.loaded;
      legal = served.book.book;
      isolated = served.book.isolated;
      numbered = served.book.numbered;
    }

pub returns-in-Ok-clause-listener : goal.returns-in-Ok-clause-listener
returns-in-Ok-clause-listener g c =
    listener_since g.K.Keeper.faults _ _ _ _ _ _ _ _ c.report-status.result.2 c.listen.ensures.handed_out c.listen.ensures.ended c.listen.ensures.cause.later c.in-Ok.ensures.cause.later
    c.report-status.ensures.listener

pub returns-in-Ok-clause-keeper : goal.returns-in-Ok-clause-keeper
returns-in-Ok-clause-keeper g c =
    let loaded = c.in-Ok.ensures.cause.later in
    let served = c.report-status.ensures.book.keeper in
    book_counted c.report-status.result.0 _ _ _ _ _ c.report-status.ensures.writes (omega (arith, loaded, served))

pub returns-in-Ok-clause-first : goal.returns-in-Ok-clause-first
returns-in-Ok-clause-first g c = rw (c.listen.ensures.handed_out, c.listen.ensures.ended) at c.report-status.ensures.first

pub returns-in-Err-clause-listener : goal.returns-in-Err-clause-listener
returns-in-Err-clause-listener g c =
    let heard = c.listen.ensures in
    rw c.start_status.ensures
    (listener_unstarted g.K.Keeper.faults _ _ _ _ _ _ _ heard.handed_out heard.ended (start_undone c.in-Err.fault) (start_counted c.in-Err.fault _ _ heard.cause.later))

pub returns-in-Err-clause-crashes : goal.returns-in-Err-clause-crashes
returns-in-Err-clause-crashes g c = record { telling = c.in-Err.ensures.tells; since = c.in-Err.ensures.crashes }

pub returns-in-Err-clause-unstarted : goal.returns-in-Err-clause-unstarted
returns-in-Err-clause-unstarted g c =
    rw c.start_status.ensures (refused_ends g.K.Keeper.rows g.K.Keeper.listed g.K.Keeper.is_loaded c.in-Err.fault _ _ _ _
    (search rules) c.in-Err.ensures.rows c.in-Err.ensures.listed c.in-Err.ensures.bad_row c.in-Err.ensures.exact c.in-Err.ensures.left)
