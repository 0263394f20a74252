use Rattle.vr_cli.proofs.ServerLemmas.{ends_text, listener_after}
use Rattle.vr_cli.proofs.serving.run.Goals as goal

pub returns-clause-writes : goal.returns-clause-writes
returns-clause-writes g c =
    rw c.status_after.ensures (ends_text c.attend_all-attended.result.0 c.write_last_lines-written.result _ _ _ c.write_last_lines-written.ensures.text)

pub returns-clause-listener : goal.returns-clause-listener
returns-clause-listener g c =
    let served = c.attend_all-attended.ensures in
    rw c.status_after.ensures
    (listener_after g.K.Keeper.faults c.attend_all-attended.result.0 c.write_last_lines-written.result _ _ _ _ _ c.attend_all-attended.result.2 served.listener served.book.alone served.one)
