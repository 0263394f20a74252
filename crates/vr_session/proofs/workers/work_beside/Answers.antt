use denote.Param.Send.{IsSend, param_send, param_sync}
use mir.Syntax.{static}
use Rattle.vr_policy_check.specs.contracts.checked.CheckedPolicy as CheckedPolicy
use Rattle.vr_session.proofs.Sending.{seat_send, worker_sync}
use Rattle.vr_session.proofs.workers.work_beside.Goals as goal

pub beside-requires-send-P-Seat : goal.beside-requires-send-P-Seat
beside-requires-send-P-Seat g c κs within =
    let policy : IsSend CheckedPolicy.the_row = record { owned = c.may_cross.ensures.owned; leaving = λ k d w. tt } in
    let sent = param_send 4 _ (seat_send _ g.K.Keeper policy c.type_bounds.send-K) in
    record { owned = sent.owned; leaving = sent.leaving }

pub beside-requires-sync-P : goal.beside-requires-sync-P
beside-requires-sync-P g c κs within =
    let policy : IsSend CheckedPolicy.the_row = record { owned = c.may_cross.ensures.owned; leaving = λ k d w. tt } in
    let bounds = c.type_bounds in
    let shared = param_sync 1 _ (worker_sync record { mir = static; lft = _ } _ _ g.row.O _ _ g.row.L-Conn g.L.Listener g.L.Conn.Link g.L.Conn.Source g.L.Conn.Sink g.O.Opening g.K.Keeper
    policy bounds.sync-R bounds.send-L bounds.send-K bounds.sync-G) in
    record { shared = shared.shared }
