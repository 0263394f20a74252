use Rattle.std.proofs.Common.{◌∙◌, ap}
use Rattle.vr_session.proofs.Seating.{seat_at}
use Rattle.vr_session.proofs.workers.serve_at.Goals as goal

pub returns-clause-seat : goal.returns-clause-seat
returns-clause-seat g c =
    seat_at _ _ _ (ap (λ beginning. beginning.0) c.attend-answer.ensures.origin ∙ ap (λ shared. shared.turn) c.new-desk.ensures.shared) c.into_seat.ensures.seat
