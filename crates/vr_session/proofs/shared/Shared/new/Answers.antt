use Rattle.vr_session.proofs.Seating.{first_seat}
use Rattle.vr_session.proofs.shared.Shared.new.Goals as goal

pub returns-in-Ok-clause-first : goal.returns-in-Ok-clause-first
returns-in-Ok-clause-first g c =
    let made = c.in-Ok.ensures.ok in
    first_seat _ c.in-Ok.seat _ _ made.2 made.3
