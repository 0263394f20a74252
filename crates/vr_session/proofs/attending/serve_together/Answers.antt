use Rattle.vr_session.proofs.Seating.{regains_stays, regains_then}
use Rattle.vr_session.proofs.Settling.{rose_since}
use Rattle.vr_session.proofs.attending.serve_together.Goals as goal

pub returns : goal.returns
returns g c =
    let served = c.serve_at-answer.ensures in
    record {
      porch = record {
        seat = served.seat;
        regains = regains_then _ _ _ c.serve_by_workers-seat.ensures.regains (regains_stays _ _ served.stays);
        over = served.over;
        risen = λ e. rose_since _ _ _ c.into_inner-porch.result.later (served.cause.failed e);
      };
    }
