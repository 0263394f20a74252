use Rattle.vr_session_cases.proofs.Fresh.{none_by_seat}
use Rattle.vr_session_cases.proofs.sessions.served.Goals as goal

pub new-desk-requires : goal.new-desk-requires
new-desk-requires c = record { own = none_by_seat 0 _ c.requires }
