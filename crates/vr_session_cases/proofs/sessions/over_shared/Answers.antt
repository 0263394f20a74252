use Rattle.vr_session_cases.proofs.sessions.over_shared.Goals as goal

pub new-desk-requires : goal.new-desk-requires
new-desk-requires g c = record { of_turn = c.in-Ok.ensures.first }
