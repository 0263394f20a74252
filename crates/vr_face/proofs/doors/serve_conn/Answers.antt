use Rattle.vr_face.proofs.DoorLemmas.{fresh_served, gives_back}
use Rattle.vr_face.proofs.doors.serve_conn.Goals as goal

pub back-requires : goal.back-requires
back-requires g c =
    let session = c.serve_session-end.ensures in
    rw session.input (fresh_served _ _ _ _ _ _ _ _ _ _ _ _ _ _ c.requires session.serves session.cause)

pub returns-clause-given_back : goal.returns-clause-given_back
returns-clause-given_back g c =
    let session = c.serve_session-end.ensures in
    rw c.is_want.ensures
    (gives_back _ _ _ _ _ _ _ _ _ _ _ _ _ _ _ _ c.requires session.serves session.cause (rw session.input at c.back.ensures.ended))
