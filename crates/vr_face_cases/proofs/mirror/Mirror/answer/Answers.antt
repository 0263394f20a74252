use Rattle.vr_face_cases.proofs.Seen.{made_calm, sees_made, sees_none}
use Rattle.vr_face_cases.proofs.mirror.Mirror.answer.Goals as goal

pub returns-in-Ok-clause-seen : goal.returns-in-Ok-clause-seen
returns-in-Ok-clause-seen c = sees_made _ _ _ _ _ c.in-Ok.ensures

pub returns-in-Ok-clause-calm : goal.returns-in-Ok-clause-calm
returns-in-Ok-clause-calm c = made_calm c.in-Ok.reply c.in-Ok.ensures.1

pub returns-in-Err-clause-seen : goal.returns-in-Err-clause-seen
returns-in-Err-clause-seen c = sees_none _ _ _ _ c.in-Err.ensures
