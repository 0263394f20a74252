use Rattle.vr_face.proofs.StepLemmas.{wants_memory}
use Rattle.vr_face.proofs.sessions.serve_session.Goals as goal

pub returns-in_default-clause-serves : goal.returns-in_default-clause-serves
returns-in_default-clause-serves g c = wants_memory _ _ 0 _ _ _ _ _

pub returns-in_default-routes-clause-serves : goal.returns-in_default-routes-clause-serves
returns-in_default-routes-clause-serves g c = wants_memory _ _ 0 _ _ _ _ _
