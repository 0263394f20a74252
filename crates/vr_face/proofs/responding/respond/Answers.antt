use Rattle.vr_face.proofs.ResponseLemmas.{response_writable}
use Rattle.vr_face.proofs.responding.respond.Goals as goal

pub returns-clause-writable : goal.returns-clause-writable
returns-clause-writable c = response_writable c.in_ok-response.response c.args.manner c.args.answer c.in_ok-response.ensures
