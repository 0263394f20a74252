use Rattle.std.proofs.Common.{ap, subst, ◌∙◌}
use Rattle.std.specs.Io.KnownBytes.{Appends}
use Rattle.vr_http.specs.Responses.{response_bytes}
use Rattle.vr_http.specs.declared.responses.Response.{Response}
use Rattle.vr_face.specs.Answers.{response_in}
use Rattle.vr_face.specs.declared.responding.Manner.{Manner}
use Rattle.vr_face.proofs.RequestSteps.{exchanged, unasked, unwritten}
use Rattle.vr_face.proofs.sessions.serve_request.Goals as goal

pub returns-in_default-clause-serves : goal.returns-in_default-clause-serves
returns-in_default-clause-serves g c = unasked _ _ _ _ _ _ _ _ _ _ c.in_default.ensures.answers

pub returns-in_default-respond-clause-serves : goal.returns-in_default-respond-clause-serves
returns-in_default-respond-clause-serves g c = unwritten _ _ _ _ _ _ _ _ _ _ c.in-Ok.answer c.in-Ok.ensures.answers

pub returns-in-Ok-send-clause-serves : goal.returns-in-Ok-send-clause-serves
returns-in-Ok-send-clause-serves g c =
    let answer = c.in-Ok.answer in
    let manner = ap (λ (manner : Manner). response_in manner answer) c.manner_of-manner.ensures in
    let text = c.in-Ok-respond.ensures.response ∙ manner in
    let written = subst (λ (response : Response). Appends (g.L.Sink.written c.args.link.now) (g.L.Sink.written c.send.new.link) (response_bytes response))
    text c.in-Ok-send.ensures.sends in
    rw c.after_response.ensures (exchanged _ _ _ _ _ _ _ _ _ _ _ _ answer c.in-Ok.ensures.answers c.send.ensures.left written)
