use Rattle.std.proofs.Common.{refl, arith}
use Rattle.vr_face.proofs.AnswerLemmas.{own_rises, reply_rises}
use Rattle.vr_face.proofs.SessionLemmas.{sees_call, sees_nothing}
use Rattle.vr_face.proofs.sessions.answer_of.Goals as goal

pub returns-in-Ok-clause-answers : goal.returns-in-Ok-clause-answers
returns-in-Ok-clause-answers g c =
    let reply = c.ask.result.0 in
    let asked = c.in-Ok.ask in
    rw c.in-Ok.ensures (record {
      may = (reply, refl);
      sees = sees_call _ asked.who asked.call reply _ _ c.ask.ensures.seen;
      failures = reply_rises reply _ (g.D.Desk.found c.ask.new.self) _ c.ask.ensures.later c.ask.ensures.licensed;
      later = c.ask.ensures.later;
    })

pub returns-in-Err-Answered-clause-answers : goal.returns-in-Err-Answered-clause-answers
returns-in-Err-Answered-clause-answers g c =
    let answer = c.in-Err-Answered.answer in
    let own = rw c.in-Err-Answered.field-0-is at c.in-Err-Answered.ensures in
    rw own (record {
      may = refl;
      sees = sees_nothing _ (g.D.Desk.seen c.args.desk.now);
      failures = own_rises c.args.keys.now c.args.request answer (g.D.Desk.faults c.args.desk.now) own;
      later = omega arith;
    })
