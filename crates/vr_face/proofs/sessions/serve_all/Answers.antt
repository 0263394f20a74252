use Rattle.std.proofs.Common.{ℕ, ◌+◌, refl, subst, arith, ◌∙◌}
use Rattle.vr_http.specs.Inboxes.{stream, unread}
use Rattle.vr_face.specs.Sessions.{ServesOne, moment}
use Rattle.vr_face.proofs.SessionLemmas.{serves_more}
use Rattle.vr_face.proofs.sessions.serve_all.Goals as goal

pub loop-end-preserved : goal.loop-end-preserved
loop-end-preserved g c =
    let keys = c.args.keys.now in
    let taken = c.loop-end.taken in
    let step = c.in-None.ensures in
    let before = moment (stream (unread c.loop-end.inbox) (g.L.Source.left c.loop-end.link)) (g.L.Sink.written c.loop-end.link)
    (g.D.Desk.seen c.loop-end.desk) (g.D.Desk.faults c.loop-end.desk) in
    let mid = moment (stream (unread c.serve_next.new.inbox) (g.L.Source.left c.serve_next.new.link)) (g.L.Sink.written c.serve_next.new.link)
    (g.D.Desk.seen c.serve_next.new.desk) (g.D.Desk.faults c.serve_next.new.desk) in
    let one = subst (λ (seat : ℕ). ServesOne keys seat (taken + 1) before mid) c.loop-end.invariant.seat step.serves in
    record {
      serves = λ after end served. c.loop-end.invariant.serves after end
          (serves_more keys (g.D.Desk.seat c.args.desk.now) taken before mid after end one served);
      seat = step.seat ∙ c.loop-end.invariant.seat;
      origin = step.origin ∙ c.loop-end.invariant.origin;
      input = step.input ∙ c.loop-end.invariant.input;
      later = omega (arith, step.cause.later, c.loop-end.invariant.later);
      few = step.more refl;
    }
