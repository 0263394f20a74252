-- Whatever is served from now on is served from the beginning on.
use Rattle.std.proofs.Common.{◌≡◌, ◌-◌, ◌<◌, ◌≤◌}
use Rattle.vr_http.specs.Inboxes.{stream, unread}
use Rattle.vr_face.specs.Sessions.{Moment, ServesFrom, Serves, moment}
use Rattle.vr_face.specs.declared.sessions.SessionEnd.{SessionEnd}
use Rattle.vr_face.proofs.sessions.serve_all.Given as goal

abbrev pub invariant-loop-end : goal.invariant-loop-end
invariant-loop-end g l = record {
  serves : (after : Moment) (end : SessionEnd)
      → ServesFrom l.keys (g.D.Desk.seat l.fn.desk) l.taken
      (moment (stream (unread l.inbox) (g.L.Source.left l.link)) (g.L.Sink.written l.link) (g.D.Desk.seen l.desk) (g.D.Desk.faults l.desk)) after end
      → Serves l.keys (g.D.Desk.seat l.fn.desk)
      (moment (stream (unread l.fn.inbox) (g.L.Source.left l.fn.link)) (g.L.Sink.written l.fn.link) (g.D.Desk.seen l.fn.desk) (g.D.Desk.faults l.fn.desk)) after end;
  seat : g.D.Desk.seat l.desk ≡ g.D.Desk.seat l.fn.desk;
  origin : g.D.Desk.origin l.desk ≡ g.D.Desk.origin l.fn.desk;
  input : g.L.Link.input l.link ≡ g.L.Link.input l.fn.link;
  later : g.L.Source.faults l.fn.link ≤ g.L.Source.faults l.link;
  few : l.taken < 65536;
}

abbrev pub decreases-loop-end : goal.decreases-loop-end
decreases-loop-end g l = 65536 - l.taken
