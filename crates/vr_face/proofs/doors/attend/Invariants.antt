-- The connections so far were served one after the other.
use Rattle.std.proofs.Common.{◌≡◌, ◌≤◌}
use Rattle.std.specs.Option.{IfSome}
use Rattle.vr_face.specs.Doors.{Attends, desk_state}
use Rattle.vr_face.proofs.doors.attend.Given as goal

abbrev pub invariant-loop-conn : goal.invariant-loop-conn
invariant-loop-conn g l = record {
  attends : IfSome (g.P.Door.ended l.door) (λ list. Attends l.keys (g.D.Desk.seat l.fn.desk) (g.P.Door.ended l.fn.door) list
      (g.P.Door.handed_out l.fn.door) (g.P.Door.handed_out l.door) (desk_state (g.D.Desk.seen l.fn.desk) (g.D.Desk.faults l.fn.desk))
      (desk_state (g.D.Desk.seen l.desk) (g.D.Desk.faults l.desk)) l.wanted);
  seat : g.D.Desk.seat l.desk ≡ g.D.Desk.seat l.fn.desk;
  origin : g.D.Desk.origin l.desk ≡ g.D.Desk.origin l.fn.desk;
  later : g.P.Door.faults l.fn.door ≤ g.P.Door.faults l.door;
}

abbrev pub decreases-loop-conn : goal.decreases-loop-conn
decreases-loop-conn g l = g.P.Door.left l.door
