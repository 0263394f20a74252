use Rattle.std.proofs.Common.{rules, ◌≡◌, ◌∙◌, arith}
use Rattle.std.specs.Option.{IfSome}
use Rattle.vr_base.specs.Causes.{Rose}
use Rattle.vr_face.specs.Doors.{desk_state}
use Rattle.vr_face.proofs.DoorLemmas.{all_failed, all_over, attends_more}
use Rattle.vr_face.proofs.doors.attend.Goals as goal

pub loop-conn-preserved : goal.loop-conn-preserved
loop-conn-preserved g c =
    let before = c.loop-conn.invariant in
    let served = c.serve_conn-wanted in
    let counts = rw c.in-Ok-Some.field-0-is at c.in-Ok-Some.ensures.handed_out in
    let given = rw (c.next.ensures.ended, before.seat) at served.ensures.given_back in
    record {
      attends = rw served.ensures.handed_out (attends_more c.args.keys.now (g.D.Desk.seat c.args.desk.now)
          (g.P.Door.ended c.args.door.now) (g.P.Door.ended c.loop-conn.door)
          (g.P.Door.handed_out c.args.door.now) (g.P.Door.handed_out c.loop-conn.door) (g.P.Door.handed_out c.next.new.self)
          (desk_state (g.D.Desk.seen c.args.desk.now) (g.D.Desk.faults c.args.desk.now))
          (desk_state (g.D.Desk.seen c.loop-conn.desk) (g.D.Desk.faults c.loop-conn.desk))
          (desk_state (g.D.Desk.seen served.new.desk) (g.D.Desk.faults served.new.desk))
          c.loop-conn.wanted served.result (g.P.Door.ended served.new.door) before.attends given counts);
      seat = served.ensures.seat ∙ before.seat;
      origin = served.ensures.origin ∙ before.origin;
      later = omega (arith, c.next.ensures.cause.later, served.ensures.later, before.later);
    }

pub returns-in-Ok-None-clause-all : goal.returns-in-Ok-None-clause-all
returns-in-Ok-None-clause-all g c =
    let over : IfSome (g.P.Door.handed_out c.next.new.self) (λ _. g.P.Door.left c.next.new.self ≡ 0) = search rules in
    all_over _ _ _ over

pub returns-in-Err-clause-all : goal.returns-in-Err-clause-all
returns-in-Err-clause-all g c =
    let rose : Rose (g.P.Door.faults c.args.door.now) (g.P.Door.faults c.next.new.self) = search rules in
    all_failed _ _ _ rose
