use Rattle.std.proofs.Common.{◌∙◌, ap, arith}
use Rattle.vr_turn.specs.declared.views.Knowledge.{Knowledge}
use Rattle.vr_session.proofs.Seating.{made_none, none_made, regains_none, regains_split, seat_gave, seat_given, seat_joined, seat_like}
use Rattle.vr_session.proofs.Settling.{alone_joined, alone_none, rose_since}
use Rattle.vr_session.proofs.attending.serve_alone.Goals as goal

pub returns-in-Err-clause-porch : goal.returns-in-Err-clause-porch
returns-in-Err-clause-porch g c =
    let same = c.in-Err.ensures.err in
    record {
      seat = seat_like _ c.args.seat c.split.new.seat c.requires.seat c.split.ensures.turn (ap (λ (k : Knowledge). k.seen) same);
      regains = rw same (regains_none c.args.seat.knows);
      over = tt;
      risen = λ e. cc (e);
    }

pub returns-in-Err-clause-one : goal.returns-in-Err-clause-one
returns-in-Err-clause-one g c =
    let same = c.in-Err.ensures.err in
    let faults = ap (λ (k : Knowledge). k.faults) same in
    record {
      apart = rw same (none_made c.args.seat.knows.number c.args.seat.knows c.requires.first.1);
      alone = alone_none _ _ _ _ _ _ _ (ap (λ (k : Knowledge). k.seen) same ∙ c.requires.first.1) (omega (arith, faults));
    }

pub serve_at-answer-requires : goal.serve_at-answer-requires
serve_at-answer-requires g c =
    let split = c.in-Ok.ensures.ok in
    record { seat = seat_given _ c.args.seat c.in-Ok.own c.requires.seat split.0 split.1 }

pub returns-clause-porch : goal.returns-clause-porch
returns-clause-porch g c =
    let split = c.in-Ok.ensures.ok in
    let served = c.serve_at-answer.ensures in
    record {
      seat = seat_joined _ c.split.new.seat _ _ (seat_gave _ c.args.seat c.split.new.seat c.requires.seat c.split.ensures.turn split.2) served.seat c.join.ensures.turn c.join.ensures.joins;
      regains = regains_split _ _ _ _ _ _ split.2 split.1 (regains_none c.split.new.seat.knows) served.stays c.join.ensures.joins;
      over = served.over;
      risen = λ e. rose_since _ _ _ c.args.porch.later (served.cause.failed e);
    }

pub returns-clause-one : goal.returns-clause-one
returns-clause-one g c =
    let split = c.in-Ok.ensures.ok in
    record {
      apart = made_none c.args.seat.knows c.split.new.seat.knows c.join.new.seat.knows split.2 c.requires.first.1 c.join.ensures.joins.this_sees;
      alone = alone_joined _ _ _ _ _ c.args.seat.knows _ _ _ _ _ c.requires.first split.2 split.1 c.join.ensures.joins c.serve_at-answer.ensures.attends;
    }
