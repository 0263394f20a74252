use Rattle.std.proofs.Common.{rules, arith}
use Rattle.std.proofs.Common.{ap}
use Rattle.vr_turn.specs.declared.views.Knowledge.{Knowledge}
use Rattle.vr_session.proofs.Seating.{regains_split, seat_gave, seat_given, seat_joined, seat_like}
use Rattle.vr_session.proofs.workers.+workers.Goals as goal

pub returns-in-Err-clause-seat : goal.returns-in-Err-clause-seat
returns-in-Err-clause-seat g t c =
    seat_like _ c.args.seat c.split.new.seat c.requires.seat c.split.ensures.turn (ap (λ (k : Knowledge). k.seen) c.in-Err.ensures.err)

pub returns-clause-seat : goal.returns-clause-seat
returns-clause-seat g t c =
    seat_joined _ c.work_beside-own.result.1 _ _ c.work_beside-own.ensures.others.0 c.work_beside-own.ensures.seat c.join.ensures.turn c.join.ensures.joins

pub returns-clause-regains : goal.returns-clause-regains
returns-clause-regains g t c =
    let split = c.in-Ok.ensures.ok in
    regains_split _ _ _ _ _ _ split.2 split.1 c.work_beside-own.ensures.others.1 c.work_beside-own.ensures.stays c.join.ensures.joins

pub work_beside-own-requires-clause-seat : goal.work_beside-own-requires-clause-seat
work_beside-own-requires-clause-seat g t c κs within = seat_given _ c.args.seat c.in-Ok.own c.requires.seat c.in-Ok.ensures.ok.0 c.in-Ok.ensures.ok.1

pub work_beside-own-requires-clause-others : goal.work_beside-own-requires-clause-others
work_beside-own-requires-clause-others g t c κs within =
    let gave = c.in-Ok.ensures.ok.2 in
    let next = ap (λ (k : Knowledge). k.next) gave in
    let end = ap (λ (k : Knowledge). k.end) gave in (
      search rules,
      (
        (λ a h. h),
        (
          (λ a h. h),
          (
            (λ a h. h),
            (
              (λ a h. h),
              (
                (λ a h. h),
                (
                  (λ a h. h),
                  (
                    (seat_gave _ c.args.seat c.split.new.seat c.requires.seat c.split.ensures.turn gave, omega (arith, next, end, c.requires.room, c.if-workers-eq0.false)),
                    search rules,
                  ),
                ),
              ),
            ),
          ),
        ),
      ),
    )
