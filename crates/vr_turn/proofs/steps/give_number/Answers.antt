use Rattle.std.proofs.Common.{arith}
use Rattle.vr_turn.proofs.Joining.{splits}
use Rattle.vr_turn.proofs.steps.give_number.Goals as goal

pub split_seat-requires : goal.split_seat-requires
split_seat-requires g c =
    let words = c.requires.table.words in
    (c.requires.table.same, omega arith, rw c.requires.rests (splits g.T.Chronicle.account c.args.top.now.key.most c.args.top.now.key.first.value _ c.args.seat.now.me.0.knows c.requires.room))
