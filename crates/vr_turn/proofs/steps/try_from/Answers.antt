use Rattle.std.proofs.Common.{arith}
use Rattle.vr_turn.proofs.Keeping.{tries}
use Rattle.vr_turn.proofs.steps.try_from.Goals as goal

pub compare_exchange-requires : goal.compare_exchange-requires
compare_exchange-requires g c =
    let words = c.requires.table.words in
    (c.requires.table.same, omega arith, rw c.requires.rests (tries g.T.Chronicle.account c.args.top.now.key.most c.args.top.now.key.first.value _ _ c.args.seat.now.me.0.knows g.O.Fact.holds c.requires.source))
