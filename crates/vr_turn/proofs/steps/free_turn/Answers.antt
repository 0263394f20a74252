use Rattle.std.proofs.Common.{arith}
use Rattle.vr_turn.proofs.Keeping.{frees}
use Rattle.vr_turn.proofs.steps.free_turn.Goals as goal

pub store-requires : goal.store-requires
store-requires g c =
    let words = c.requires.table.words in
    let slots = c.requires.table.slots in
    let h = c.requires.holds in
    (c.requires.table.same, omega arith, rw h.2 (frees g.T.Chronicle.account c.args.top.now.key.most c.args.top.now.key.first.value _ _ c.args.seat.now.me.0.knows h.0 h.1 (omega arith) h.3 h.4 h.5))

pub returns-clause-me : goal.returns-clause-me
returns-clause-me g c held y is = c.store.ensures.2 c.args.seat.now.me.0.knows held y is
