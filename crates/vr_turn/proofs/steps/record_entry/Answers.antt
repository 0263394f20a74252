use Rattle.std.proofs.Common.{◌+◌, ◌^◌, ◌<◌, arith, length, length-append, ap, ◌∷◌, []}
use Rattle.vr_turn.proofs.Keeping.{records}
use Rattle.vr_turn.proofs.steps.record_entry.Goals as goal

pub fetch_add-requires : goal.fetch_add-requires
fetch_add-requires g c =
    let held = c.requires.holds.0 in
    let words = c.requires.table.words in
    let room : length held.history + 1 < 2 ^ 64 = omega (arith, length-append held.history (g.N.Note.entry ∷ []), ap length c.requires.holds.2, c.entries-length.ensures) in
    (c.requires.table.same, omega arith, rw c.requires.holds.1 (records g.T.Chronicle.account c.args.top.now.key.most c.args.top.now.key.first.value _ _ c.args.seat.now.me.0.knows held c.args.seat.now.me.1 g.N.Note.entry c.requires.number room))

pub returns-clause-me : goal.returns-clause-me
returns-clause-me g c held is = c.fetch_add.ensures.2 c.args.seat.now.me.0.knows held is
