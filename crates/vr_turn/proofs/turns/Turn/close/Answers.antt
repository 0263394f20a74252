use Rattle.std.proofs.Common.{sym, ap, ◌∙◌, subst}
use mathlib.Core.Option.{some-injective}
use Rattle.vr_turn.specs.Turns.{Closes}
use Rattle.vr_turn.proofs.Keeping.{closes_by}
use Rattle.vr_turn.proofs.Slots.{some_is}
use Rattle.vr_turn.proofs.turns.Turn.close.Goals as goal

pub unreachable-requires : goal.unreachable-requires
unreachable-requires g c =
    let key = c.self.inside.table.shared.key in
    let place = c.seat.inside.place in
    let found = closes_by g.T.Chronicle.account key.most key.first.value place.id place.me _ _ c.args.self c.args.seat
    (ap (λ t. t.most) c.self.view_is) (ap (λ t. t.first) c.self.view_is) (ap (λ s. s.knows) c.seat.view_is) c.requires.all c.seat.invariant.0 c.close_with-closed.ensures.values.2 in
    let same = some-injective _ _ (sym c.take.ensures.value ∙ found.1) in
    let bad = sym c.in-None.is ∙ same in
    cc

pub returns : goal.returns
returns g c =
    let key = c.self.inside.table.shared.key in
    let place = c.seat.inside.place in
    let found = closes_by g.T.Chronicle.account key.most key.first.value place.id place.me _ _ c.args.self c.args.seat
    (ap (λ t. t.most) c.self.view_is) (ap (λ t. t.first) c.self.view_is) (ap (λ s. s.knows) c.seat.view_is) c.requires.all c.seat.invariant.0 c.close_with-closed.ensures.values.2 in
    let same = some-injective _ _ (sym c.take.ensures.value ∙ found.1) in
    let value = some_is _ _ (sym c.in-Some.is ∙ same) in
    subst (Closes g.T.Chronicle.account c.args.self c.args.seat.knows) (sym value) found.2
