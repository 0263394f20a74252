use Rattle.std.proofs.Common.{◌∙◌}
use Rattle.vr_core.specs.History.{IsLegal}
use Rattle.vr_core.specs.Isolation.{IsIsolatedHistory}
use Rattle.vr_session.proofs.Asking.{works_by, asks_by, sees_asked, left_by, licensed_by}
use Rattle.vr_session.proofs.shared_desk.SharedDeskDesk.ask.Goals as goal

pub with_turn-reply-requires-clause-works : goal.with_turn-reply-requires-clause-works
with_turn-reply-requires-clause-works g c found left answer finds met =
    works_by g.K.Keeper.faults _ _ _ _ _ _ _ _ _ _ c.number-number.ensures met.shows met.leaves met.met

pub returns-clause-asks : goal.returns-clause-asks
returns-clause-asks g c =
    let t = c.with_turn-reply.ensures.took in
    asks_by g.K.Keeper.faults _ _ _ _ _ _ _ _ _ _ _ t c.number-number.ensures t.done.shows t.done.leaves t.done.met

pub returns-clause-seen : goal.returns-clause-seen
returns-clause-seen g c =
    let t = c.with_turn-reply.ensures.took in
    sees_asked g.K.Keeper.faults _ _ _ _ _ _ (asks_by g.K.Keeper.faults _ _ _ _ _ _ _ _ _ _ _ t c.number-number.ensures t.done.shows t.done.leaves t.done.met)

pub returns-clause-legal : goal.returns-clause-legal
returns-clause-legal g c =
    let t = c.with_turn-reply.ensures.took in
    left_by g.K.Keeper.faults IsLegal _ _ _ _ _ t t.done.leaves t.done.met.legal

pub returns-clause-isolated : goal.returns-clause-isolated
returns-clause-isolated g c =
    let t = c.with_turn-reply.ensures.took in
    left_by g.K.Keeper.faults IsIsolatedHistory _ _ _ _ _ t t.done.leaves t.done.met.isolated

pub returns-clause-licensed : goal.returns-clause-licensed
returns-clause-licensed g c is =
    let t = c.with_turn-reply.ensures.took in
    licensed_by g.K.Keeper.faults _ _ _ _ _ _ _ _ _ _ _ t t.done.shows t.done.leaves t.done.met is

pub invariant_of-self : goal.invariant_of-self
invariant_of-self g c =
    let t = c.with_turn-reply.ensures.took in
    record {
      of_turn = record {
        here = c.with_turn-reply.ensures.turn ∙ c.args.self.now.of_turn.here;
        legal = ∣ left_by g.K.Keeper.faults IsLegal _ _ _ _ _ t t.done.leaves t.done.met.legal ∣₁;
        isolated = left_by g.K.Keeper.faults IsIsolatedHistory _ _ _ _ _ t t.done.leaves t.done.met.isolated;
      };
    }
