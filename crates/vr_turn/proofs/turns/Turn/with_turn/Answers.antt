use Rattle.std.proofs.Common.{◌≡◌, sym, ap, ◌∙◌, subst}
use Rattle.vr_turn.specs.Accounts.{Works}
use Rattle.vr_turn.specs.Turns.{Finds}
use Rattle.vr_turn.specs.declared.views.Knowledge.{Knowledge}
use Rattle.vr_turn.proofs.turns.Turn.with_turn.Goals as goal

pub work_in_turn-requires-clause-works : goal.work_in_turn-requires-clause-works
work_in_turn-requires-clause-works g c y z r finds met =
    let account = g.T.Chronicle.account in
    let knows : c.try_turn.new.seat.me.0.knows ≡ c.args.seat.now.knows =
    ap (λ m. m.0.knows) (c.try_turn.ensures.won c.if-try_turn.true).me ∙ (ap (λ m. m.0.knows) c.loop.invariant.5 ∙ ap (λ s. s.knows) c.seat.view_is) in
    let first = ap (λ t. t.first) c.self.view_is in
    let found = subst (λ k. Finds account c.args.self.now.first k y) knows (subst (λ f. Finds account f c.try_turn.new.seat.me.0.knows y) first finds) in
    subst (λ (k : Knowledge). Works account k.number y z) (sym knows) (c.requires.works y z r found met)
