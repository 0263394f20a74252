use Rattle.std.proofs.Common.{◌≡◌, ◌++◌, [], ◌∷◌, List, sym, ap, ◌∙◌}
use Rattle.vr_base.specs.declared.calls.Entry.{Entry}
use Rattle.vr_turn.specs.Accounts.{last_entry}
use Rattle.vr_turn.specs.Plays.{keeps}
use Rattle.vr_turn.specs.declared.views.Held.{Held}
use Rattle.vr_turn.proofs.Histories.{grew_by_last, stays_same}
use Rattle.vr_turn.proofs.Keeping.{held_same}
use Rattle.vr_turn.proofs.work.note_entry.Goals as goal

pub record_entry-requires-clause-holds : goal.record_entry-requires-clause-holds
record_entry-requires-clause-holds g c =
    let h = c.requires.holds in
    let grew = grew_by_last _ h.0.history _ h.3 (λ e. c.if-entries-before.true (c.entries.ensures ∙ e ∙ sym h.2)) in
    (h.0, h.1, grew.0)

pub record_entry-requires-clause-number : goal.record_entry-requires-clause-number
record_entry-requires-clause-number g c =
    let h = c.requires.holds in
    let grew = grew_by_last _ h.0.history _ h.3 (λ e. c.if-entries-before.true (c.entries.ensures ∙ e ∙ sym h.2)) in
    grew.1

pub returns-then-entries-before-clause-me : goal.returns-then-entries-before-clause-me
returns-then-entries-before-clause-me g c held is =
    let h = c.requires.holds in
    let history : List Entry = (g.T.Chronicle.account c.args.value.now).history in
    let grew = grew_by_last _ h.0.history _ h.3 (λ e. c.if-entries-before.true (c.entries.ensures ∙ e ∙ sym h.2)) in
    let same = held_same _ _ h.0 held (sym h.1 ∙ is) in
    let whole : held.history ++ last_entry history ∷ [] ≡ history = ap (λ (x : Held). x.history ++ last_entry history ∷ []) (sym same) ∙ sym grew.0 in
    let seen : List Entry = held.history ++ last_entry history ∷ [] in
    (seen, c.record_entry.ensures.me held is ∙ (λ i. (keeps c.args.seat.now.me.0.knows held seen (whole i), c.args.seat.now.me.1)))

pub returns-else-entries-before-clause-me : goal.returns-else-entries-before-clause-me
returns-else-entries-before-clause-me g c held is =
    let h = c.requires.holds in
    let same = held_same _ _ h.0 held (sym h.1 ∙ is) in
    let history : List Entry = (g.T.Chronicle.account c.args.value.now).history in
    let kept : history ≡ h.0.history = stays_same _ h.0.history _ h.3 (sym c.entries.ensures ∙ c.if-entries-before.false ∙ h.2) in
    let whole : held.history ≡ history = ap (λ (x : Held). x.history) (sym same) ∙ sym kept in
    (c.args.seat.now.me.0.knows.seen, (λ i. (is i, c.args.seat.now.me.1)) ∙ (λ i. (keeps c.args.seat.now.me.0.knows held c.args.seat.now.me.0.knows.seen (whole i), c.args.seat.now.me.1)))
