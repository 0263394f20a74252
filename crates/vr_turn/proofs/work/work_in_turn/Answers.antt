use Rattle.std.proofs.Common.{◌≡◌, sym, ap, ◌∙◌, subst, refl}
use Rattle.vr_turn.specs.Accounts.{AddsAtMostOne}
use Rattle.vr_turn.specs.Plays.{held_of}
use Rattle.vr_turn.specs.Seats.{turned}
use Rattle.vr_turn.specs.declared.views.Held.{Held}
use Rattle.vr_turn.specs.declared.views.Knowledge.{Knowledge}
use Rattle.vr_turn.proofs.Working.{found_of, while_working, after_work, holding_own, resting_own}
use Rattle.vr_turn.proofs.work.work_in_turn.Goals as goal

pub note_entry-requires-clause-holds : goal.note_entry-requires-clause-holds
note_entry-requires-clause-holds g c =
    let account = g.T.Chronicle.account in
    let took = c.take_value-value in
    let knows = c.args.seat.now.me.0.knows in
    let left = c.work-answer.new.arg2 in
    let found = found_of account c.args.top.now.key.first.value knows c.args.seat.now.me took.result c.requires.takes took.ensures.value in
    let works = c.requires.works took.result left c.work-answer.result found.1 record { shown = _; shows = refl; left = _; met = c.work-answer.ensures; leaves = refl } in
    let same : took.new.seat.me.0.knows ≡ knows = ap (λ m. m.0.knows) took.ensures.me in (
      held_of account took.result,
      while_working account c.args.top.now.key.first.value c.args.seat.now.me took.new.seat.me knows took.result found.0 took.ensures.me,
      c.entries-before.ensures,
      subst (λ (k : Knowledge). AddsAtMostOne k.number (account took.result).history (account left).history) (sym same) works.history,
    )

pub give_value-requires-clause-empty : goal.give_value-requires-clause-empty
give_value-requires-clause-empty g c =
    let account = g.T.Chronicle.account in
    let first = c.args.top.now.key.first.value in
    let took = c.take_value-value in
    let knows = c.args.seat.now.me.0.knows in
    let found = found_of account first knows c.args.seat.now.me took.result c.requires.takes took.ensures.value in
    let noted = c.note_entry.ensures.me (held_of account took.result) (while_working account first c.args.seat.now.me took.new.seat.me knows took.result found.0 took.ensures.me) in
    ap (λ m. m.1) noted.1 ∙ ap (λ m. m.1) took.ensures.me

pub free_turn-requires-clause-holds : goal.free_turn-requires-clause-holds
free_turn-requires-clause-holds g c =
    let account = g.T.Chronicle.account in
    let first = c.args.top.now.key.first.value in
    let took = c.take_value-value in
    let knows = c.args.seat.now.me.0.knows in
    let left = c.work-answer.new.arg2 in
    let found = found_of account first knows c.args.seat.now.me took.result c.requires.takes took.ensures.value in
    let works = c.requires.works took.result left c.work-answer.result found.1 record { shown = _; shows = refl; left = _; met = c.work-answer.ensures; leaves = refl } in
    let noted = c.note_entry.ensures.me (held_of account took.result) (while_working account first c.args.seat.now.me took.new.seat.me knows took.result found.0 took.ensures.me) in
    let gave = after_work account first c.args.seat.now.me took.new.seat.me c.note_entry.new.seat.me c.give_value.new.seat.me took.result left noted.0 took.ensures.me noted.1 c.give_value.ensures.me in
    let held : Held = record { history = (account left).history; faults = (account took.result).faults } in (
      held,
      left,
      holding_own c.give_value.new.seat.me (record knows { seen = noted.0 }) held _ gave,
      works.origin ∙ found.1.origin,
      refl,
      works.faults,
    )

pub returns-clause-rests : goal.returns-clause-rests
returns-clause-rests g c =
    let account = g.T.Chronicle.account in
    let first = c.args.top.now.key.first.value in
    let took = c.take_value-value in
    let knows = c.args.seat.now.me.0.knows in
    let left = c.work-answer.new.arg2 in
    let found = found_of account first knows c.args.seat.now.me took.result c.requires.takes took.ensures.value in
    let noted = c.note_entry.ensures.me (held_of account took.result) (while_working account first c.args.seat.now.me took.new.seat.me knows took.result found.0 took.ensures.me) in
    let gave = after_work account first c.args.seat.now.me took.new.seat.me c.note_entry.new.seat.me c.give_value.new.seat.me took.result left noted.0 took.ensures.me noted.1 c.give_value.ensures.me in
    let held : Held = record { history = (account left).history; faults = (account took.result).faults } in
    resting_own c.free_turn.new.seat.me _ (c.free_turn.ensures.me held left (holding_own c.give_value.new.seat.me (record knows { seen = noted.0 }) held _ gave))

pub returns-clause-took : goal.returns-clause-took
returns-clause-took g c =
    let account = g.T.Chronicle.account in
    let first = c.args.top.now.key.first.value in
    let took = c.take_value-value in
    let knows = c.args.seat.now.me.0.knows in
    let left = c.work-answer.new.arg2 in
    let found = found_of account first knows c.args.seat.now.me took.result c.requires.takes took.ensures.value in
    let noted = c.note_entry.ensures.me (held_of account took.result) (while_working account first c.args.seat.now.me took.new.seat.me knows took.result found.0 took.ensures.me) in
    let gave = after_work account first c.args.seat.now.me took.new.seat.me c.note_entry.new.seat.me c.give_value.new.seat.me took.result left noted.0 took.ensures.me noted.1 c.give_value.ensures.me in
    let held : Held = record { history = (account left).history; faults = (account took.result).faults } in
    let after = c.free_turn.ensures.me held left (holding_own c.give_value.new.seat.me (record knows { seen = noted.0 }) held _ gave) in
    record {
      found = took.result;
      left = left;
      finds = found.1;
      done = record { shown = _; shows = refl; left = _; met = c.work-answer.ensures; leaves = refl };
      works = c.requires.works took.result left c.work-answer.result found.1 record { shown = _; shows = refl; left = _; met = c.work-answer.ensures; leaves = refl };
      knows = ap (λ m. m.0.knows) after ∙ ap (λ m. turned m.0.knows held.history (account left).faults held.faults) gave;
    }
