use Rattle.std.proofs.Common.{rules, ◌∙◌, ap, arith}
use Rattle.vr_turn.specs.declared.views.Knowledge.{Knowledge}
use Rattle.vr_core.specs.History.{BookState, IsBook}
use Rattle.vr_core.proofs.HistoryLemmas.{book_isolated}
use Rattle.vr_face.proofs.PorchLemmas.{keeps_none}
use Rattle.vr_session.proofs.ComingBack.{unmade_book}
use Rattle.vr_session.proofs.Seating.{has_all, numbered_alone, numbered_within}
use Rattle.vr_session.proofs.Settling.{alone_none}
use Rattle.vr_session.proofs.attending.attend_from.Goals as goal

pub returns-in-Err-clause-book : goal.returns-in-Err-clause-book
returns-in-Err-clause-book g c =
    let is : IsBook g.K.Keeper.rows g.K.Keeper.is_loaded c.args.book = search rules in
    rw c.in-Err.ensures.err.0 (unmade_book g.K.Keeper.rows g.K.Keeper.is_loaded g.K.Keeper.faults c.args.workers c.args.book is c.requires.empty)

pub returns-in-Err-clause-listener : goal.returns-in-Err-clause-listener
returns-in-Err-clause-listener g c =
    let told = c.requires in
    record {
      listens = told.listens;
      count = tt;
      most = omega (arith, told.handed_out);
      served = keeps_none _ _ _ told.ended;
      cause = record { later = omega (arith, told.faults); failed = λ e. cc (e) };
    }

pub returns-in-Err-clause-one : goal.returns-in-Err-clause-one
returns-in-Err-clause-one g c one =
    let same = c.in-Err.ensures.err.0 in
    let faults = ap (λ (b : BookState g.row.K.Denot). g.K.Keeper.faults b.keeper) same in
    rw (c.requires.ended, c.requires.handed_out)
    (alone_none c.args.keys.now g.O.Opening.ended g.O.Opening.handed_out (g.K.Keeper.faults c.args.book.keeper) (g.K.Keeper.faults c.in-Err.book.keeper) c.in-Err.book.journal _
    (ap (λ (b : BookState g.row.K.Denot). b.journal) same ∙ c.requires.empty) (omega (arith, faults)))

pub close-requires-clause-all : goal.close-requires-clause-all
close-requires-clause-all g c =
    let made = c.in-Ok.ensures.ok in
    rw made.0 (has_all _ _ _ _ made.4 c.serve_porch-last.ensures.porch.regains)

pub returns-clause-book : goal.returns-clause-book
returns-clause-book g c =
    let made = c.in-Ok.ensures.ok in
    let closes = c.close.ensures.closes in
    let is : IsBook g.K.Keeper.rows g.K.Keeper.is_loaded c.close.result = search rules in
    let numbered = numbered_within c.args.workers _ c.close.result.journal made.0 closes.numbered in
    record {
      book = is;
      origin = closes.origin ∙ ap (λ (b : BookState g.row.K.Denot). b.origin) made.1;
      isolated = book_isolated g.K.Keeper.rows g.K.Keeper.is_loaded c.close.result is;
      numbered = numbered;
      alone = λ one. numbered_alone c.args.workers _ c.close.result.journal _ one (ap (λ (k : Knowledge). k.number) made.4) closes.history numbered (c.serve_porch-last.ensures.one one).apart;
      keeper = let start = ap (λ (k : Knowledge). k.faults) made.4 in omega (arith, start, c.serve_porch-last.ensures.porch.regains.faults, closes.faults);
    }
