use Rattle.std.proofs.Common.{◌≡◌, arith, ap, ◌∙◌, sym, subst, []}
use Rattle.vr_turn.specs.Rule.{SeesOwn}
use Rattle.vr_turn.specs.Seats.{joined, resting}
use Rattle.vr_turn.specs.declared.views.Knowledge.{Knowledge}
use Rattle.vr_turn.proofs.Joining.{joins, looks}
use Rattle.vr_turn.proofs.Working.{resting_own}
use Rattle.vr_turn.proofs.steps.take_in.Goals as goal

pub join_seat-requires : goal.join_seat-requires
join_seat-requires g c =
    let words = c.requires.table.words in (
      c.requires.table.same,
      c.requires.other.0,
      ap (λ m. m.1) c.requires.other.1,
      omega arith,
      rw (c.requires.rests, c.requires.other.1) (joins g.T.Chronicle.account c.args.top.now.key.most c.args.top.now.key.first.value _ c.args.seat.now.me.0.knows _ c.args.other.me.0.knows),
    )

pub load-requires : goal.load-requires
load-requires g c =
    let words = c.requires.table.words in
    let this = c.args.seat.now.me.0.knows in
    let other = c.args.other.me.0.knows in (
      c.join_seat.ensures.0 ∙ c.requires.table.same,
      omega arith,
      rw c.join_seat.ensures.2
          (looks g.T.Chronicle.account c.args.top.now.key.most c.args.top.now.key.first.value _ _ (joined this other) record { this = this; other = other } _),
    )

pub returns-clause-rests : goal.returns-clause-rests
returns-clause-rests g c =
    let looked = c.load.ensures.2 record { this = c.args.seat.now.me.0.knows; other = c.args.other.me.0.knows } (ap (λ m. m.0.doing) c.join_seat.ensures.2) in
    let slots : c.join_seat.new.seat.me.1 ≡ [] = ap (λ m. m.1) c.join_seat.ensures.2 ∙ ap (λ m. m.1) c.requires.rests in
    resting_own c.load.new.seat.me c.join_seat.new.seat.me.0.knows
    (looked.0 ∙ (λ i. (resting c.join_seat.new.seat.me.0.knows, slots i)))

pub returns-clause-joins : goal.returns-clause-joins
returns-clause-joins g c =
    let this = c.args.seat.now.me.0.knows in
    let other = c.args.other.me.0.knows in
    let looked = c.load.ensures.2 record { this = this; other = other } (ap (λ m. m.0.doing) c.join_seat.ensures.2) in
    let same = ap (λ m. m.0.knows) looked.0 in
    let seen : c.join_seat.new.seat.me.0.knows.seen ≡ c.load.new.seat.me.0.knows.seen = ap (λ (k : Knowledge). k.seen) (sym same) in
    record {
      knows = same ∙ ap (λ m. m.0.knows) c.join_seat.ensures.2;
      this_sees = subst (SeesOwn this) seen looked.1;
      other_sees = subst (SeesOwn other) seen looked.2;
    }
