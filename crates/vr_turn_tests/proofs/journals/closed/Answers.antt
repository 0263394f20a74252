use Rattle.std.proofs.Common.{◌≡◌, ℕ, zero, suc, ◌<◌, sym, subst, arith, inl}
use Rattle.vr_turn.specs.Seats.{numbers, Has, joined}
use Rattle.vr_turn.specs.declared.views.Knowledge.{Knowledge}
use Rattle.vr_turn.proofs.Numbers.{this_has, other_has}
use Rattle.vr_turn_tests.proofs.journals.closed.Goals as goal

has_own : (knows : Knowledge) (number : ℕ) → knows.number ≡ number → Has knows number
has_own knows number is = inl (0, omega arith, is)

two : (k l : Knowledge) (number : ℕ) → k.number ≡ 0 → l.number ≡ 1 → number < 2 → Has (joined k l) number
two k l zero mine theirs below = this_has k l 0 (has_own k 0 mine)
two k l (suc zero) mine theirs below = other_has k l 1 (has_own l 1 theirs)
two k l (suc (suc n)) mine theirs below = absurd (omega arith)

pub close-requires-clause-all : goal.close-requires-clause-all
close-requires-clause-all c number below =
    let below_two : number < 2 = subst (λ (most : ℕ). number < most) c.requires.turn.2 below in
    subst (λ (knows : Knowledge). Has knows number) (sym c.join.ensures.joins.knows)
    (two c.args.first.knows c.args.second.knows number c.requires.numbers.0 c.requires.numbers.1 below_two)
