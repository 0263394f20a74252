-- The numbers of seats that are joined.
use Rattle.std.proofs.Common.{ℕ, ◌-◌, ◌⊎◌, inl, inr, ⊎_elim, List, arith}
use Rattle.std.proofs.lemmas.List.Elements.{Contains-append_cases, Contains-append_left, Contains-append_right}
use Rattle.std.specs.List.{Contains, range_with_len}
use Rattle.vr_turn.specs.Seats.{numbers, all_numbers, MayGive, Has, joined}
use Rattle.vr_turn.specs.declared.views.Knowledge.{Knowledge}
use Rattle.vr_turn.proofs.Histories.{in_range, of_range}

in_given : (knows : Knowledge) (x : ℕ) → Contains (range_with_len knows.next (knows.end - knows.next)) x → MayGive knows x
in_given knows x c = let r = in_range knows.next (knows.end - knows.next) x c in (r.0, omega (arith, r.0, r.1))

of_given : (knows : Knowledge) (x : ℕ) → MayGive knows x → Contains (range_with_len knows.next (knows.end - knows.next)) x
of_given knows x m = of_range knows.next (knows.end - knows.next) x m.0 (omega (arith, m.0, m.1))

-- each number of a joined seat comes from one of the two, and each of theirs is one of its
pub from_both : (this other : Knowledge) (x : ℕ) → Contains (numbers (joined this other)) x → Contains (numbers this) x ⊎ (Contains (numbers other) x ⊎ MayGive other x)
from_both this other x c =
    ⊎_elim (λ (mine : Contains (numbers this) x). inl mine)
    (λ (more : Contains (all_numbers other) x).
    ⊎_elim (λ (own : Contains (numbers other) x). inr (inl own)) (λ (free : Contains (range_with_len other.next (other.end - other.next)) x). inr (inr (in_given other x free)))
    (Contains-append_cases (numbers other) (range_with_len other.next (other.end - other.next)) x more)) (Contains-append_cases (numbers this) (all_numbers other) x c)

pub other_has : (this other : Knowledge) (x : ℕ) → Has other x → Has (joined this other) x
other_has this other x has =
    let free : List ℕ = range_with_len other.next (other.end - other.next) in
    inl (Contains-append_right (numbers this) (all_numbers other) x
    (⊎_elim (λ (own : Contains (numbers other) x). Contains-append_left (numbers other) free x own) (λ (m : MayGive other x). Contains-append_right (numbers other) free x (of_given other x m)) has))

pub this_has : (this other : Knowledge) (x : ℕ) → Has this x → Has (joined this other) x
this_has this other x has =
    ⊎_elim (λ (own : Contains (numbers this) x). inl (Contains-append_left (numbers this) (all_numbers other) x own)) (λ (m : MayGive this x). inr m) has
