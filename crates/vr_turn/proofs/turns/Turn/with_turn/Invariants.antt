-- The seat rests, and knows what it knew.
use Rattle.std.proofs.Common.{◌≡◌}
use Rattle.vr_turn.proofs.turns.Turn.with_turn.Given as goal

abbrev pub invariant-loop : goal.invariant-loop
invariant-loop g l =
    (goal.iterator-loop g).can_next l.iterator' × (goal.iterator-loop g).is_finite l.iterator'
    × (l.seat-inside.number ≡ l.initial.seat-inside.number) × (l.seat-inside.next ≡ l.initial.seat-inside.next)
    × (l.seat-inside.place.table_id ≡ l.initial.seat-inside.place.table_id) × (l.seat-inside.place.me ≡ l.initial.seat-inside.place.me)
