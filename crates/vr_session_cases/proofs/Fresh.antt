-- What the desks of a book without calls need to know of it.
use Rattle.std.proofs.Common.{◌≡◌, ℕ, List, [], ap, ◌==◌}
use Rattle.std.specs.List.{list_all}
use Rattle.vr_base.specs.declared.calls.Entry.{Entry}
use Rattle.vr_core.specs.PlainDesks.{AreBySeat}

-- no entry is of another seat
pub none_by_seat : (seat : ℕ) (journal : List Entry) → journal ≡ [] → AreBySeat seat journal
none_by_seat seat journal none = ap (list_all (λ (e : Entry). e.seat == seat)) none
