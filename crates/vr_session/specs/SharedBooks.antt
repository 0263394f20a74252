-- A book as its turn sees it, and what a call from a seat does to it.
use Rattle.std.specs.Prelude.{◌≡◌, ◌≤◌, ℕ, ◌++◌, length}
use Rattle.vr_base.specs.Causes.{Rose}
use Rattle.vr_base.specs.Desks.{own_entries}
use Rattle.vr_base.specs.declared.calls.Call.{Call}
use Rattle.vr_base.specs.declared.calls.Reply.{Reply}
use Rattle.vr_base.specs.declared.calls.Reply.TheVariants.{Unavailable}
use Rattle.vr_core.specs.History.{BookState, IsLegal}
use Rattle.vr_core.specs.Isolation.{IsIsolatedHistory}
use Rattle.vr_core.specs.Machine.{Origin}
use Rattle.vr_turn.specs.Accounts.{Account}
use Rattle.vr_turn.specs.Rule.{SeesOwn}
use Rattle.vr_turn.specs.Seats.{turned}
use Rattle.vr_turn.specs.declared.views.Knowledge.{Knowledge}

-- what a book stands for in a turn: its journal, where that began, and its keeper's count of faults
abbrev pub account_of : {K : Type 0} → (K → ℕ) → BookState K → Account Origin
account_of faults book =
    record { origin = book.origin; history = book.journal; faults = faults book.keeper }

-- A call from a seat was handed to the book: it has its entry at the end of the journal where it
-- was made, and the journal, of this length then, is legal and isolated. Only a keeper that failed
-- makes it unavailable.
pub record TakesCall {K : Type 0} (faults : K → ℕ) (seat who : ℕ) (call : Call)
    (old new : BookState K) (reply : Reply) (entries : ℕ) : Type 0 where
  pub origin : new.origin ≡ old.origin
  pub journal : new.journal ≡ old.journal ++ own_entries seat who call reply
  pub legal : IsLegal new.origin new.journal
  pub isolated : IsIsolatedHistory new.origin new.journal
  pub counted : entries ≡ length new.journal
  pub later : faults old.keeper ≤ faults new.keeper
  pub unkept : reply ≡ Unavailable → Rose (faults old.keeper) (faults new.keeper)

-- A seat asked: its turn found the one book, whose journal begins with all that the seat had seen
-- and has no other entry with one of the seat's numbers; and the book took the call. The seat has
-- seen the journal that its turn left, and its two counts are those of the book's keeper, as the
-- turn found it and left it. Nothing else of what the seat knows changed.
pub record Asks {K : Type 0} (faults : K → ℕ) (origin : Origin) (old : Knowledge) (who : ℕ)
    (call : Call) (reply : Reply) (new : Knowledge) : Type 0 where
  pub found : BookState K
  pub left : BookState K
  pub one : found.origin ≡ origin
  pub own : SeesOwn old found.journal
  pub takes : TakesCall faults old.number who call found left reply (length new.seen)
  pub seen : new.seen ≡ left.journal
  pub found_count : new.found ≡ faults found.keeper
  pub left_count : new.faults ≡ faults left.keeper
  pub same : new ≡ turned old new.seen new.faults new.found
