-- Workers that serve at seats of one turn.
use Rattle.std.specs.Prelude.{◌≡◌, ◌≤◌, ℕ, Bool, true, List, [], Option, Some, Result, Ok, Err, if◌then◌else◌}
use Rattle.vr_base.specs.Checks.{◌>>◌}
use Rattle.vr_base.specs.Links.{EndedLink}
use Rattle.vr_base.specs.declared.calls.Entry.{Entry}
use Rattle.vr_core.specs.History.{IsLegal}
use Rattle.vr_core.specs.Isolation.{IsIsolatedHistory}
use Rattle.vr_face.specs.Doors.{Attends, desk_state, unless_wanted}
use Rattle.vr_face.specs.declared.doors.AttendFault.{AttendFault}
use Rattle.vr_face.specs.declared.doors.AttendFault.TheVariants.{Failed, OutOfMemory}
use Rattle.vr_face.specs.declared.keys.Keys.{Keys}
use Rattle.vr_turn.specs.Seats.{Has}
use Rattle.vr_turn.specs.Turns.{SeatState, TurnState}
use Rattle.vr_turn.specs.declared.views.Knowledge.{Knowledge}
use Rattle.vr_session.specs.declared.shared_book.SharedBook.{SharedBook}

-- A seat of this turn, and what it has seen is legal and isolated from the origin of the turn's
-- book on.
pub record IsSeatOf {K : Type 0} (turn : TurnState (SharedBook K)) (seat : SeatState)
    : Type 0 where
  pub here : seat.turn ≡ turn.id
  pub legal : ∥ IsLegal turn.first.book.origin seat.knows.seen ∥₁
  pub isolated : IsIsolatedHistory turn.first.book.origin seat.knows.seen

-- A seat that made calls: its numbers are those that it had, and its count of faults is no less.
pub record Stays (old new : Knowledge) : Type 0 where
  pub number : new.number ≡ old.number
  pub taken : new.taken ≡ old.taken
  pub next : new.next ≡ old.next
  pub end : new.end ≡ old.end
  pub faults : old.faults ≤ new.faults

-- A seat from which others were split, and which took them in again: it has all numbers that it
-- had, and its count of faults is no less.
pub record Regains (old new : Knowledge) : Type 0 where
  pub has : (number : ℕ) → Has old number → Has new number
  pub faults : old.faults ≤ new.faults

-- One worker, at seat 1, served the connections that were handed out, one after the other, and gave
-- them back in that order. The calls of their sessions are, in order, the journal's entries of that
-- seat. The counts of faults are the keeper's, before and after. Where a session wanted memory the
-- answer says so.
pub record AttendsAlone (keys : Keys) (old : Option (List EndedLink)) (list : List EndedLink)
    (handed_old handed_new : ℕ) (faults_old faults_new : ℕ) (journal : List Entry)
    (answer : Result (Unit {0}) AttendFault) : Type 0 where
  pub wanted : Bool
  pub faults : ℕ
  pub attends : Attends keys 1 old list (Some handed_old) (Some handed_new)
      (desk_state [] faults_old) (desk_state journal faults) wanted
  pub within : faults ≤ faults_new
  pub memory : wanted ≡ true → answer ≡ Err OutOfMemory

-- The answer for all sessions of a porch: whether one of them wanted memory, what the last ones
-- came to, and whether an accept failed.
abbrev pub joint_answer : Bool → Bool → Result (Unit {0}) AttendFault
    → Result (Unit {0}) AttendFault
joint_answer wanted failed last =
    unless_wanted wanted (last >> (if failed then Err Failed else Ok tt))
