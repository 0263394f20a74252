-- What comes back of a listener and a book once all connections were served, and of a seat from
-- which they were.
use Rattle.std.specs.List.{All}
use Rattle.std.specs.Prelude.{◌≡◌, ◌≤◌, ℕ, ◌+◌, Bool, List, Option, IfSome, Result, Err, OnOk}
use Rattle.vr_base.specs.Causes.{HasCauseOf, Rose}
use Rattle.vr_base.specs.Links.{EndedLink}
use Rattle.vr_core.specs.History.{BookState, IsBook}
use Rattle.vr_core.specs.Isolation.{IsIsolatedHistory}
use Rattle.vr_face.specs.Doors.{says_want}
use Rattle.vr_face.specs.Porches.{KeepsServed}
use Rattle.vr_face.specs.declared.doors.AttendFault.{AttendFault}
use Rattle.vr_face.specs.declared.doors.AttendFault.TheVariants.{Failed}
use Rattle.vr_face.specs.declared.keys.Keys.{Keys}
use Rattle.vr_files.specs.FileMaps.{FileMap}
use Rattle.vr_turn.specs.Rule.{HasNone}
use Rattle.vr_turn.specs.Turns.{SeatState, TurnState}
use Rattle.vr_turn.specs.declared.views.Knowledge.{Knowledge}
use Rattle.vr_session.specs.Workers.{AttendsAlone, IsSeatOf, Regains}
use Rattle.vr_session.specs.declared.shared_book.SharedBook.{SharedBook}

-- ---- a listener and a book

-- What a listener tells: whether it listens, how many connections it handed out, those that were
-- given back, and its count of faults.
pub record ListenerState : Type 0 where
  pub listens : Bool
  pub handed_out : ℕ
  pub ended : Option (List EndedLink)
  pub faults : ℕ

-- a listener that tells this
abbrev pub told : Bool → ℕ → Option (List EndedLink) → ℕ → ListenerState
told listens handed_out ended faults =
    record { listens = listens; handed_out = handed_out; ended = ended; faults = faults }

-- What comes back of a listener over which so many sessions were to be served, with this answer.
pub record IsAttended (sessions : ℕ) (answer : Result (Unit {0}) AttendFault)
    (old new : ListenerState) : Type 0 where
  -- it listens as it did
  pub listens : new.listens ≡ old.listens
  -- with `Ok` it handed out as many connections as there were to be sessions
  pub count : OnOk answer (new.handed_out ≡ old.handed_out + sessions)
  -- and never more
  pub most : new.handed_out ≤ old.handed_out + sessions
  -- the connections that were given back are served, as far as the answer says
  pub served : KeepsServed old.ended new.ended (says_want answer)
  -- its count of faults didn't fall, and an accept failed only where it rose
  pub cause : HasCauseOf Failed old.faults new.faults answer

-- What comes back of a book without calls, of which so many workers made some.
pub record ComesBack {K : Type 0} (rows : K → Option FileMap) (is_loaded : K → Bool)
    (faults : K → ℕ) (workers : ℕ) (old new : BookState K) : Type 0 where
  -- its journal is legal from its origin on, and its files are those after it
  pub book : IsBook rows is_loaded new
  -- it began as it did
  pub origin : new.origin ≡ old.origin
  -- what each identity was replied depends on no calls but those of which the policy lets it learn
  pub isolated : IsIsolatedHistory new.origin new.journal
  -- each entry has the number of a worker's seat, or 0, that of the first seat
  pub numbered : All (λ entry. entry.seat ≤ workers) new.journal
  -- and that of the one worker's where there is one
  pub alone : workers ≡ 1 → All (λ entry. entry.seat ≡ 1) new.journal
  -- its keeper's count of faults didn't fall
  pub keeper : faults old.keeper ≤ faults new.keeper

-- ---- a seat

-- All that a porch may hand out was served from a seat of this turn, with this answer: how many it
-- may still hand out then, and its listener's counts of faults as it was made and then.
pub record ServesPorch {K : Type 0} (turn : TurnState (SharedBook K)) (old new : SeatState)
    (answer : Result (Unit {0}) AttendFault) (left faults_old faults_new : ℕ) : Type 0 where
  -- the seat that comes back is one of the turn
  pub seat : IsSeatOf turn new
  -- and has all numbers that it had
  pub regains : Regains old.knows new.knows
  -- without a fault no connection is left to be handed out
  pub over : OnOk answer (left ≡ 0)
  -- an accept failed only where the count rose
  pub risen : answer ≡ Err Failed → Rose faults_old faults_new

-- One worker, at a seat that was split off from this one, served the connections of a listener: by
-- the list of those given back and the number handed out, each before and after.
pub record ServesByOne (keys : Keys) (old new : Knowledge)
    (answer : Result (Unit {0}) AttendFault) (ended_old ended_new : Option (List EndedLink))
    (handed_old handed_new : ℕ) : Type 0 where
  -- no entry is of the seat itself
  pub apart : HasNone old.number new.seen
  -- where the list is told, the entries are the calls of the sessions on those given back
  pub alone : IfSome ended_new (λ list. AttendsAlone keys ended_old list handed_old handed_new
      old.faults new.faults new.seen answer)
