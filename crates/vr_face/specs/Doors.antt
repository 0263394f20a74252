-- Connections as a door hands them out and takes them back, and what a desk has seen of them.
use Rattle.std.specs.Prelude.{◌≡◌, ◌↔◌, ℕ, ◌+◌, ◌≤◌, Bool, true, false, List, [], ◌∷◌, ◌++◌, length, map, Option, Some, None, IfSome, option_map, Result, Ok, Err, if◌then◌else◌}
use Rattle.std.specs.List.{list_any}
use Rattle.vr_base.specs.Links.{EndedLink}
use Rattle.vr_base.specs.declared.calls.Entry.{Entry}
use Rattle.vr_base.specs.declared.outside.Failed.{Failed}
use Rattle.vr_face.specs.Sessions.{ServedWith, Serves, moment}
use Rattle.vr_face.specs.declared.doors.AttendFault.{AttendFault}
use Rattle.vr_face.specs.declared.doors.AttendFault.TheVariants.{OutOfMemory}
use Rattle.vr_face.specs.declared.keys.Keys.{Keys}
use Rattle.vr_face.specs.declared.sessions.SessionEnd.{SessionEnd}
use Rattle.vr_face.specs.declared.sessions.SessionEnd.TheVariants as ends

-- ---- one connection

-- A connection that tells its input tells what was written on it, and is served with this end.
abbrev pub IsServed : Option (List ℕ) → Option (List ℕ) → ℕ → SessionEnd → Type 0
IsServed input written faults end =
    IfSome input (λ bytes.
    (sent : List ℕ) × (written ≡ Some sent) × ServedWith bytes sent faults end)

-- One connection fewer may be handed out, where one was; else no more than before.
abbrev pub Lowers : {C : Type 0} → ℕ → ℕ → Result (Option C) Failed → Type 0
Lowers old new (Ok (Some conn)) = old ≡ new + 1
Lowers old new (Ok None) = new ≤ old
Lowers old new (Err failed) = new ≤ old

-- Where the number handed out is told, it is one more with a connection, and else the same.
abbrev pub Counts : {C : Type 0} → Option ℕ → Option ℕ → Result (Option C) Failed → Type 0
Counts old new (Ok (Some conn)) = new ≡ option_map (λ count. count + 1) old
Counts old new (Ok None) = new ≡ old
Counts old new (Err failed) = new ≡ old

-- Where the number handed out is told, there is no connection exactly where no more might be handed out.
abbrev pub IsOver : {C : Type 0} → Option ℕ → ℕ → Result (Option C) Failed → Type 0
IsOver told left result = IfSome told (λ _. (result ≡ Ok None) ↔ (left ≡ 0))

-- ---- connections that were served one after the other

-- What the desk of a seat has seen, and its count of faults.
pub record DeskState : Type 0 where
  pub seen : List Entry
  pub faults : ℕ

-- the state with these
abbrev pub desk_state : List Entry → ℕ → DeskState
desk_state seen faults = record { seen = seen; faults = faults }

-- A connection that was given back, and how its session ended.
pub record Visit : Type 0 where
  pub link : EndedLink
  pub end : SessionEnd

-- A whole session on the connection led the desk from one state to the next, and the connection is
-- served with its end.
pub record IsVisit (keys : Keys) (seat : ℕ) (before after : DeskState)
    (visit : Visit) : Type 0 where
  pub left : Option (List ℕ)
  pub session : Serves keys seat
      (moment (Some visit.link.input) (Some []) before.seen before.faults)
      (moment left (Some visit.link.written) after.seen after.faults) visit.end
  pub served : ServedWith visit.link.input visit.link.written visit.link.faults visit.end

-- whether memory ran out in a session that ended so
abbrev pub is_want : SessionEnd → Bool
is_want ends.WantOfMemory = true
is_want end = false

-- The connection was given back as the last one of the list, after a session on it. The flag says
-- whether the session wanted memory.
pub record GivesBack (keys : Keys) (seat : ℕ)
    (old : Option (List EndedLink)) (list : List EndedLink)
    (before after : DeskState) (wanted : Bool) : Type 0 where
  pub first : List EndedLink
  pub visit : Visit
  pub told : old ≡ Some first
  pub grown : list ≡ first ++ visit.link ∷ []
  pub is_visit : IsVisit keys seat before after visit
  pub memory : is_want visit.end ≡ wanted

-- The visits followed each other, and led the desk from one state to another.
abbrev pub AreVisits : Keys → ℕ → List Visit → DeskState → DeskState → Type 0
AreVisits keys seat [] before after = before ≡ after
AreVisits keys seat (visit ∷ visits) before after =
    (mid : DeskState) × IsVisit keys seat before mid visit × AreVisits keys seat visits mid after

-- whether memory ran out in one of the sessions
abbrev pub any_want : List Visit → Bool
any_want visits = list_any (λ visit. is_want visit.end) visits

-- The connections that a door had handed out since then were served one after the other and given
-- back in that order, and nothing else led the desk from one state to the other. The flag says
-- whether one of their sessions wanted memory.
pub record Attends (keys : Keys) (seat : ℕ) (old : Option (List EndedLink)) (list : List EndedLink)
    (handed_old handed_new : Option ℕ) (before after : DeskState) (wanted : Bool) : Type 0 where
  pub first : List EndedLink
  pub visits : List Visit
  pub told : old ≡ Some first
  pub grown : list ≡ first ++ map (λ visit. visit.link) visits
  pub counted : IfSome handed_old (λ count. handed_new ≡ Some (count + length visits))
  pub are_visits : AreVisits keys seat visits before after
  pub memory : any_want visits ≡ wanted

-- the answer, unless a session wanted memory
abbrev pub unless_wanted : Bool → Result (Unit {0}) AttendFault → Result (Unit {0}) AttendFault
unless_wanted wanted answer = if wanted then Err OutOfMemory else answer

-- whether the answer says that memory ran out in a session
abbrev pub says_want : Result (Unit {0}) AttendFault → Bool
says_want (Err OutOfMemory) = true
says_want result = false
