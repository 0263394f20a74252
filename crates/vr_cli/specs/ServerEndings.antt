-- How a server ends: what its status says of its files, its book, its text and the connections that it served.
use Rattle.std.specs.List.{All}
use Rattle.std.specs.Prelude.{◌≡◌, ◌⊎◌, ℕ, ◌+◌, ◌≤◌, ◌++◌, Bool, true, false, List, Option, IfSome, Result, Ok, Err, IfOk, IsOk, IsTrue}
use Rattle.std.specs.Io.KnownBytes.{Appends, Keeps}
use Rattle.vr_base.specs.Causes.{Rose}
use Rattle.vr_base.specs.Links.{EndedLink}
use Rattle.vr_base.specs.Outside.{AppendsPrefix, FolderCounts}
use Rattle.vr_base.specs.declared.calls.Entry.{Entry}
use Rattle.vr_files.specs.FileMaps.{FileMap}
use Rattle.vr_core.specs.History.{BookState, IsBook}
use Rattle.vr_core.specs.Isolation.{IsIsolatedHistory}
use Rattle.vr_core.specs.Loading.{LeavesLoaded, OpensListed}
use Rattle.vr_core.specs.Opening.{ComesFromRows}
use Rattle.vr_core.specs.declared.opening.StartFault.{StartFault}
use Rattle.vr_core.specs.declared.opening.StartFault.TheVariants as starts
use Rattle.vr_face.specs.declared.doors.AttendFault.{AttendFault}
use Rattle.vr_face.specs.declared.doors.AttendFault.TheVariants as sessions
use Rattle.vr_face.specs.Porches.{KeepsServed}
use Rattle.vr_face.specs.declared.keys.Keys.{Keys}
use Rattle.vr_keeper.specs.Crashes.{LoadKeepsCrashes}
use Rattle.vr_keeper.specs.Keepers.{Row}
use Rattle.vr_session.specs.Attendings.{ListenerState}
use Rattle.vr_session.specs.Workers.{AttendsAlone}
use Rattle.vr_words.specs.Grammar.{Serving}
use Rattle.vr_cli.specs.Endings.{NoneFell}
use Rattle.vr_cli.specs.Faults.{status_for}
use Rattle.vr_cli.specs.Outputs.{NamedFiles, Tested}
use Rattle.vr_cli.specs.ServerFiles.{AreKeys, AreSaid}
use Rattle.vr_cli.specs.Servings.{Basis, server_text}
use Rattle.vr_cli.specs.declared.gathering.TextFault.{TextFault}
use Rattle.vr_cli.specs.declared.kept.Kept.{Kept}
use Rattle.vr_cli.specs.declared.kept.Kept.TheVariants as kept
use Rattle.vr_cli.specs.declared.status.Status.{Status}
use Rattle.vr_cli.specs.declared.status.Status.TheVariants.{Usage, PolicyRefused, ScriptRefused, Absent, ReadFault, WriteFault, WantOfMemory, ListenFault, KeeperFault, KeysRefused, StoreRefused}
use Rattle.vr_cli.specs.declared.status.Status.TheVariants as statuses

-- ---- what the status says of the files

-- a status of a server that was refused nothing that it reads
abbrev pub IsPastReading : Status → Type 0
IsPastReading statuses.Ok = Unit {0}
IsPastReading WriteFault = Unit {0}
IsPastReading WantOfMemory = Unit {0}
IsPastReading ListenFault = Unit {0}
IsPastReading KeeperFault = Unit {0}
IsPastReading (StoreRefused row) = Unit {0}
IsPastReading status = ⊥

-- What a status says of what a server rests on, or of the refusal: a refusal is the answer; after a failed read, and
-- without memory, the answer is unknown; and with each other status nothing is refused.
abbrev pub SaysOfBasis : Status → Tested Basis → Type 0
SaysOfBasis (PolicyRefused stage rule index) answer = answer ≡ Err (PolicyRefused stage rule index)
SaysOfBasis (KeysRefused line) answer = answer ≡ Err (KeysRefused line)
SaysOfBasis (Absent word) answer = answer ≡ Err (Absent word)
SaysOfBasis ReadFault answer = Unit {0}
SaysOfBasis WantOfMemory answer = Unit {0}
SaysOfBasis status answer = IsPastReading status × IsOk answer

-- ---- what made the status

-- A count never falls, and this one status comes only where it rose.
pub record IsCounted (fault status : Status) (before now : ℕ) : Type 0 where
  pub later : before ≤ now
  pub failed : status ≡ fault → Rose before now

-- The counts of a server's outside: those of its folder, and the faults of its sink, its listener and its keeper.
pub record OutsideCounts : Type 0 where
  pub folder : FolderCounts
  pub sink : ℕ
  pub listener : ℕ
  pub keeper : ℕ

-- these counts
abbrev pub outside : FolderCounts → ℕ → ℕ → ℕ → OutsideCounts
outside folder sink listener keeper =
    record { folder = folder; sink = sink; listener = listener; keeper = keeper }

-- No count of the outside fell.
pub record NoneOutsideFell (old new : OutsideCounts) : Type 0 where
  pub folder_and_sink : NoneFell old.folder new.folder old.sink new.sink
  pub listener : old.listener ≤ new.listener
  pub keeper : old.keeper ≤ new.keeper

-- What made the status of a server, by the counts of its outside before and after.
pub record ServerCauses (status : Status) (old new : OutsideCounts) : Type 0 where
  -- no count fell, whatever the status
  pub later : NoneOutsideFell old new
  -- a file was not there
  pub absent : (word : ℕ) → status ≡ Absent word → Rose old.folder.absences new.folder.absences
  -- a read failed
  pub read_fault : status ≡ ReadFault → Rose old.folder.faults new.folder.faults
  -- a write failed
  pub write_fault : status ≡ WriteFault → Rose old.sink new.sink
  -- the listener didn't listen, or a connection was not accepted
  pub listen_fault : status ≡ ListenFault → Rose old.listener new.listener
  -- the store was not loaded
  pub keeper_fault : status ≡ KeeperFault → Rose old.keeper new.keeper
  -- a server has no script
  pub no_script : (line : ℕ) → status ≡ ScriptRefused line → ⊥

-- No count of the outside rose.
pub record NothingFailed (old new : OutsideCounts) : Type 0 where
  pub absences : ¬ Rose old.folder.absences new.folder.absences
  pub reads : ¬ Rose old.folder.faults new.folder.faults
  pub writes : ¬ Rose old.sink new.sink
  pub connections : ¬ Rose old.listener new.listener
  pub store : ¬ Rose old.keeper new.keeper

-- what may still come where nothing that a server reads is refused and no count rose: all was done and written, or memory
-- ran out, or a row of the store is refused
abbrev pub MayStillCome : Status → Type 0
MayStillCome statuses.Ok = Unit {0}
MayStillCome WantOfMemory = Unit {0}
MayStillCome (StoreRefused row) = Unit {0}
MayStillCome status = ⊥

-- ---- what was kept

-- a claim about the keeper, where no book was started
abbrev pub IfStore : {K : Type 0} → Kept K → (K → Type 0) → Type 0
IfStore (kept.Store keeper) Claim = Claim keeper
IfStore (kept.Book book) Claim = Unit {0}

-- a claim about the book, where one was started
abbrev pub IfBook : {K : Type 0} → Kept K → (BookState K → Type 0) → Type 0
IfBook (kept.Store keeper) Claim = Unit {0}
IfBook (kept.Book book) Claim = Claim book

-- the keeper, by itself or under its book
abbrev pub kept_keeper : {K : Type 0} → Kept K → K
kept_keeper (kept.Store keeper) = keeper
kept_keeper (kept.Book book) = book.keeper

-- ---- a server whose book was not started

-- a status of a server that didn't come to listen
abbrev pub IsBeforeListening : Status → Type 0
IsBeforeListening (Usage index) = Unit {0}
IsBeforeListening (PolicyRefused stage rule index) = Unit {0}
IsBeforeListening (Absent word) = Unit {0}
IsBeforeListening ReadFault = Unit {0}
IsBeforeListening (KeysRefused line) = Unit {0}
IsBeforeListening status = ⊥

-- a status of a server that didn't come to start its book
abbrev pub IsBeforeStart : Status → Type 0
IsBeforeStart ListenFault = Unit {0}
IsBeforeStart status = IsBeforeListening status

-- a status of a server whose book was not started; a listener that failed doesn't listen, and one listens where the store
-- was asked
abbrev pub IsUnstarted : Status → Bool → Type 0
IsUnstarted ListenFault listens = listens ≡ false
IsUnstarted KeeperFault listens = listens ≡ true
IsUnstarted (StoreRefused row) listens = listens ≡ true
IsUnstarted WantOfMemory listens = Unit {0}
IsUnstarted status listens = IsBeforeListening status

-- the status of a book that was not started
abbrev pub status_for_start : StartFault → Status
status_for_start starts.KeeperFailed = KeeperFault
status_for_start (starts.BadRow row) = StoreRefused row
status_for_start starts.OutOfMemory = WantOfMemory

-- How a server ended whose book was not started, by whether its listener listens, what its sink has, and its keeper.
pub record EndsUnstarted {K : Type 0} (rows : K → Option FileMap)
    (listed : K → Option (List Row)) (is_loaded : K → Bool) (status : Status)
    (listens : Bool) (old new : Option (List ℕ)) (before after : K) : Type 0 where
  pub unstarted : IsUnstarted status listens
  -- nothing was written
  pub quiet : Keeps old new
  -- the keeper is as it was, where it wasn't asked, and else has the same rows
  pub unasked : IsBeforeStart status → after ≡ before
  pub same : rows after ≡ rows before
  pub same_list : listed after ≡ listed before
  -- a row is refused that is the first bad one of those that the keeper gave
  pub refused : (row : ℕ) → status ≡ StoreRefused row
      → ComesFromRows (rows before) (Err (starts.BadRow row))
  -- and of those that it lists, where it does
  pub exact : (row : ℕ) → status ≡ StoreRefused row
      → OpensListed (listed before) (Err (starts.BadRow row))
  -- a keeper that failed isn't loaded, and one whose row was refused is where each row has a name
  pub failed : status ≡ KeeperFault → is_loaded after ≡ false
  pub left : (row : ℕ) → status ≡ StoreRefused row
      → LeavesLoaded (listed before) (starts.BadRow row) (is_loaded after)

-- The keeper tells what a crash may leave if it did before, and that is what a crash could leave before.
pub record KeepsCrashes {K : Type 0} (tells : K → Bool) (clock : K → ℕ)
    (may_leave : K → ℕ → FileMap → Type 0) (before after : K) : Type 0 where
  pub telling : tells after ≡ tells before
  pub since : IsTrue (tells before)
      → LoadKeepsCrashes (clock before) (clock after) (may_leave before) (may_leave after)

-- ---- a server whose book was started

-- how a server ends whose sessions came to this and whose last lines were written so: want of memory in a session comes
-- before a failed write, and that before a connection that wasn't accepted
abbrev pub status_at_end : Result (Unit {0}) AttendFault → Result (Unit {0}) TextFault → Status
status_at_end (Err sessions.OutOfMemory) written = WantOfMemory
status_at_end attended (Err fault) = status_for fault
status_at_end (Err sessions.Failed) (Ok done) = ListenFault
status_at_end (Ok served) (Ok done) = statuses.Ok

-- How much of its text a server wrote whose book was started: all; or a prefix, where a write failed or memory ran out.
-- There is no other status.
abbrev pub WritesUpTo : Status → Option (List ℕ) → Option (List ℕ) → List ℕ → Type 0
WritesUpTo statuses.Ok old new text = Appends old new text
WritesUpTo ListenFault old new text = Appends old new text
WritesUpTo WriteFault old new text = AppendsPrefix old new text
WritesUpTo WantOfMemory old new text = AppendsPrefix old new text
WritesUpTo status old new text = ⊥

-- How a server ended whose book was started, by how it was to run, whether its listener listens, what its sink has, the
-- keeper that was handed in, and the book.
pub record EndsStarted {K : Type 0} (rows : K → Option FileMap)
    (listed : K → Option (List Row)) (is_loaded : K → Bool)
    (serving : Serving) (status : Status) (listens : Bool) (old new : Option (List ℕ))
    (keeper : K) (book : BookState K) : Type 0 where
  pub listening : listens ≡ true
  pub writes : WritesUpTo status old new (server_text serving.port book)
  -- the book began with the steps that a run may make, and with the rows that were loaded
  pub fuel : book.origin.fuel ≡ serving.fuel
  pub loaded : ComesFromRows (rows keeper) (Ok book.origin.opening)
  pub exact : OpensListed (listed keeper) (Ok book.origin.opening)
  pub opening : IfSome (rows keeper) (λ map. book.origin.opening ≡ map)
  -- its journal is legal from there on, and its files are those after it
  pub legal : IsBook rows is_loaded book
  -- and what each identity was replied depends on no calls but those of which the policy lets it learn
  pub isolated : IsIsolatedHistory book.origin book.journal
  -- and each entry has the number of a seat: 1 and so on for the workers, and 0 for the first seat, by which the server
  -- itself serves what workers left
  pub numbered : All (λ entry. entry.seat ≤ serving.workers) book.journal

-- Nobody was served without the first lines: all of them are there, or no connection was handed out or given back.
abbrev pub ComesAfter : Option (List ℕ) → Option (List ℕ) → List ℕ → Type 0 → Type 0
ComesAfter old new first Nobody = ((rest : List ℕ) × Appends old new (first ++ rest)) ⊎ Nobody

-- The book began under the policy that a server rests on, with the hash of its file.
abbrev pub IsUnder : {K : Type 0} → Tested Basis → BookState K → Type 0
IsUnder answer book =
    (basis : Basis) × (answer ≡ Ok basis)
    × (book.origin.policy ≡ basis.policy) × (book.origin.hash ≡ basis.hash)

-- ---- the connections

-- How many connections were handed out, by the counts before and after: no more than the sessions that are asked for, and
-- with status 0 all of them.
pub record HandsOut (status : Status) (sessions before after : ℕ) : Type 0 where
  pub most : after ≤ before + sessions
  pub whole : status ≡ statuses.Ok → after ≡ before + sessions

-- Nobody was served, by the number of connections handed out and the list of those given back, each
-- before and after.
pub record IsUnserved (handed_old : ℕ) (ended_old : Option (List EndedLink))
    (handed_new : ℕ) (ended_new : Option (List EndedLink)) : Type 0 where
  -- no connection was handed out
  pub handed_out : handed_new ≡ handed_old
  -- and none was given back
  pub ended : ended_new ≡ ended_old

-- whether the status says that memory ran out
abbrev pub wants_memory : Status → Bool
wants_memory WantOfMemory = true
wants_memory status = false

-- One worker served the connections that were handed out, one after the other, to the holders of these keys, gave them
-- back in that order, and the calls of their sessions are, in order, the whole journal, each at the worker's seat. The
-- counts are the connections that were handed out, and the faults of the keeper, each before and after; those of the
-- keeper had become some number when the sessions began. Where a session wanted memory the status says so.
pub record ServesAlone (keys : Keys) (status : Status)
    (old : Option (List EndedLink)) (list : List EndedLink) (handed_old handed_new : ℕ)
    (before after : ℕ) (journal : List Entry) : Type 0 where
  pub answer : Result (Unit {0}) AttendFault
  pub began : ℕ
  pub since : before ≤ began
  pub attends : AttendsAlone keys old list handed_old handed_new began after journal answer
  pub alone : All (λ entry. entry.seat ≡ 1) journal
  pub memory : answer ≡ Err sessions.OutOfMemory → status ≡ WantOfMemory

-- How a server that was to run so served the connections of its listener, by what the listener told
-- before and after, to the holders of these keys. The count is that of its keeper's faults before.
pub record ServesListener {K : Type 0} (faults : K → ℕ) (keys : Keys) (serving : Serving)
    (status : Status) (old new : ListenerState) (before : ℕ) (held : Kept K) : Type 0 where
  -- no more than so many were handed out, and with status 0 all of them
  pub count : HandsOut status serving.sessions old.handed_out new.handed_out
  -- those that were given back are served, as far as the status says
  pub served : KeepsServed old.ended new.ended (wants_memory status)
  -- by one worker they were served in order, and the journal has their calls
  pub alone : serving.workers ≡ 1 → IfSome new.ended (λ list. IfBook held (λ book.
      ServesAlone keys status old.ended list old.handed_out new.handed_out
      before (faults book.keeper) book.journal))
  -- the listener's count of faults didn't fall, and the status is its fault only where it rose
  pub connections : IsCounted ListenFault status old.faults new.faults

-- One worker served so, by keys that some bytes say under a policy with these ids: those of the keys file, where it is told.
pub record IsServedAlone (ids : List ℕ) (files : Option NamedFiles)
    (answer : NamedFiles → Tested Basis) (status : Status)
    (old : Option (List EndedLink)) (list : List EndedLink)
    (handed_old handed_new : ℕ) (before after : ℕ) (journal : List Entry) : Type 0 where
  pub keys : Keys
  pub said : AreSaid ids keys
  pub read : IfSome files (λ fs. IfOk (answer fs) (λ basis. AreKeys basis.held keys))
  pub served : ServesAlone keys status old list handed_old handed_new before after journal
