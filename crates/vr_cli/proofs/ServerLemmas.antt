-- How a server ends, from what its parts returned.
use Rattle.std.proofs.Common.{◌≡◌, ℕ, ◌+◌, ◌≤◌, ◌++◌, Bool, true, false, List, [], take, Option, None, Some, Result, Ok, Err, inl, inr, refl, sym, ap, ◌∙◌, subst, append-nil, arith}
use Rattle.std.specs.Prelude.{IfSome, IfOk, IsOk, OnErr, OnOk, is_err}
use Rattle.std.specs.Io.KnownBytes.{Appends}
use Rattle.std.proofs.Math.Logic.{∥∥₁_map}
use Rattle.std.proofs.lemmas.List.Elements.{All-nil, All-weaker}
use Rattle.std.specs.List.{All}
use Rattle.vr_base.proofs.Written.{Appends-then, AppendsPrefix-all, AppendsPrefix-more, AppendsPrefix-then}
use Rattle.vr_base.specs.Causes.{Rose}
use Rattle.vr_base.specs.Checks.{Tells}
use Rattle.vr_base.specs.Links.{EndedLink}
use Rattle.vr_base.specs.Outside.{AppendsPrefix, FolderCounts}
use Rattle.vr_base.specs.declared.calls.Entry.{Entry}
use Rattle.vr_face.proofs.DoorLemmas.{attends_none}
use Rattle.vr_face.proofs.PorchLemmas.{keeps_none}
use Rattle.vr_face.specs.Doors.{desk_state, says_want}
use Rattle.vr_face.specs.Porches.{GrowsServed, IsServedLink, KeepsServed}
use Rattle.vr_face.specs.declared.doors.AttendFault.{AttendFault}
use Rattle.vr_face.specs.declared.doors.AttendFault.TheVariants as sessions
use Rattle.vr_face.specs.declared.keys.Keys.{Keys}
use Rattle.vr_policy_check.specs.Rules.{CheckedData, identity_ids}
use Rattle.vr_session.specs.Attendings.{IsAttended, ListenerState}
use Rattle.vr_session.specs.Workers.{AttendsAlone}
use Rattle.vr_words.specs.Grammar.{Serving}
use Rattle.vr_files.specs.FileMaps.{FileMap}
use Rattle.vr_keeper.specs.Keepers.{Row}
use Rattle.vr_core.specs.History.{BookState}
use Rattle.vr_core.specs.Loading.{LeavesLoaded, OpensListed}
use Rattle.vr_core.specs.Opening.{ComesFromRows}
use Rattle.vr_core.specs.declared.opening.StartFault.{StartFault}
use Rattle.vr_core.specs.declared.opening.StartFault.TheVariants as starts
use Rattle.vr_cli.specs.Faults.{status_for}
use Rattle.vr_cli.specs.FileWords.{IfAbsent}
use Rattle.vr_cli.specs.Gathering.{Writes}
use Rattle.vr_cli.specs.Outputs.{NamedFiles, Tested}
use Rattle.vr_cli.proofs.EndingLemmas.{none_fell, unchanged}
use Rattle.vr_cli.proofs.FileLemmas.{told_more}
use Rattle.vr_cli.specs.ServerEndings.{HandsOut, EndsUnstarted, IfBook, IsUnder, KeepsCrashes, IsPastReading, SaysOfBasis, IsCounted, OutsideCounts, outside, ServerCauses, NothingFailed, MayStillCome, IsBeforeListening, IsBeforeStart, IsUnstarted, status_at_end, status_for_start, WritesUpTo, wants_memory, ServesAlone, ServesListener, IsServedAlone}
use Rattle.vr_cli.specs.ServerFiles.{AreBothSaid, AreKeys, IsSaid, GivesBasis, EndsReading, HasFileCause, told_of_basis}
use Rattle.vr_cli.specs.Servings.{Basis}
use Rattle.vr_cli.specs.declared.kept.Kept.{Kept}
use Rattle.vr_cli.specs.declared.kept.Kept.TheVariants as kept
use Rattle.vr_cli.specs.declared.gathering.TextFault.{TextFault}
use Rattle.vr_cli.specs.declared.gathering.TextFault.TheVariants as texts
use Rattle.vr_cli.specs.declared.status.Status.{Status}
use Rattle.vr_cli.specs.declared.status.Status.TheVariants.{Usage, PolicyRefused, ScriptRefused, Absent, ReadFault, WriteFault, WantOfMemory, ListenFault, KeeperFault, KeysRefused, StoreRefused}
use Rattle.vr_cli.specs.declared.status.Status.TheVariants as statuses

-- ---- the text

-- the last lines were written so after sessions that came to this
pub ends_text : (attended : Result (Unit {0}) AttendFault) (written : Result (Unit {0}) TextFault) (old new : Option (List ℕ)) (text : List ℕ)
    → Writes written old new text → WritesUpTo (status_at_end attended written) old new text
ends_text (Err sessions.OutOfMemory) (Ok done) old new text h = prefix_of_all old new text h
  where
    prefix_of_all : (a b : Option (List ℕ)) (xs : List ℕ) → Appends a b xs → AppendsPrefix a b xs
    prefix_of_all a b xs whole = subst (λ (t : List ℕ). AppendsPrefix a b t) (append-nil xs) (AppendsPrefix-all a b xs [] whole)
ends_text (Err sessions.OutOfMemory) (Err fault) old new text h = h
ends_text (Err sessions.Failed) (Ok done) old new text h = h
ends_text (Err sessions.Failed) (Err texts.Failed) old new text h = h
ends_text (Err sessions.Failed) (Err texts.OutOfMemory) old new text h = h
ends_text (Ok served) (Ok done) old new text h = h
ends_text (Ok served) (Err texts.Failed) old new text h = h
ends_text (Ok served) (Err texts.OutOfMemory) old new text h = h

-- the first lines were written, and then the last ones so
pub ends_after : (status : Status) (old mid new : Option (List ℕ)) (first last : List ℕ) → Appends old mid first → WritesUpTo status mid new last → WritesUpTo status old new (first ++ last)
ends_after statuses.Ok old mid new first last h k = Appends-then old mid new first last h k
ends_after ListenFault old mid new first last h k = Appends-then old mid new first last h k
ends_after WriteFault old mid new first last h k = AppendsPrefix-then old mid new first last h k
ends_after WantOfMemory old mid new first last h k = AppendsPrefix-then old mid new first last h k
ends_after status old mid new first last h k = absurd k

-- the first lines are there, whatever came after them
pub first_there : (status : Status) (old mid new : Option (List ℕ)) (first last : List ℕ) → Appends old mid first → WritesUpTo status mid new last → (rest : List ℕ) × Appends old new (first ++ rest)
first_there statuses.Ok old mid new first last h k = (last, Appends-then old mid new first last h k)
first_there ListenFault old mid new first last h k = (last, Appends-then old mid new first last h k)
first_there WriteFault old mid new first last h k = (take k.0 last, Appends-then old mid new first (take k.0 last) h k.2)
first_there WantOfMemory old mid new first last h k = (take k.0 last, Appends-then old mid new first (take k.0 last) h k.2)
first_there status old mid new first last h k = absurd k

-- the first lines were not written whole
pub ends_first : (fault : TextFault) (old new : Option (List ℕ)) (first last : List ℕ) → AppendsPrefix old new first → WritesUpTo (status_for fault) old new (first ++ last)
ends_first texts.Failed old new first last h = AppendsPrefix-more old new first last h
ends_first texts.OutOfMemory old new first last h = AppendsPrefix-more old new first last h

-- ---- the statuses of sessions and texts

-- want of memory in a session is the status
pub want_after : (attended : Result (Unit {0}) AttendFault) (written : Result (Unit {0}) TextFault) → attended ≡ Err sessions.OutOfMemory → status_at_end attended written ≡ WantOfMemory
want_after attended written e = ap (λ (a : Result (Unit {0}) AttendFault). status_at_end a written) e

want_said : (attended : Result (Unit {0}) AttendFault) (written : Result (Unit {0}) TextFault) → says_want attended ≡ true → wants_memory (status_at_end attended written) ≡ true
want_said (Err sessions.OutOfMemory) written e = refl
want_said (Err sessions.Failed) written e = cc
want_said (Ok served) written e = cc

-- ---- the connections

served_wider : (wanted flag : Bool) → (wanted ≡ true → flag ≡ true) → (link : EndedLink) → IsServedLink wanted link → IsServedLink flag link
served_wider wanted flag f link (inl whole) = inl whole
served_wider wanted flag f link (inr part) = inr (part.0, elim part.1 [ inl failed ↦ inl failed | inr e ↦ inr (f e) ])

grows_wider : (old new : Option (List EndedLink)) (wanted flag : Bool) → (wanted ≡ true → flag ≡ true) → IfSome new (λ list. GrowsServed old list wanted) → IfSome new (λ list. GrowsServed old list flag)
grows_wider old None wanted flag f h = tt
grows_wider old (Some list) wanted flag f h = record {
  first = h.first;
  more = h.more;
  told = h.told;
  grown = h.grown;
  served = All-weaker (IsServedLink wanted) (IsServedLink flag) (served_wider wanted flag f) h.more h.served;
}

-- the connections are served as the status says
pub served_after : (attended : Result (Unit {0}) AttendFault) (written : Result (Unit {0}) TextFault) (old new : Option (List EndedLink)) → KeepsServed old new (says_want attended)
    → KeepsServed old new (wants_memory (status_at_end attended written))
served_after attended written old new h = ∥∥₁_map h (grows_wider old new (says_want attended) (wants_memory (status_at_end attended written)) (want_said attended written))

-- one worker served them
pub alone_after : (attended : Result (Unit {0}) AttendFault) (written : Result (Unit {0}) TextFault) (keys : Keys) (old new : Option (List EndedLink)) (handed_old handed_new before after : ℕ) (journal : List Entry)
    → All (λ e. e.seat ≡ 1) journal → IfSome new (λ list. AttendsAlone keys old list handed_old handed_new before after journal attended)
    → IfSome new (λ list. ServesAlone keys (status_at_end attended written) old list handed_old handed_new before after journal)
alone_after attended written keys old None handed_old handed_new before after journal alone h = tt
alone_after attended written keys old (Some list) handed_old handed_new before after journal alone h =
    record { answer = attended; began = before; since = omega arith; attends = h; alone = alone; memory = want_after attended written }

-- the keeper's count was lower still before
pub alone_since : (keys : Keys) (status : Status) (old new : Option (List EndedLink)) (handed_old handed_new before began after : ℕ) (journal : List Entry) → before ≤ began
    → IfSome new (λ list. ServesAlone keys status old list handed_old handed_new began after journal)
    → IfSome new (λ list. ServesAlone keys status old list handed_old handed_new before after journal)
alone_since keys status old None handed_old handed_new before began after journal first h = tt
alone_since keys status old (Some list) handed_old handed_new before began after journal first h =
    record { answer = h.answer; began = h.began; since = omega (arith, first, h.since); attends = h.attends; alone = h.alone; memory = h.memory }

-- no connection was handed out
pub alone_none : (keys : Keys) (status : Status) (old : Option (List EndedLink)) (handed faults : ℕ) (journal : List Entry) → journal ≡ []
    → IfSome old (λ list. ServesAlone keys status old list handed handed faults faults journal)
alone_none keys status None handed faults journal e = tt
alone_none keys status (Some list) handed faults journal e = record {
  answer = Ok tt;
  began = faults;
  since = omega arith;
  attends = record {
    wanted = false;
    faults = faults;
    attends = rw e (attends_none keys 1 (Some list) (Some handed) (desk_state [] faults));
    within = omega arith;
    memory = λ no_want. cc (no_want);
  };
  alone = rw e (All-nil (λ (entry : Entry). entry.seat ≡ 1));
  memory = λ no_answer. cc (no_answer);
}

-- none was handed out
pub hands_none : (status : Status) (sessions before after : ℕ) → after ≡ before → (status ≡ statuses.Ok → ⊥) → HandsOut status sessions before after
hands_none status sessions before after same other = record { most = omega (arith, same); whole = λ e. absurd (other e) }

-- a text that wasn't written ends with no status 0
pub unwritten : (fault : TextFault) → status_for fault ≡ statuses.Ok → ⊥
unwritten texts.Failed e = cc (e)
unwritten texts.OutOfMemory e = cc (e)

-- nor with the fault of a listener
pub unwritten_alone : (fault : TextFault) → status_for fault ≡ ListenFault → ⊥
unwritten_alone texts.Failed e = cc (e)
unwritten_alone texts.OutOfMemory e = cc (e)

-- with status 0 all sessions came to their end
pub hands_all : (attended : Result (Unit {0}) AttendFault) (written : Result (Unit {0}) TextFault) (most_sessions before after : ℕ) → after ≤ before + most_sessions → OnOk attended (after ≡ before + most_sessions)
    → HandsOut (status_at_end attended written) most_sessions before after
hands_all attended written most_sessions before after most whole = record { most = most; whole = by_parts attended written whole }
  where
    by_parts : (attended : Result (Unit {0}) AttendFault) (written : Result (Unit {0}) TextFault) → OnOk attended (after ≡ before + most_sessions) → status_at_end attended written ≡ statuses.Ok
        → after ≡ before + most_sessions
    by_parts (Ok x) written whole e = whole
    by_parts (Err sessions.Failed) (Ok x) whole e = absurd (let none : ⊥ = cc (e) in none)
    by_parts (Err sessions.Failed) (Err fault) whole e = absurd (unwritten fault e)
    by_parts (Err sessions.OutOfMemory) written whole e = absurd (let none : ⊥ = cc (e) in none)

-- ---- counts

-- a count that rose after it had not fallen
pub counted_later : (fault status : Status) (before between now : ℕ) → before ≤ between → IsCounted fault status between now → IsCounted fault status before now
counted_later fault status before between now first h =
    record { later = omega (arith, first, h.later); failed = λ e. let rose : Rose between now = h.failed e in omega (arith, first, rose) }

-- ---- what a listener served

-- nothing is claimed
pub freely : {A : Type 0} (o : Option A) → IfSome o (λ _. Unit {0})
freely None = tt
freely (Some x) = tt

-- with the status of a listener's fault an accept failed
failed_after : (attended : Result (Unit {0}) AttendFault) (written : Result (Unit {0}) TextFault) → status_at_end attended written ≡ ListenFault → attended ≡ Err sessions.Failed
failed_after (Err sessions.OutOfMemory) written e = cc (e)
failed_after (Err sessions.Failed) written e = refl
failed_after (Ok served) (Ok done) e = cc (e)
failed_after (Ok served) (Err texts.Failed) e = cc (e)
failed_after (Ok served) (Err texts.OutOfMemory) e = cc (e)

-- the sessions came to this, and the last lines were written so
pub listener_after : {K : Type 0} (faults : K → ℕ) (attended : Result (Unit {0}) AttendFault) (written : Result (Unit {0}) TextFault) (keys : Keys) (serving : Serving) (old new : ListenerState) (before : ℕ)
    (book : BookState K) → IsAttended serving.sessions attended old new → (serving.workers ≡ 1 → All (λ e. e.seat ≡ 1) book.journal)
    → (serving.workers ≡ 1 → IfSome new.ended (λ list. AttendsAlone keys old.ended list old.handed_out new.handed_out before (faults book.keeper) book.journal attended))
    → ServesListener faults keys serving (status_at_end attended written) old new before (kept.Book book)
listener_after faults attended written keys serving old new before book h alone one = record {
  count = hands_all attended written serving.sessions old.handed_out new.handed_out h.most h.count;
  served = served_after attended written old.ended new.ended h.served;
  alone = λ is. alone_after attended written keys old.ended new.ended old.handed_out new.handed_out before (faults book.keeper) book.journal (alone is) (one is);
  connections = record { later = h.cause.later; failed = λ e. h.cause.failed (failed_after attended written e) };
}

-- the listener was asked to listen before, and the keeper for its rows
pub listener_since : {K : Type 0} (faults : K → ℕ) (keys : Keys) (serving : Serving) (status : Status) (old mid new : ListenerState) (before began : ℕ) (book : BookState K)
    → mid.handed_out ≡ old.handed_out → mid.ended ≡ old.ended → old.faults ≤ mid.faults → before ≤ began → ServesListener faults keys serving status mid new began (kept.Book book)
    → ServesListener faults keys serving status old new before (kept.Book book)
listener_since faults keys serving status old mid new before began book handed ended listened loaded h = record {
  count = rw handed at h.count;
  served = rw ended at h.served;
  alone = λ one.
      let served : IfSome new.ended (λ list. ServesAlone keys status mid.ended list mid.handed_out new.handed_out began (faults book.keeper) book.journal) = h.alone one in
      alone_since keys status old.ended new.ended old.handed_out new.handed_out before began (faults book.keeper) book.journal loaded (rw (ended, handed) at served);
  connections = counted_later ListenFault status old.faults mid.faults new.faults listened h.connections;
}

-- what comes with an error came
pub failed_here : {T E P : Type 0} (result : Result T E) → is_err result ≡ true → OnErr result P → P
failed_here (Err fault) failed there = there
failed_here (Ok value) failed there = absurd (let none : ⊥ = cc (failed) in none)

-- nobody was served from a book
pub listener_unserved : {K : Type 0} (faults : K → ℕ) (keys : Keys) (serving : Serving) (status : Status) (listener : ListenerState) (book : BookState K) → book.journal ≡ []
    → (status ≡ statuses.Ok → ⊥) → (status ≡ ListenFault → ⊥) → ServesListener faults keys serving status listener listener (faults book.keeper) (kept.Book book)
listener_unserved faults keys serving status listener book none undone unfailed = record {
  count = hands_none status serving.sessions listener.handed_out listener.handed_out refl undone;
  served = keeps_none listener.ended listener.ended (wants_memory status) refl;
  alone = λ one. alone_none keys status listener.ended listener.handed_out (faults book.keeper) book.journal none;
  connections = record { later = omega arith; failed = λ e. absurd (unfailed e) };
}

-- nor without one
pub listener_unstarted : {K : Type 0} (faults : K → ℕ) (keys : Keys) (serving : Serving) (status : Status) (old new : ListenerState) (before : ℕ) (keeper : K) → new.handed_out ≡ old.handed_out
    → new.ended ≡ old.ended → (status ≡ statuses.Ok → ⊥) → IsCounted ListenFault status old.faults new.faults → ServesListener faults keys serving status old new before (kept.Store keeper)
listener_unstarted faults keys serving status old new before keeper handed ended undone counted = record {
  count = hands_none status serving.sessions old.handed_out new.handed_out handed undone;
  served = keeps_none old.ended new.ended (wants_memory status) ended;
  alone = λ one. freely new.ended;
  connections = counted;
}

-- ---- a book that was not started

-- a keeper that wasn't asked keeps its crashes
pub crashes_kept : {K : Type 0} (tells : K → Bool) (clock : K → ℕ) (may_leave : K → ℕ → FileMap → Type 0) (keeper : K) → KeepsCrashes tells clock may_leave keeper keeper
crashes_kept tells clock may_leave keeper =
    record { telling = refl; since = λ _. record { later = omega arith; since = λ map left. left } }

-- ---- a book that was started

pub book_counted : (status : Status) (old new : Option (List ℕ)) (text : List ℕ) (before now : ℕ) → WritesUpTo status old new text → before ≤ now → IsCounted KeeperFault status before now
book_counted status old new text before now h later =
    record { later = later; failed = λ e. absurd (subst (λ (s : Status). WritesUpTo s old new text) e h) }

-- ---- a server whose files were not read, or were refused

module _ (status : Status) (old new : FolderCounts) (h : EndsReading old new status) where
  count_as : (named : Status) → status ≡ named → EndsReading old new named
  count_as named e = subst (λ (s : Status). EndsReading old new s) e h

  pub unread_asked : (place : ℕ) → status ≡ Usage place → ⊥
  unread_asked place e = count_as (Usage place) e

  pub unread_done : {A : Type 0} → status ≡ statuses.Ok → A
  unread_done e = absurd (count_as statuses.Ok e)

  pub unread_causes : {A : Type 0} → HasFileCause {A = A} old new (Err status) → (sink listener keeper : ℕ)
      → ServerCauses status (outside old sink listener keeper) (outside new sink listener keeper)
  unread_causes cause sink listener keeper = record {
    later = record {
      folder_and_sink = record { absences = cause.absences; reads = cause.faults; writes = omega arith };
      listener = omega arith;
      keeper = omega arith;
    };
    absent = λ word. count_as (Absent word);
    read_fault = count_as ReadFault;
    write_fault = λ e. absurd (count_as WriteFault e);
    listen_fault = λ e. absurd (count_as ListenFault e);
    keeper_fault = λ e. absurd (count_as KeeperFault e);
    no_script = λ line. count_as (ScriptRefused line);
  }

  unread_status : (listens : Bool) → IsUnstarted status listens
  unread_status listens = by_status status h
    where
      by_status : (s : Status) → EndsReading old new s → IsUnstarted s listens
      by_status (Absent word) k = tt
      by_status (PolicyRefused stage rule index) k = tt
      by_status (KeysRefused line) k = tt
      by_status ReadFault k = tt
      by_status WantOfMemory k = tt
      by_status s k = absurd k

  pub unread_ends : {K : Type 0} (rows : K → Option FileMap) (listed : K → Option (List Row)) (is_loaded : K → Bool) (listens : Bool) (o : Option (List ℕ)) (keeper : K)
      → EndsUnstarted rows listed is_loaded status listens o o keeper keeper
  unread_ends rows listed is_loaded listens o keeper = record {
    unstarted = unread_status listens;
    quiet = unchanged o o refl;
    unasked = λ _. refl;
    same = refl;
    same_list = refl;
    refused = λ row e. absurd (count_as (StoreRefused row) e);
    exact = λ row e. absurd (count_as (StoreRefused row) e);
    failed = λ e. absurd (count_as KeeperFault e);
    left = λ row e. absurd (count_as (StoreRefused row) e);
  }

  says_unread : (answer : Tested Basis) → Tells (told_of_basis status) answer → SaysOfBasis status answer
  says_unread answer t = by_status status h t
    where
      by_status : (s : Status) → EndsReading old new s → Tells (told_of_basis s) answer → SaysOfBasis s answer
      by_status (Absent word) k u = u
      by_status (PolicyRefused stage rule index) k u = u
      by_status (KeysRefused line) k u = u
      by_status ReadFault k u = tt
      by_status WantOfMemory k u = tt
      by_status s k u = absurd k

  pub unread_says : (files : Option NamedFiles) (answer : NamedFiles → Tested Basis) → IfSome files (λ fs. GivesBasis (Err status) (answer fs)) → IfSome files (λ fs. SaysOfBasis status (answer fs))
  unread_says None answer t = tt
  unread_says (Some fs) answer t = says_unread (answer fs) t

-- ---- a server whose files were read

not_before : (status : Status) → IsPastReading status → IsBeforeListening status → ⊥
not_before statuses.Ok h k = k
not_before WriteFault h k = k
not_before WantOfMemory h k = k
not_before ListenFault h k = k
not_before KeeperFault h k = k
not_before (StoreRefused row) h k = k
not_before status h k = h

says_begun : (status : Status) (answer : Tested Basis) (basis : Basis) → answer ≡ Ok basis → IsPastReading status → SaysOfBasis status answer
says_begun statuses.Ok answer basis e h = (tt, rw e refl)
says_begun WriteFault answer basis e h = (tt, rw e refl)
says_begun WantOfMemory answer basis e h = tt
says_begun ListenFault answer basis e h = (tt, rw e refl)
says_begun KeeperFault answer basis e h = (tt, rw e refl)
says_begun (StoreRefused row) answer basis e h = (tt, rw e refl)
says_begun status answer basis e h = absurd h

pub begun_blames_none : (status : Status) (Named : ℕ → Type 0) → IsPastReading status → IfAbsent status Named
begun_blames_none (Absent word) Named h = absurd h
begun_blames_none status Named h = tt

module _ (status : Status) (h : IsPastReading status) where
  begun_as : (named : Status) → status ≡ named → IsPastReading named
  begun_as named e = subst IsPastReading e h

  pub begun_asked : (place : ℕ) → status ≡ Usage place → ⊥
  begun_asked place e = begun_as (Usage place) e

  pub begun_heard : {A : Type 0} → IsBeforeListening status → A
  begun_heard k = absurd (not_before status h k)

  pub begun_causes : {A : Type 0} (value : A) (old new : OutsideCounts) → HasFileCause {A = A} old.folder new.folder (Ok value) → IsCounted WriteFault status old.sink new.sink
      → IsCounted ListenFault status old.listener new.listener → IsCounted KeeperFault status old.keeper new.keeper → ServerCauses status old new
  begun_causes value old new files text connections keeper = record {
    later = record {
      folder_and_sink = record { absences = files.absences; reads = files.faults; writes = text.later };
      listener = connections.later;
      keeper = keeper.later;
    };
    absent = λ word e. absurd (begun_as (Absent word) e);
    read_fault = λ e. absurd (begun_as ReadFault e);
    write_fault = text.failed;
    listen_fault = connections.failed;
    keeper_fault = keeper.failed;
    no_script = λ line. begun_as (ScriptRefused line);
  }

module _ (files : Option NamedFiles) (answer : NamedFiles → Tested Basis) (policy : CheckedData) (hash : List ℕ) (keys : Keys)
    (read : IfSome files (λ fs. GivesBasis (Ok (policy, hash, keys)) (answer fs))) where
  pub read_says : (status : Status) → IsPastReading status → IfSome files (λ fs. SaysOfBasis status (answer fs))
  read_says status h = told_more files (λ fs. GivesBasis (Ok (policy, hash, keys)) (answer fs)) (λ fs. SaysOfBasis status (answer fs)) (λ fs r. says_begun status (answer fs) r.0 r.1 h) read

  under_book : {K : Type 0} (book : BookState K) → (book.origin.policy ≡ policy) × (book.origin.hash ≡ hash) → IfSome files (λ fs. IsUnder (answer fs) book)
  under_book book same =
      told_more files (λ fs. GivesBasis (Ok (policy, hash, keys)) (answer fs)) (λ fs. IsUnder (answer fs) book)
      (λ fs r. (r.0, r.1, same.0 ∙ sym r.2.0, same.1 ∙ sym r.2.1)) read

  pub read_under : {K : Type 0} (held : Kept K) → IfBook held (λ book. (book.origin.policy ≡ policy) × (book.origin.hash ≡ hash)) → IfSome files (λ fs. IfBook held (IsUnder (answer fs)))
  read_under (kept.Store keeper) same = freely files
  read_under (kept.Book book) same = under_book book same

  are_read : IfSome files (λ fs. IfOk (answer fs) (λ basis. AreKeys basis.held keys))
  are_read = told_more files (λ fs. GivesBasis (Ok (policy, hash, keys)) (answer fs)) (λ fs. IfOk (answer fs) (λ basis. AreKeys basis.held keys)) (λ fs r. rw r.1 r.2.2) read

  pub read_said : {K : Type 0} (held : Kept K) → AreBothSaid (policy, hash, keys) → IfBook held (λ book. (book.origin.policy ≡ policy) × (book.origin.hash ≡ hash))
      → IfBook held (λ book. IsSaid (book.origin.policy, book.origin.hash))
  read_said (kept.Store keeper) said same = tt
  read_said (kept.Book book) said same = rw (same.0, same.1) said.0

  pub read_alone : {K : Type 0} (faults : K → ℕ) (held : Kept K) (status : Status) (old new : Option (List EndedLink)) (handed_old handed_new before : ℕ)
      → AreBothSaid (policy, hash, keys) → IfBook held (λ book. (book.origin.policy ≡ policy) × (book.origin.hash ≡ hash))
      → IfSome new (λ list. IfBook held (λ book. ServesAlone keys status old list handed_old handed_new before (faults book.keeper) book.journal))
      → IfSome new (λ list. IfBook held (λ book. IsServedAlone (identity_ids book.origin.policy.policy) files answer status old list handed_old handed_new before (faults book.keeper) book.journal))
  read_alone faults held status old None handed_old handed_new before said same h = tt
  read_alone faults (kept.Store keeper) status old (Some list) handed_old handed_new before said same h = tt
  read_alone faults (kept.Book book) status old (Some list) handed_old handed_new before said same h =
      record { keys = keys; said = rw same.0 said.1; read = are_read; served = h }

-- ---- a start that was refused

-- the fault of a start that has the status
abbrev start_of : Status → StartFault
start_of KeeperFault = starts.KeeperFailed
start_of (StoreRefused row) = starts.BadRow row
start_of status = starts.OutOfMemory

start_back : (fault : StartFault) → start_of (status_for_start fault) ≡ fault
start_back starts.KeeperFailed = refl
start_back (starts.BadRow row) = refl
start_back starts.OutOfMemory = refl

bad_for : (fault : StartFault) (row : ℕ) → status_for_start fault ≡ StoreRefused row → fault ≡ starts.BadRow row
bad_for fault row e = sym (start_back fault) ∙ ap start_of e

failed_for : (fault : StartFault) → status_for_start fault ≡ KeeperFault → fault ≡ starts.KeeperFailed
failed_for fault e = sym (start_back fault) ∙ ap start_of e

start_status : (fault : StartFault) (listens : Bool) → listens ≡ true → IsUnstarted (status_for_start fault) listens
start_status starts.KeeperFailed listens h = h
start_status (starts.BadRow row) listens h = h
start_status starts.OutOfMemory listens h = tt

asked_for : (fault : StartFault) → IsBeforeStart (status_for_start fault) → ⊥
asked_for starts.KeeperFailed k = k
asked_for (starts.BadRow row) k = k
asked_for starts.OutOfMemory k = k

-- a book that was not started ends with no status 0
pub start_undone : (fault : StartFault) → status_for_start fault ≡ statuses.Ok → ⊥
start_undone starts.KeeperFailed e = cc (e)
start_undone (starts.BadRow row) e = cc (e)
start_undone starts.OutOfMemory e = cc (e)

-- and is no fault of a listener
pub start_counted : (fault : StartFault) (before now : ℕ) → before ≤ now → IsCounted ListenFault (status_for_start fault) before now
start_counted starts.KeeperFailed before now later = record { later = later; failed = λ e. cc (e) }
start_counted (starts.BadRow row) before now later = record { later = later; failed = λ e. cc (e) }
start_counted starts.OutOfMemory before now later = record { later = later; failed = λ e. cc (e) }

pub refused_ends : {K : Type 0} (rows : K → Option FileMap) (listed : K → Option (List Row)) (is_loaded : K → Bool) (fault : StartFault) (listens : Bool) (o : Option (List ℕ)) (before after : K)
    → listens ≡ true → rows after ≡ rows before → listed after ≡ listed before
    → ((place : ℕ) → fault ≡ starts.BadRow place → ComesFromRows (rows before) (Err (starts.BadRow place))) → OpensListed (listed before) (Err fault) → LeavesLoaded (listed before) fault (is_loaded after)
    → EndsUnstarted rows listed is_loaded (status_for_start fault) listens o o before after
refused_ends rows listed is_loaded fault listens o before after hears same same_list comes exact left = record {
  unstarted = start_status fault listens hears;
  quiet = unchanged o o refl;
  unasked = λ k. absurd (asked_for fault k);
  same = same;
  same_list = same_list;
  refused = λ row e. comes row (bad_for fault row e);
  exact = λ row e. subst (λ (f : StartFault). OpensListed (listed before) (Err f)) (bad_for fault row e) exact;
  failed = λ e. subst (λ (f : StartFault). LeavesLoaded (listed before) f (is_loaded after)) (failed_for fault e) left;
  left = λ row e. subst (λ (f : StartFault). LeavesLoaded (listed before) f (is_loaded after)) (bad_for fault row e) left;
}

-- ---- completeness

is_refused : (answer : Tested Basis) (status : Status) → answer ≡ Err status → IsOk answer → ⊥
is_refused answer status e ok = let never : false ≡ true = rw e at ok in cc (never)

pub complete_of : (status : Status) (answer : Tested Basis) (old new : OutsideCounts) → SaysOfBasis status answer → ServerCauses status old new → IsOk answer → NothingFailed old new → MayStillCome status
complete_of statuses.Ok answer old new says causes ok still = tt
complete_of WantOfMemory answer old new says causes ok still = tt
complete_of (StoreRefused row) answer old new says causes ok still = tt
complete_of (Usage index) answer old new says causes ok still = says.0
complete_of (ScriptRefused line) answer old new says causes ok still = says.0
complete_of (PolicyRefused stage rule index) answer old new says causes ok still = is_refused answer _ says ok
complete_of (KeysRefused line) answer old new says causes ok still = is_refused answer _ says ok
complete_of (Absent word) answer old new says causes ok still = is_refused answer _ says ok
complete_of ReadFault answer old new says causes ok still = still.reads (causes.read_fault refl)
complete_of WriteFault answer old new says causes ok still = still.writes (causes.write_fault refl)
complete_of ListenFault answer old new says causes ok still = still.connections (causes.listen_fault refl)
complete_of KeeperFault answer old new says causes ok still = still.store (causes.keeper_fault refl)

pub complete_over : (files : Option NamedFiles) (answer : NamedFiles → Tested Basis) (status : Status) (old new : OutsideCounts) → IfSome files (λ fs. SaysOfBasis status (answer fs)) → ServerCauses status old new
    → IfSome files (λ fs. IsOk (answer fs) → NothingFailed old new → MayStillCome status)
complete_over files answer status old new says causes =
    told_more files (λ fs. SaysOfBasis status (answer fs)) (λ fs. IsOk (answer fs) → NothingFailed old new → MayStillCome status) (λ fs s ok still. complete_of status (answer fs) old new s causes ok still) says

-- ---- words that are out of place

pub usage_causes : (index : ℕ) (counts : OutsideCounts) → ServerCauses (Usage index) counts counts
usage_causes index counts = record {
  later = record { folder_and_sink = none_fell counts.folder counts.sink; listener = omega arith; keeper = omega arith };
  absent = λ word e. cc (e);
  read_fault = λ e. cc (e);
  write_fault = λ e. cc (e);
  listen_fault = λ e. cc (e);
  keeper_fault = λ e. cc (e);
  no_script = λ line e. cc (e);
}

pub usage_ends : {K : Type 0} (rows : K → Option FileMap) (listed : K → Option (List Row)) (is_loaded : K → Bool) (index : ℕ) (listens : Bool) (o : Option (List ℕ)) (keeper : K)
    → EndsUnstarted rows listed is_loaded (Usage index) listens o o keeper keeper
usage_ends rows listed is_loaded index listens o keeper = record {
  unstarted = tt;
  quiet = unchanged o o refl;
  unasked = λ _. refl;
  same = refl;
  same_list = refl;
  refused = λ row e. cc (e);
  exact = λ row e. cc (e);
  failed = λ e. cc (e);
  left = λ row e. cc (e);
}
