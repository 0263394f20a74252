-- What the serving of one request comes to.
use Rattle.std.proofs.Common.{◌≡◌, ℕ, ◌==◌, Bool, true, false, cond, List, Option, Some, None, Result, Ok, Err, refl, arith, inl, inr}
use Rattle.std.specs.Io.KnownBytes.{Appends}
use Rattle.vr_base.specs.declared.calls.Entry.{Entry}
use Rattle.vr_base.proofs.Written.{AppendsPrefix-none}
use Rattle.vr_base.specs.declared.calls.Reply.TheVariants.{OutOfMemory}
use Rattle.vr_http.specs.Requests.{most_requests}
use Rattle.vr_http.specs.Responses.{response_bytes}
use Rattle.vr_http.specs.declared.requests.Request.{Request}
use Rattle.vr_face.specs.Answers.{response_to}
use Rattle.vr_face.specs.Asks.{ask_of}
use Rattle.vr_face.specs.SessionSteps.{Answered, Exchanges, SeesRequest, Writes, end_after}
use Rattle.vr_face.specs.Sessions.{MayGet, RisesBy, GainsEntries, entries_by, failure_count, moment}
use Rattle.vr_face.specs.declared.answers.Answer.{Answer}
use Rattle.vr_face.specs.declared.answers.Answer.TheVariants.{Replied}
use Rattle.vr_face.specs.declared.asks.Ask.{Ask}
use Rattle.vr_face.specs.declared.keys.Keys.{Keys}
use Rattle.vr_face.specs.declared.sessions.SessionEnd.TheVariants as ends
use Rattle.vr_face.proofs.AnswerLemmas.{own_rises}
use Rattle.vr_face.proofs.SessionLemmas.{sees_nothing}

-- ---- one request that was answered

-- some answer that a request may get, where none was had
abbrev owed : Result Ask Answer → Answer
owed (Ok ask) = Replied OutOfMemory
owed (Err own) = own

may_owe : (asked : Result Ask Answer) → MayGet asked (owed asked)
may_owe (Ok ask) = (OutOfMemory, refl)
may_owe (Err own) = refl

owed_rises : (keys : Keys) (request : Request) (count : ℕ) → RisesBy (failure_count (owed (ask_of keys request))) count count
owed_rises keys request count = by (ask_of keys request) refl
  where
    by : (asked : Result Ask Answer) → ask_of keys request ≡ asked → RisesBy (failure_count (owed asked)) count count
    by (Ok ask) e = λ few. omega arith
    by (Err own) e = own_rises keys request own count e

-- a response that was written whole goes on as its request says
writes_on : (number : ℕ) (request : Request) (old new : Option (List ℕ)) (answer : Answer)
    → Appends old new (response_bytes (response_to number request answer))
    → Writes number request old new answer (end_after request.close number)
writes_on number request old new answer h = by request.close (number == most_requests) refl
  where
    by : (close last : Bool)
        → cond close (Some ends.Closed) (cond last (Some ends.Enough) None) ≡ end_after request.close number
        → Writes number request old new answer (cond close (Some ends.Closed) (cond last (Some ends.Enough) None))
    by true last e = (h, e)
    by false true e = (h, e)
    by false false e = (h, e)

sees_on : (seat number : ℕ) (asked : Result Ask Answer) (close : Bool) (old new : List Entry) (answer : Answer)
    → GainsEntries seat (entries_by seat asked answer) old new → SeesRequest seat asked old new answer (end_after close number)
sees_on seat number asked close old new answer h = by close (number == most_requests)
  where
    by : (close last : Bool) → SeesRequest seat asked old new answer (cond close (Some ends.Closed) (cond last (Some ends.Enough) None))
    by true last = h
    by false true = h
    by false false = h

module _ (keys : Keys) (seat number : ℕ) (request : Request) (left old : Option (List ℕ)) (seen now : List Entry) (faults risen : ℕ) where
  -- memory ran out before the desk was asked
  pub unasked : (now ≡ seen) × (risen ≡ faults)
      → Exchanges keys seat number request (moment left old seen faults) (moment left old now risen) (Some ends.WantOfMemory)
  unasked h = rw (h.0, h.1) same
    where
      same : Exchanges keys seat number request (moment left old seen faults) (moment left old seen faults) (Some ends.WantOfMemory)
      same = record {
        answer = owed (ask_of keys request);
        may = may_owe (ask_of keys request);
        stream = refl;
        writes = AppendsPrefix-none old _;
        sees = inr (sees_nothing seat seen);
        failures = owed_rises keys request faults;
        later = omega arith;
      }

  -- memory ran out before the response was written
  pub unwritten : (answer : Answer) → Answered seat (ask_of keys request) seen now faults risen answer
      → Exchanges keys seat number request (moment left old seen faults) (moment left old now risen) (Some ends.WantOfMemory)
  unwritten answer h = record {
    answer = answer;
    may = h.may;
    stream = refl;
    writes = AppendsPrefix-none old _;
    sees = inl h.sees;
    failures = h.failures;
    later = h.later;
  }

  -- the response was written
  pub exchanged : (rest new : Option (List ℕ)) (answer : Answer) → Answered seat (ask_of keys request) seen now faults risen answer
      → rest ≡ left → Appends old new (response_bytes (response_to number request answer))
      → Exchanges keys seat number request (moment left old seen faults) (moment rest new now risen) (end_after request.close number)
  exchanged rest new answer h e w = record {
    answer = answer;
    may = h.may;
    stream = e;
    writes = writes_on number request old new answer w;
    sees = sees_on seat number (ask_of keys request) request.close seen now answer h.sees;
    failures = h.failures;
    later = h.later;
  }
