-- What a session takes from its connection, what it writes on it and what its desk has seen then.
use Rattle.std.specs.Prelude.{◌≡◌, ℕ, ◌+◌, ◌-◌, ◌^◌, ◌<◌, ◌≤◌, ◌⊎◌, ◌==◌, List, [], ◌∷◌, ◌++◌, length, take, map, filter, flat_map, All, IfSome, Option, Some, None, option_map, MatchOption, Result, Ok, Err}
use Rattle.std.specs.Io.KnownBytes.{Appends}
use Rattle.vr_base.specs.Causes.{Rose}
use Rattle.vr_base.specs.Desks.{own_entries}
use Rattle.vr_base.specs.declared.calls.Entry.{Entry}
use Rattle.vr_base.specs.declared.calls.Reply.{Reply}
use Rattle.vr_base.specs.declared.calls.Reply.TheVariants.{Unavailable}
use Rattle.vr_http.specs.Requests.{First, StreamEnd, AreRequests, Cuts, last_by, ended, closing, enough, fault, cut}
use Rattle.vr_http.specs.Responses.{fault_response, refusal, response_bytes}
use Rattle.vr_http.specs.declared.responses.Response.{Response}
use Rattle.vr_http.specs.declared.faults.HttpFault.{HttpFault}
use Rattle.vr_http.specs.declared.requests.Request.{Request}
use Rattle.vr_face.specs.Answers.{response_to}
use Rattle.vr_face.specs.Asks.{ask_of}
use Rattle.vr_face.specs.declared.answers.Answer.{Answer}
use Rattle.vr_face.specs.declared.answers.Answer.TheVariants.{Replied}
use Rattle.vr_face.specs.declared.asks.Ask.{Ask}
use Rattle.vr_face.specs.declared.keys.Keys.{Keys}
use Rattle.vr_face.specs.declared.sessions.SessionEnd.{SessionEnd}
use Rattle.vr_face.specs.declared.sessions.SessionEnd.TheVariants as ends

-- ---- requests and their answers

-- A request and its answer.
pub record Exchange : Type 0 where
  pub request : Request
  pub answer : Answer

abbrev pub requests_of : List Exchange → List Request
requests_of exchanges = map (λ exchange. exchange.request) exchanges

-- The answer is the request's own, where it makes no call, and else a reply to its call.
abbrev pub MayGet : Result Ask Answer → Answer → Type 0
MayGet (Ok ask) answer = (reply : Reply) × (answer ≡ Replied reply)
MayGet (Err own) answer = answer ≡ own

-- Each request has an answer that it may get.
abbrev pub AreAnswered : Keys → List Exchange → Type 0
AreAnswered keys exchanges =
    All (λ exchange. MayGet (ask_of keys exchange.request) exchange.answer) exchanges

-- ---- the bytes that are written

-- the responses to the requests of a connection, after so many that came before
abbrev pub texts_from : ℕ → List Exchange → List (List ℕ)
texts_from taken [] = []
texts_from taken (exchange ∷ exchanges) =
    response_bytes (response_to (taken + 1) exchange.request exchange.answer)
    ∷ texts_from (taken + 1) exchanges

-- the bytes of a response, where there is one
abbrev pub text_of : Option Response → List (List ℕ)
text_of None = []
text_of (Some response) = response_bytes response ∷ []

-- the response to bytes that are no request, where there are such
abbrev pub refused_text : Option HttpFault → List (List ℕ)
refused_text None = []
refused_text (Some refused) = text_of (fault_response refused)

-- the number of a fault that is answered
abbrev pub fault_number : HttpFault → Option ℕ
fault_number refused = option_map (λ answered. answered.0) (refusal refused)

-- the responses to the requests, and last that to bytes that are no request
abbrev pub texts_of : ℕ → List Exchange → Option HttpFault → List (List ℕ)
texts_of taken exchanges refused = texts_from taken exchanges ++ refused_text refused

-- the fault with which a stream ends that has a response
abbrev pub refused_at : StreamEnd → Option HttpFault
refused_at (fault refused) = Some refused
refused_at end = None

-- the texts one after the other
abbrev pub concatenated : List (List ℕ) → List ℕ
concatenated texts = flat_map (λ text. text) texts

-- All the texts were written.
abbrev pub WritesAll : Option (List ℕ) → Option (List ℕ) → List (List ℕ) → Type 0
WritesAll old new texts = Appends old new (concatenated texts)

-- All the texts but the last were written whole, and the last one up to some place.
pub record WritesPart (old new : Option (List ℕ)) (texts : List (List ℕ)) : Type 0 where
  pub first : List (List ℕ)
  pub last : List ℕ
  pub all : texts ≡ first ++ last ∷ []
  pub count : ℕ
  pub within : count ≤ length last
  pub written : Appends old new (concatenated first ++ take count last)

-- ---- what the desk has seen

-- the entries of a request that got this answer: one, where the desk made its call
abbrev pub entries_by : ℕ → Result Ask Answer → Answer → List Entry
entries_by seat (Ok ask) (Replied reply) = own_entries seat ask.who ask.call reply
entries_by seat (Ok ask) answer = []
entries_by seat (Err own) answer = []

-- the entries of the requests, in order
abbrev pub entries_of : Keys → ℕ → List Exchange → List Entry
entries_of keys seat exchanges =
    flat_map (λ exchange. entries_by seat (ask_of keys exchange.request) exchange.answer) exchanges

-- The history goes on, and of what came anew the entries of the seat are exactly these.
pub record GainsEntries (seat : ℕ) (entries old new : List Entry) : Type 0 where
  pub more : List Entry
  pub history : new ≡ old ++ more
  pub own : filter (λ entry. entry.seat == seat) more ≡ entries

-- 1 for an answer that the keeper of the files failed, and else 0
abbrev pub failure_count : Answer → ℕ
failure_count (Replied Unavailable) = 1
failure_count answer = 0

-- how many requests were answered that the keeper of the files failed
abbrev pub unavailable_count : List Exchange → ℕ
unavailable_count [] = 0
unavailable_count (exchange ∷ exchanges) =
    failure_count exchange.answer + unavailable_count exchanges

-- The count of faults rose by so many at least; a count at its end says nothing more.
abbrev pub RisesBy : ℕ → ℕ → ℕ → Type 0
RisesBy count before after = after < 2 ^ 64 - 1 → before + count ≤ after

-- ---- the requests that were taken

-- The stream begins with the requests, after so many that were taken before. None but the last
-- ends the connection.
abbrev pub Begins : ℕ → List ℕ → List Request → Type 0
Begins taken bytes [] = Unit {0}
Begins taken bytes (request ∷ requests) =
    (rest : List ℕ) × First bytes (Ok (Some (record { request = request; rest = rest })))
    × MatchOption (last_by (taken + 1) request)
    (Begins (taken + 1) rest requests)
    (λ _. requests ≡ [])

-- The stream begins with the requests, and, where there is a fault, is at fault after them.
abbrev pub IsPart : ℕ → List ℕ → List Request → Option HttpFault → Type 0
IsPart taken bytes requests None = Begins taken bytes requests
IsPart taken bytes requests (Some refused) = Cuts taken bytes requests (fault refused)

-- The stream is these requests and ends so, and no bytes are refused.
abbrev pub EndsWith : ℕ → List ℕ → List Request → Option HttpFault → StreamEnd → Type 0
EndsWith taken bytes requests refused end = Cuts taken bytes requests end × (refused ≡ None)

-- The stream is these requests and then bytes that are refused, by this number.
abbrev pub EndsRefused : ℕ → List ℕ → List Request → Option HttpFault → ℕ → Type 0
EndsRefused taken bytes requests refused number =
    (why : HttpFault) × Cuts taken bytes requests (fault why) × (refused ≡ Some why)
    × (fault_number why ≡ Some number)

-- What was taken of a stream by a session that ended so, after so many requests before. The first
-- ends are those of the stream. After a fault of the link, or without memory, a part of the
-- requests was taken.
abbrev pub TakesUntil : ℕ → List ℕ → List Request → Option HttpFault → SessionEnd → Type 0
TakesUntil taken bytes requests refused ends.Closed =
    EndsWith taken bytes requests refused ended ⊎ EndsWith taken bytes requests refused closing
TakesUntil taken bytes requests refused ends.Enough = EndsWith taken bytes requests refused enough
TakesUntil taken bytes requests refused (ends.BadMessage number) =
    EndsRefused taken bytes requests refused number
TakesUntil taken bytes requests refused ends.CutShort = EndsWith taken bytes requests refused cut
TakesUntil taken bytes requests refused ends.ReadFault =
    Begins taken bytes requests × (refused ≡ None)
TakesUntil taken bytes requests refused ends.WriteFault = IsPart taken bytes requests refused
TakesUntil taken bytes requests refused ends.WantOfMemory = IsPart taken bytes requests refused

-- What was written by a session that ended so: all responses, but after a fault of a write, or
-- without memory, only a part of the last.
abbrev pub WritesUntil : Option (List ℕ) → Option (List ℕ) → List (List ℕ) → SessionEnd → Type 0
WritesUntil old new texts ends.WriteFault = WritesPart old new texts
WritesUntil old new texts ends.WantOfMemory = WritesAll old new texts ⊎ WritesPart old new texts
WritesUntil old new texts end = WritesAll old new texts

-- All requests but the last have their entries.
pub record SeesButLast (keys : Keys) (seat : ℕ) (exchanges : List Exchange)
    (old new : List Entry) : Type 0 where
  pub first : List Exchange
  pub last : Exchange
  pub all : exchanges ≡ first ++ last ∷ []
  pub sees : GainsEntries seat (entries_of keys seat first) old new

-- What the desk of a session has seen that ended without memory: the calls of all requests, but the
-- last of them may not have been made where no bytes were refused after it.
abbrev pub SeesWithoutMemory : Keys → ℕ → List Exchange → List Entry → List Entry
    → Option HttpFault → Type 0
SeesWithoutMemory keys seat exchanges old new None =
    GainsEntries seat (entries_of keys seat exchanges) old new
    ⊎ SeesButLast keys seat exchanges old new
SeesWithoutMemory keys seat exchanges old new (Some refused) =
    GainsEntries seat (entries_of keys seat exchanges) old new

-- What the desk of a session has seen that ended so, by the fault of the bytes that it refused: the
-- calls of all requests, but without memory maybe not the last.
abbrev pub SeesUntil : Keys → ℕ → List Exchange → Option HttpFault → List Entry → List Entry
    → SessionEnd → Type 0
SeesUntil keys seat exchanges refused old new ends.WantOfMemory =
    SeesWithoutMemory keys seat exchanges old new refused
SeesUntil keys seat exchanges refused old new end =
    GainsEntries seat (entries_of keys seat exchanges) old new

-- What a session was given or leaves: the stream of its connection and what is written on it,
-- where they are told, and what its desk has seen, with the count of faults.
pub record Moment : Type 0 where
  pub stream : Option (List ℕ)
  pub written : Option (List ℕ)
  pub seen : List Entry
  pub faults : ℕ

-- What a session did until it ended, after so many requests that were taken before. The requests
-- that were taken have answers, of which each is the request's own or a reply of the desk; what is
-- written are the responses with these answers; the new entries of the desk's seat are the calls
-- with these replies; and at most as often as the keeper of the files failed is it answered that it
-- did.
pub record ServesFrom (keys : Keys) (seat taken : ℕ) (before after : Moment)
    (end : SessionEnd) : Type 0 where
  pub exchanges : List Exchange
  pub refused : Option HttpFault
  pub answered : AreAnswered keys exchanges
  pub takes : IfSome before.stream
      (λ bytes. TakesUntil taken bytes (requests_of exchanges) refused end)
  pub writes : WritesUntil before.written after.written (texts_of taken exchanges refused) end
  pub sees : SeesUntil keys seat exchanges refused before.seen after.seen end
  pub failures : RisesBy (unavailable_count exchanges) before.faults after.faults
  pub later : before.faults ≤ after.faults

-- What a whole session did.
abbrev pub Serves : Keys → ℕ → Moment → Moment → SessionEnd → Type 0
Serves keys seat before after end = ServesFrom keys seat 0 before after end

-- A request, the one of this number on its connection, was taken, answered and responded to, and
-- the connection goes on.
pub record ServesOne (keys : Keys) (seat number : ℕ) (before after : Moment) : Type 0 where
  pub exchange : Exchange
  pub answered : MayGet (ask_of keys exchange.request) exchange.answer
  pub takes : IfSome before.stream (λ bytes. (rest : List ℕ) × (after.stream ≡ Some rest)
      × First bytes (Ok (Some (record { request = exchange.request; rest = rest }))))
  pub goes_on : last_by number exchange.request ≡ None
  pub writes : Appends before.written after.written
      (response_bytes (response_to number exchange.request exchange.answer))
  pub sees : GainsEntries seat (entries_by seat (ask_of keys exchange.request) exchange.answer)
      before.seen after.seen
  pub failures : RisesBy (failure_count exchange.answer) before.faults after.faults
  pub later : before.faults ≤ after.faults

-- One request was served and the connection goes on, or it ended.
abbrev pub ServesNext : Keys → ℕ → ℕ → Moment → Moment → Option SessionEnd → Type 0
ServesNext keys seat taken before after None = ServesOne keys seat (taken + 1) before after
ServesNext keys seat taken before after (Some end) = ServesFrom keys seat taken before after end

-- A fault of the link ended the session only where the link's count of faults rose.
pub record HasLinkCause (before now : ℕ) (end : Option SessionEnd) : Type 0 where
  pub later : before ≤ now
  pub read : end ≡ Some ends.ReadFault → Rose before now
  pub write : end ≡ Some ends.WriteFault → Rose before now

-- the moment of a session with these
abbrev pub moment : Option (List ℕ) → Option (List ℕ) → List Entry → ℕ → Moment
moment stream written seen faults =
    record { stream = stream; written = written; seen = seen; faults = faults }

-- ---- the three terms that are said of a connection with an input

-- The request's own answer, where it has one whatever the keys are and whatever the desk replies.
abbrev pub IsOwnAnswer : Exchange → Type 0
IsOwnAnswer exchange =
    (own : Answer) → ((keys : Keys) → ask_of keys exchange.request ≡ Err own)
    → exchange.answer ≡ own

-- The responses of a list of answers, one for each request of the input, and last that to bytes
-- that are refused.
pub record AreResponses (input : List ℕ) (texts : List (List ℕ)) (end : StreamEnd) : Type 0 where
  pub exchanges : List Exchange
  pub requests_are : AreRequests input (requests_of exchanges) end
  pub own : All IsOwnAnswer exchanges
  pub texts_are : texts ≡ texts_of 0 exchanges (refused_at end)

-- how a session ends with the stream, by a fault only where that is answered
abbrev pub session_end : StreamEnd → Option SessionEnd
session_end ended = Some ends.Closed
session_end closing = Some ends.Closed
session_end enough = Some ends.Enough
session_end (fault refused) = option_map ends.BadMessage (fault_number refused)
session_end cut = Some ends.CutShort

-- The connection is served whole, and this is the end of its requests.
pub record ServedWhole (input written : List ℕ) (end : SessionEnd) : Type 0 where
  pub texts : List (List ℕ)
  pub stream_end : StreamEnd
  pub responses : AreResponses input texts stream_end
  pub all : written ≡ concatenated texts
  pub ended : session_end stream_end ≡ Some end

-- The connection is served in part: what is written is a prefix of the responses to requests with
-- which the input begins, and last of that to bytes that are refused.
pub record ServedInPart (input written : List ℕ) : Type 0 where
  pub exchanges : List Exchange
  pub refused : Option HttpFault
  pub begins : IsPart 0 input (requests_of exchanges) refused
  pub own : All IsOwnAnswer exchanges
  pub count : ℕ
  pub front : written ≡ take count (concatenated (texts_of 0 exchanges refused))

-- The connection is served with this end: whole; or in part, where the link failed; or in part,
-- without memory.
abbrev pub ServedWith : List ℕ → List ℕ → ℕ → SessionEnd → Type 0
ServedWith input written faults ends.ReadFault = ServedInPart input written × (0 < faults)
ServedWith input written faults ends.WriteFault = ServedInPart input written × (0 < faults)
ServedWith input written faults ends.WantOfMemory = ServedInPart input written
ServedWith input written faults end = ServedWhole input written end
