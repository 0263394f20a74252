-- The requests that a stream of bytes spells, and how the stream ends. It is told of whole
-- streams, so that it can't matter in which pieces they come.
use Rattle.std.specs.Prelude.{◌≡◌, ℕ, ◌+◌, ◌⊎◌, Bool, true, false, IsTrue, IfSome, ◌==◌, nat_le, List, [], ◌∷◌, length, take, drop, map, Option, Some, None, MatchOption, Result, Ok, Err, if◌then◌else◌}
use Rattle.httparse.specs.Grammar.{RequestHead, ReadsRequest, HasNoRequest}
use Rattle.httparse.specs.Spans.{name_and_value}
use Rattle.vr_base.specs.Checks.{◌>>=◌}
use Rattle.vr_http.specs.Fields.{NamedValue, body_size, closes, key_of}
use Rattle.vr_http.specs.Heads.{CutHead, first_head}
use Rattle.vr_http.specs.declared.faults.HttpFault.{HttpFault}
use Rattle.vr_http.specs.declared.faults.HttpFault.TheVariants.{BadHead, CutShort, ReadFault, OutOfMemory}
use Rattle.vr_http.specs.declared.requests.Request.{Request}

-- The first request of a stream and the bytes after it.
pub record CutRequest : Type 0 where
  pub request : Request
  pub rest : List ℕ

-- What a stream begins with: a request, nothing more, or a fault.
abbrev pub FirstAnswer : Type 0
FirstAnswer = Result (Option CutRequest) HttpFault

-- the fields of a head
abbrev pub fields_of : RequestHead → List NamedValue
fields_of head = map name_and_value head.fields

-- the request with this head and this body
abbrev pub request_of : RequestHead → List ℕ → Request
request_of head body = record {
  method = head.method;
  target = head.target;
  key = key_of (fields_of head);
  close = closes head.minor (fields_of head);
  body = body;
}

-- the request whose body is the first bytes after its head, where so many have come
abbrev pub sized_request : RequestHead → List ℕ → ℕ → FirstAnswer
sized_request head rest size =
    if nat_le size (length rest)
    then Ok (Some (record { request = request_of head (take size rest); rest = drop size rest }))
    else Err CutShort

-- the request of a head and of the bytes after it, or the first of the head's faults
abbrev pub request_after : RequestHead → List ℕ → FirstAnswer
request_after head rest =
    body_size head.method head.target (fields_of head) >>= λ size. sized_request head rest size

-- The text is no request head of the grammar.
pub record IsNoHead (text : List ℕ) (answer : FirstAnswer) : Type 0 where
  pub none : HasNoRequest text
  pub refused : answer ≡ Err BadHead

-- The text is a request head of the grammar, and the answer is its request. A head ends with its
-- first empty line, so that nothing of the text is over.
pub record IsHead (text rest : List ℕ) (answer : FirstAnswer) : Type 0 where
  pub head : RequestHead
  pub over : List ℕ
  pub reads : ReadsRequest text head over
  pub answered : answer ≡ request_after head rest

-- what a stream begins with, by its first head
abbrev pub FirstBy : Result (Option CutHead) HttpFault → FirstAnswer → Type 0
FirstBy (Ok (Some cut)) answer = IsNoHead cut.text answer ⊎ IsHead cut.text cut.rest answer
FirstBy (Ok None) answer = answer ≡ Ok None
FirstBy (Err fault) answer = answer ≡ Err fault

-- What a stream begins with, where a head has at most 16,384 bytes and 64 lines between its first
-- and its empty one.
abbrev pub First : List ℕ → FirstAnswer → Type 0
First bytes answer = FirstBy (first_head 16384 64 bytes) answer

-- the fault says what the bytes are, and not that memory ran out or that the source failed
abbrev pub is_of_bytes : HttpFault → Bool
is_of_bytes ReadFault = false
is_of_bytes OutOfMemory = false
is_of_bytes fault = true

-- A call answered what the bytes begin with, and left the bytes after it.
abbrev pub TakesRequest : List ℕ → Option (List ℕ) → Result (Option Request) HttpFault → Type 0
TakesRequest bytes left (Ok (Some request)) =
    (rest : List ℕ) × (left ≡ Some rest)
    × First bytes (Ok (Some (record { request = request; rest = rest })))
TakesRequest bytes left (Ok None) = First bytes (Ok None)
TakesRequest bytes left (Err fault) = IsTrue (is_of_bytes fault) → First bytes (Err fault)

-- The same, where the source tells the stream.
abbrev pub TakesFirst : Option (List ℕ) → Option (List ℕ) → Result (Option Request) HttpFault
    → Type 0
TakesFirst stream left result = IfSome stream (λ bytes. TakesRequest bytes left result)

-- How the requests of a stream end: the stream ends between requests; a request closes the
-- connection; there are as many as a connection may have; the bytes after the last request are at
-- fault; they end inside a request.
pub data StreamEnd : Type 0 where
  ended closing enough : StreamEnd
  fault : HttpFault → StreamEnd
  cut : StreamEnd

-- how a stream ends whose next bytes have this fault
abbrev pub end_by : HttpFault → StreamEnd
end_by CutShort = cut
end_by refused = fault refused

-- No request begins the stream, and this is its end.
abbrev pub Ends : List ℕ → StreamEnd → Type 0
Ends bytes end =
    (First bytes (Ok None) × (end ≡ ended))
    ⊎ ((refused : HttpFault) × First bytes (Err refused) × (end ≡ end_by refused))

-- the most requests of a connection
abbrev pub most_requests : ℕ
most_requests = 65536

-- the end that a request is, where nothing is taken after it; it is the connection's request of
-- this number, counted from 1
abbrev pub last_by : ℕ → Request → Option StreamEnd
last_by number request =
    if request.close then Some closing else
    (if number == most_requests then Some enough else None)

-- The stream is cut into the requests and the end, after so many that were taken before.
abbrev pub Cuts : ℕ → List ℕ → List Request → StreamEnd → Type 0
Cuts taken bytes [] end = Ends bytes end
Cuts taken bytes (request ∷ requests) end =
    (rest : List ℕ) × First bytes (Ok (Some (record { request = request; rest = rest })))
    × MatchOption (last_by (taken + 1) request)
    (Cuts (taken + 1) rest requests end)
    (λ last. (requests ≡ []) × (end ≡ last))

-- These are the requests of a whole stream, and this is its end.
abbrev pub AreRequests : List ℕ → List Request → StreamEnd → Type 0
AreRequests bytes requests end = Cuts 0 bytes requests end
