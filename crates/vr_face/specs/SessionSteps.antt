-- What the steps of a session do, one after the other.
use Rattle.std.specs.Prelude.{◌≡◌, ℕ, ◌≤◌, ◌⊎◌, ◌==◌, Bool, List, [], Option, Some, None, Result, Ok, Err, if◌then◌else◌}
use Rattle.std.specs.Io.KnownBytes.{Appends}
use Rattle.vr_base.specs.Outside.{AppendsPrefix}
use Rattle.vr_base.specs.declared.calls.Entry.{Entry}
use Rattle.vr_base.specs.declared.memory.NoMemory.{NoMemory}
use Rattle.vr_http.specs.Requests.{most_requests}
use Rattle.vr_http.specs.Responses.{refusal_response, response_bytes}
use Rattle.vr_http.specs.declared.requests.Request.{Request}
use Rattle.vr_face.specs.Answers.{response_to}
use Rattle.vr_face.specs.Asks.{ask_of}
use Rattle.vr_face.specs.Sessions.{MayGet, Moment, RisesBy, GainsEntries, entries_by, failure_count}
use Rattle.vr_face.specs.declared.answers.Answer.{Answer}
use Rattle.vr_face.specs.declared.asks.Ask.{Ask}
use Rattle.vr_face.specs.declared.keys.Keys.{Keys}
use Rattle.vr_face.specs.declared.sessions.SessionEnd.{SessionEnd}
use Rattle.vr_face.specs.declared.sessions.SessionEnd.TheVariants as ends

-- A request got an answer that it may get, and its call has its entry.
pub record Answered (seat : ℕ) (asked : Result Ask Answer) (old new : List Entry)
    (before after : ℕ) (answer : Answer) : Type 0 where
  pub may : MayGet asked answer
  pub sees : GainsEntries seat (entries_by seat asked answer) old new
  pub failures : RisesBy (failure_count answer) before after
  pub later : before ≤ after

-- A request got such an answer, or memory ran out before the desk was asked.
abbrev pub Answers : ℕ → Result Ask Answer → List Entry → List Entry → ℕ → ℕ
    → Result Answer NoMemory → Type 0
Answers seat asked old new before after (Ok answer) =
    Answered seat asked old new before after answer
Answers seat asked old new before after (Err refused) = (new ≡ old) × (after ≡ before)

-- The bytes were written whole, or a prefix of them and the session ends.
abbrev pub Sends : Option (List ℕ) → Option (List ℕ) → List ℕ
    → Result (Unit {0}) SessionEnd → Type 0
Sends old new bytes (Ok done) = Appends old new bytes
Sends old new bytes (Err ends.WriteFault) = AppendsPrefix old new bytes
Sends old new bytes (Err ends.WantOfMemory) = AppendsPrefix old new bytes
Sends old new bytes (Err end) = ⊥

-- Bytes that are no request were responded to with the number and the status of their fault, or a
-- prefix of that was written. Without such the session ends with nothing written.
abbrev pub RefusesBytes : Option (List ℕ) → Option (List ℕ) → Option (ℕ × ℕ) → SessionEnd → Type 0
RefusesBytes old new None end = (new ≡ old) × (end ≡ ends.WantOfMemory)
RefusesBytes old new (Some refused) (ends.BadMessage number) =
    Appends old new (response_bytes (refusal_response refused)) × (number ≡ refused.0)
RefusesBytes old new (Some refused) ends.WriteFault =
    AppendsPrefix old new (response_bytes (refusal_response refused))
RefusesBytes old new (Some refused) ends.WantOfMemory =
    AppendsPrefix old new (response_bytes (refusal_response refused))
RefusesBytes old new (Some refused) end = ⊥

-- how the connection goes on after a request that was responded to
abbrev pub end_after : Bool → ℕ → Option SessionEnd
end_after close number =
    if close then Some ends.Closed else
    (if number == most_requests then Some ends.Enough else None)

-- The response was written, whole, and the connection goes on or ends as the request says; or a
-- prefix of it was.
abbrev pub Writes : ℕ → Request → Option (List ℕ) → Option (List ℕ) → Answer
    → Option SessionEnd → Type 0
Writes number request old new answer (Some ends.WriteFault) =
    AppendsPrefix old new (response_bytes (response_to number request answer))
Writes number request old new answer (Some ends.WantOfMemory) =
    AppendsPrefix old new (response_bytes (response_to number request answer))
Writes number request old new answer result =
    Appends old new (response_bytes (response_to number request answer))
    × (result ≡ end_after request.close number)

-- The desk has seen the request's call, or, where memory ran out, it may not have.
abbrev pub SeesRequest : ℕ → Result Ask Answer → List Entry → List Entry → Answer
    → Option SessionEnd → Type 0
SeesRequest seat asked old new answer (Some ends.WantOfMemory) =
    GainsEntries seat (entries_by seat asked answer) old new ⊎ GainsEntries seat [] old new
SeesRequest seat asked old new answer result =
    GainsEntries seat (entries_by seat asked answer) old new

-- What the serving of a request, the one of this number on its connection, did.
pub record Exchanges (keys : Keys) (seat number : ℕ) (request : Request) (before after : Moment)
    (result : Option SessionEnd) : Type 0 where
  pub answer : Answer
  pub may : MayGet (ask_of keys request) answer
  pub stream : after.stream ≡ before.stream
  pub writes : Writes number request before.written after.written answer result
  pub sees : SeesRequest seat (ask_of keys request) before.seen after.seen answer result
  pub failures : RisesBy (failure_count answer) before.faults after.faults
  pub later : before.faults ≤ after.faults
