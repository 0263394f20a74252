-- The responses to requests by their answers.
use Rattle.std.specs.Prelude.{ℕ, false, ◌||◌, ◌==◌, List, [], ◌∷◌, ◌++◌, codes, bytes_eq, Some, None}
use Rattle.vr_base.specs.Signs.{line_feed}
use Rattle.vr_base.specs.declared.calls.Reply.{Reply}
use Rattle.vr_base.specs.declared.calls.Reply.TheVariants.{Stored, Read, Ended, PolicyHash, NoSuchFile, Denied, NoSuchPipeline, PinMissing, PinMismatch, TooLarge, BadProgram, Trapped, OutOfFuel, BadPath, Unavailable, OutOfMemory, Unkeyed, QuotaReached}
use Rattle.vr_http.specs.Requests.{most_requests}
use Rattle.vr_http.specs.declared.requests.Request.{Request}
use Rattle.vr_http.specs.declared.responses.BodyKind.{BodyKind}
use Rattle.vr_http.specs.declared.responses.BodyKind.TheVariants as kinds
use Rattle.vr_http.specs.declared.responses.Response.{Response}
use Rattle.vr_text.specs.Refusals.{refusal_text}
use Rattle.vr_face.specs.declared.answers.Answer.{Answer}
use Rattle.vr_face.specs.declared.answers.Answer.TheVariants.{Replied, NoRoute, BadMethod}
use Rattle.vr_face.specs.declared.answers.Methods.{Methods}
use Rattle.vr_face.specs.declared.answers.Methods.TheVariants.{GetPutPost, Post, Get}
use Rattle.vr_face.specs.declared.responding.Manner.{Manner}

-- a response with this status and body, after which the connection goes on
abbrev pub plain : ℕ → BodyKind → List ℕ → Response
plain status kind body = record {
  status = status;
  kind = kind;
  exit = None;
  allow = None;
  close = false;
  bare = false;
  body = body;
}

-- a line of text as a response
abbrev pub said : ℕ → List ℕ → Response
said status text = plain status kinds.Text (text ++ line_feed ∷ [])

-- the status of a refusal; a call that was done is no refusal
abbrev pub refusal_status : Reply → ℕ
refusal_status (BadPath fault) = 400
refusal_status (Denied path right) = 403
refusal_status Unkeyed = 403
refusal_status (NoSuchFile path) = 404
refusal_status (NoSuchPipeline id) = 404
refusal_status (PinMissing path) = 409
refusal_status (PinMismatch path found) = 409
refusal_status (QuotaReached name size) = 409
refusal_status (TooLarge size) = 413
refusal_status (BadProgram path why) = 422
refusal_status (Trapped path kind) = 422
refusal_status (OutOfFuel path) = 422
refusal_status Unavailable = 503
refusal_status OutOfMemory = 507
refusal_status Stored = 200
refusal_status (Read body) = 200
refusal_status (Ended code out) = 200
refusal_status (PolicyHash digits) = 200

-- the response to a call that was refused
abbrev pub refusal_response : Reply → Response
refusal_response reply = said (refusal_status reply) (refusal_text reply)

-- the response to a call by its reply
abbrev pub reply_response : Reply → Response
reply_response Stored = plain 204 kinds.None []
reply_response (Read body) = plain 200 kinds.Octets body
reply_response (Ended code out) = record (plain 200 kinds.Octets out) { exit = Some code }
reply_response (PolicyHash digits) = plain 200 kinds.Text digits
reply_response refused = refusal_response refused

-- the methods of a route, as a response lists them
abbrev pub allow_text : Methods → List ℕ
allow_text GetPutPost = codes "GET, PUT, POST"
allow_text Post = codes "POST"
allow_text Get = codes "GET"

-- the response with an answer
abbrev pub answer_response : Answer → Response
answer_response (Replied reply) = reply_response reply
answer_response NoRoute = said 404 (codes "no route")
answer_response (BadMethod methods) =
    record (said 405 (codes "bad method")) { allow = Some (allow_text methods) }

-- How a request, the one of this number on its connection, is responded to: the connection ends
-- after it where it asks for that or is the last one, and to HEAD the body is left out.
abbrev pub manner_of : ℕ → Request → Manner
manner_of at request = record {
  close = request.close || at == most_requests;
  bare = bytes_eq request.method (codes "HEAD");
}

-- the response with an answer in a manner
abbrev pub response_in : Manner → Answer → Response
response_in manner answer =
    record (answer_response answer) { close = manner.close; bare = manner.bare }

-- the response to a request, the one of this number on its connection
abbrev pub response_to : ℕ → Request → Answer → Response
response_to at request answer = response_in (manner_of at request) answer
