-- The bytes of a response.
use Rattle.std.specs.Prelude.{◌≡◌, ℕ, ◌+◌, ◌==◌, Bool, true, false, IsTrue, List, [], ◌∷◌, ◌++◌, length, codes, decimal, unwrap_or, Option, Some, None, option_map, if◌then◌else◌}
use Rattle.std.specs.List.{list_any}
use Rattle.http.specs.StatusCode.{code_digits, reason_phrase}
use Rattle.httparse.specs.Ascii.{crlf_bytes}
use Rattle.vr_http.specs.declared.faults.HttpFault.{HttpFault}
use Rattle.vr_http.specs.declared.faults.HttpFault.TheVariants.{BadHead, HeadTooLarge, NoLength, BodyTooLarge, Coding, Expect, CutShort, ReadFault, OutOfMemory}
use Rattle.vr_http.specs.declared.responses.BodyKind.{BodyKind}
use Rattle.vr_http.specs.declared.responses.BodyKind.TheVariants as kinds
use Rattle.vr_http.specs.declared.responses.Response.{Response}

-- the statuses that are answered
abbrev pub statuses : List ℕ
statuses =
    200 ∷ 204 ∷ 400 ∷ 403 ∷ 404 ∷ 405 ∷ 409 ∷ 411 ∷ 413 ∷ 417 ∷ 422 ∷ 431 ∷ 501 ∷ 503 ∷ 507 ∷ []

-- the status of a response without content
abbrev pub no_content : ℕ
no_content = 204

-- A status that is answered; without content there are neither type nor body.
pub record IsWritable (response : Response) : Type 0 where
  pub status : IsTrue (list_any (λ status. status == response.status) statuses)
  pub bare_kind : response.status ≡ no_content → response.kind ≡ kinds.None
  pub full_kind : response.kind ≡ kinds.None → response.status ≡ no_content
  pub empty : response.kind ≡ kinds.None → response.body ≡ []

-- a line of two parts, and its end
unfoldable pub line : List ℕ → List ℕ → List ℕ
line name value = name ++ (value ++ crlf_bytes)

-- the standard phrase of a status
unfoldable pub phrase : ℕ → List ℕ
phrase status = unwrap_or (reason_phrase status) []

-- HTTP-version SP status-code SP reason-phrase
unfoldable pub status_line : ℕ → List ℕ
status_line status = codes "HTTP/1.1 " ++ (code_digits status ++ line (codes " ") (phrase status))

-- the type and the length of a body
unfoldable pub body_fields : BodyKind → List ℕ → List ℕ
body_fields kinds.None body = []
body_fields kinds.Octets body =
    line (codes "Content-Type: ") (codes "application/octet-stream")
    ++ line (codes "Content-Length: ") (decimal (length body))
body_fields kinds.Text body =
    line (codes "Content-Type: ") (codes "text/plain")
    ++ line (codes "Content-Length: ") (decimal (length body))

-- the exit code of a run
unfoldable pub exit_field : Option ℕ → List ℕ
exit_field None = []
exit_field (Some code) = line (codes "Exit-Code: ") (decimal code)

-- the methods that are allowed
unfoldable pub allow_field : Option (List ℕ) → List ℕ
allow_field None = []
allow_field (Some methods) = line (codes "Allow: ") methods

-- that the connection ends
unfoldable pub close_field : Bool → List ℕ
close_field false = []
close_field true = line (codes "Connection: ") (codes "close")

-- the bytes up to and with the empty line
unfoldable pub response_head : Response → List ℕ
response_head response =
    status_line response.status
    ++ (body_fields response.kind response.body
    ++ (exit_field response.exit
    ++ (allow_field response.allow
    ++ (close_field response.close
    ++ crlf_bytes))))

-- the body that is written, none to HEAD
abbrev pub sent_body : Response → List ℕ
sent_body response = if response.bare then [] else response.body

-- the bytes of a response
abbrev pub response_bytes : Response → List ℕ
response_bytes response = response_head response ++ sent_body response

-- the number and the status of a fault that is answered
abbrev pub refusal : HttpFault → Option (ℕ × ℕ)
refusal BadHead = Some (1, 400)
refusal HeadTooLarge = Some (2, 431)
refusal NoLength = Some (3, 411)
refusal BodyTooLarge = Some (4, 413)
refusal Coding = Some (5, 501)
refusal Expect = Some (6, 417)
refusal CutShort = None
refusal ReadFault = None
refusal OutOfMemory = None

-- the response with a fault's number and status, to any method
abbrev pub refusal_response : ℕ × ℕ → Response
refusal_response refused = record {
  status = refused.1;
  kind = kinds.Text;
  exit = None;
  allow = None;
  close = true;
  bare = false;
  body = codes "bad request " ++ (48 + refused.0) ∷ 10 ∷ [];
}

-- a fault's own response, after which the connection ends
abbrev pub fault_response : HttpFault → Option Response
fault_response fault = option_map refusal_response (refusal fault)
