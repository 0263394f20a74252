-- What a response may be written with.
use Rattle.std.proofs.Common.{◌≡◌, ℕ, List, codes, refl, sym, subst, arith}
use Rattle.std.specs.List.{list_any}
use Rattle.std.specs.Prelude.{◌==◌, IsTrue}
use Rattle.vr_base.specs.declared.calls.Reply.{Reply}
use Rattle.vr_base.specs.declared.calls.Reply.TheVariants.{Stored, Read, Ended, PolicyHash, NoSuchFile, Denied, NoSuchPipeline, PinMissing, PinMismatch, TooLarge, BadProgram, Trapped, OutOfFuel, BadPath, Unavailable, OutOfMemory, Unkeyed, QuotaReached}
use Rattle.vr_http.specs.Responses.{IsWritable, statuses}
use Rattle.vr_http.specs.declared.responses.Response.{Response}
use Rattle.vr_face.specs.Answers.{answer_response, refusal_status, reply_response, said}
use Rattle.vr_text.specs.Refusals.{refusal_text}
use Rattle.vr_face.specs.declared.answers.Answer.{Answer}
use Rattle.vr_face.specs.declared.answers.Answer.TheVariants.{Replied, NoRoute, BadMethod}
use Rattle.vr_face.specs.declared.responding.Manner.{Manner}

-- a status that is answered with a text
abbrev IsSaid : ℕ → Type 0
IsSaid status = IsTrue (list_any (λ (known : ℕ). known == status) statuses) × (status ≡ 204 → ⊥)

refusal_said : (reply : Reply) → IsSaid (refusal_status reply)
refusal_said (BadPath fault) = (refl, λ e. omega arith)
refusal_said (Denied path right) = (refl, λ e. omega arith)
refusal_said Unkeyed = (refl, λ e. omega arith)
refusal_said (NoSuchFile path) = (refl, λ e. omega arith)
refusal_said (NoSuchPipeline id) = (refl, λ e. omega arith)
refusal_said (PinMissing path) = (refl, λ e. omega arith)
refusal_said (PinMismatch path found) = (refl, λ e. omega arith)
refusal_said (QuotaReached name size) = (refl, λ e. omega arith)
refusal_said (TooLarge size) = (refl, λ e. omega arith)
refusal_said (BadProgram path why) = (refl, λ e. omega arith)
refusal_said (Trapped path kind) = (refl, λ e. omega arith)
refusal_said (OutOfFuel path) = (refl, λ e. omega arith)
refusal_said Unavailable = (refl, λ e. omega arith)
refusal_said OutOfMemory = (refl, λ e. omega arith)
refusal_said Stored = (refl, λ e. omega arith)
refusal_said (Read body) = (refl, λ e. omega arith)
refusal_said (Ended code out) = (refl, λ e. omega arith)
refusal_said (PolicyHash digits) = (refl, λ e. omega arith)

said_writable : (status : ℕ) (text : List ℕ) → IsSaid status → IsWritable (said status text)
said_writable status text s = record {
  status = s.0;
  bare_kind = λ e. absurd (s.1 e);
  full_kind = λ e. cc;
  empty = λ e. cc;
}

reply_writable : (reply : Reply) → IsWritable (reply_response reply)
reply_writable Stored = record { status = refl; bare_kind = λ e. refl; full_kind = λ e. refl; empty = λ e. refl }
reply_writable (Read body) = record { status = refl; bare_kind = λ e. absurd (omega arith); full_kind = λ e. cc; empty = λ e. cc }
reply_writable (Ended code out) = record { status = refl; bare_kind = λ e. absurd (omega arith); full_kind = λ e. cc; empty = λ e. cc }
reply_writable (PolicyHash digits) = record { status = refl; bare_kind = λ e. absurd (omega arith); full_kind = λ e. cc; empty = λ e. cc }
reply_writable refused = said_writable (refusal_status refused) (refusal_text refused) (refusal_said refused)

answer_writable : (answer : Answer) → IsWritable (answer_response answer)
answer_writable (Replied reply) = reply_writable reply
answer_writable NoRoute = said_writable 404 (codes "no route") (refl, λ e. omega arith)
answer_writable (BadMethod methods) = record { status = refl; bare_kind = λ e. absurd (omega arith); full_kind = λ e. cc; empty = λ e. cc }

-- whether the connection ends and whether the body is left out is free
in_manner : (response : Response) (manner : Manner) → IsWritable response → IsWritable (record response { close = manner.close; bare = manner.bare })
in_manner response manner w = record { status = w.status; bare_kind = w.bare_kind; full_kind = w.full_kind; empty = w.empty }

pub response_writable : (response : Response) (manner : Manner) (answer : Answer) → response ≡ answer_response answer
    → IsWritable (record response { close = manner.close; bare = manner.bare })
response_writable response manner answer e = in_manner response manner (subst IsWritable (sym e) (answer_writable answer))
