-- What a session did on a connection that tells its bytes, as one of the ways to be served.
use Rattle.std.proofs.Common.{◌≡◌, ℕ, ◌+◌, inl, inr, List, [], ◌∷◌, ◌++◌, length, take, get_or, Option, Some, None, Result, refl, ap, sym, ◌∙◌, subst, arith, append-nil}
use Rattle.std.proofs.Math.Seq.{take-append-add, take-length}
use Rattle.std.proofs.lemmas.Grind.{flat_map-append}
use Rattle.std.specs.List.{All}
use Rattle.vr_base.specs.declared.calls.Entry.{Entry}
use Rattle.vr_http.specs.Requests.{StreamEnd, Cuts, ended, closing, enough, fault, cut}
use Rattle.vr_http.specs.declared.faults.HttpFault.{HttpFault}
use Rattle.vr_face.specs.Asks.{ask_of}
use Rattle.vr_face.specs.Doors.{IsServed}
use Rattle.vr_face.specs.Sessions.{AreAnswered, Exchange, HasLinkCause, IsOwnAnswer, IsPart, MayGet, ServedInPart, ServedWhole, ServedWith, ServesFrom, TakesUntil, WritesPart, WritesUntil, concatenated, moment, refused_at, requests_of, session_end, texts_of}
use Rattle.vr_face.specs.declared.answers.Answer.{Answer}
use Rattle.vr_face.specs.declared.asks.Ask.{Ask}
use Rattle.vr_face.specs.declared.keys.Keys.{Keys}
use Rattle.vr_face.specs.declared.sessions.SessionEnd.{SessionEnd}
use Rattle.vr_face.specs.declared.sessions.SessionEnd.TheVariants as ends

-- an answer that a request may get is its own, where it has one whatever the keys are
own_answer : (keys : Keys) (exchange : Exchange) → MayGet (ask_of keys exchange.request) exchange.answer → IsOwnAnswer exchange
own_answer keys exchange may own same = subst (λ (asked : Result Ask Answer). MayGet asked exchange.answer) (same keys) may

own_answers : (keys : Keys) (exchanges : List Exchange) → AreAnswered keys exchanges → All IsOwnAnswer exchanges
own_answers keys exchanges answered k d below = own_answer keys (get_or exchanges k d) (answered k d below)

-- ---- what is written, of all the responses

concatenated_last : (first : List (List ℕ)) (last : List ℕ) → concatenated (first ++ last ∷ []) ≡ concatenated first ++ last
concatenated_last first last = flat_map-append (λ (text : List ℕ). text) first (last ∷ []) ∙ ap (λ (bytes : List ℕ). concatenated first ++ bytes) (append-nil last)

all_front : (texts : List (List ℕ)) (sent : List ℕ) → sent ≡ concatenated texts → sent ≡ take (length (concatenated texts)) (concatenated texts)
all_front texts sent e = e ∙ sym (take-length (concatenated texts))

part_front : (texts first : List (List ℕ)) (last sent : List ℕ) (count : ℕ) → texts ≡ first ++ last ∷ [] → sent ≡ concatenated first ++ take count last
    → sent ≡ take (length (concatenated first) + count) (concatenated texts)
part_front texts first last sent count e h =
    h ∙ sym (ap (λ (bytes : List ℕ). take (length (concatenated first) + count) bytes) (ap (λ (all : List (List ℕ)). concatenated all) e ∙ concatenated_last first last)
    ∙ take-append-add (concatenated first) last count)

module _ (input sent : List ℕ) (exchanges : List Exchange) (refused : Option HttpFault) (own : All IsOwnAnswer exchanges) where
  whole : (end : SessionEnd) (stream_end : StreamEnd) → Cuts 0 input (requests_of exchanges) stream_end → refused ≡ refused_at stream_end
      → session_end stream_end ≡ Some end → sent ≡ concatenated (texts_of 0 exchanges refused) → ServedWhole input sent end
  whole end stream_end cuts e is w = record {
    texts = texts_of 0 exchanges refused;
    stream_end = stream_end;
    responses = record {
      exchanges = exchanges;
      requests_are = cuts;
      own = own;
      texts_are = ap (λ (why : Option HttpFault). texts_of 0 exchanges why) e;
    };
    all = w;
    ended = is;
  }

  all_in_part : IsPart 0 input (requests_of exchanges) refused → sent ≡ concatenated (texts_of 0 exchanges refused) → ServedInPart input sent
  all_in_part begins w = record {
    exchanges = exchanges;
    refused = refused;
    begins = begins;
    own = own;
    count = length (concatenated (texts_of 0 exchanges refused));
    front = all_front (texts_of 0 exchanges refused) sent w;
  }

  in_part : IsPart 0 input (requests_of exchanges) refused → WritesPart (Some []) (Some sent) (texts_of 0 exchanges refused) → ServedInPart input sent
  in_part begins w = record {
    exchanges = exchanges;
    refused = refused;
    begins = begins;
    own = own;
    count = length (concatenated w.first) + w.count;
    front = part_front (texts_of 0 exchanges refused) w.first w.last sent w.count w.all w.written;
  }

  served_by : (end : SessionEnd) (faults : ℕ) → TakesUntil 0 input (requests_of exchanges) refused end
      → WritesUntil (Some []) (Some sent) (texts_of 0 exchanges refused) end → HasLinkCause 0 faults (Some end) → ServedWith input sent faults end
  served_by ends.Closed faults (inl t) w cause = whole ends.Closed ended t.0 t.1 refl w
  served_by ends.Closed faults (inr t) w cause = whole ends.Closed closing t.0 t.1 refl w
  served_by ends.Enough faults t w cause = whole ends.Enough enough t.0 t.1 refl w
  served_by (ends.BadMessage number) faults t w cause = whole (ends.BadMessage number) (fault t.0) t.1 t.2 (rw t.3 refl) w
  served_by ends.CutShort faults t w cause = whole ends.CutShort cut t.0 t.1 refl w
  served_by ends.ReadFault faults t w cause =
      (all_in_part (subst (λ (why : Option HttpFault). IsPart 0 input (requests_of exchanges) why) (sym t.1) t.0) w, omega (arith, cause.read refl))
  served_by ends.WriteFault faults t w cause = (in_part t w, omega (arith, cause.write refl))
  served_by ends.WantOfMemory faults t (inl w) cause = all_in_part t w
  served_by ends.WantOfMemory faults t (inr w) cause = in_part t w

-- what is written on a connection that tells its bytes is told after a session too
still_told : (texts : List (List ℕ)) (end : SessionEnd) → WritesUntil (Some []) None texts end → ⊥
still_told texts ends.WriteFault h = h.written
still_told texts ends.WantOfMemory (inl h) = h
still_told texts ends.WantOfMemory (inr h) = h.written
still_told texts end h = h

-- A whole session serves a connection that tells its bytes.
pub served_with : (keys : Keys) (seat : ℕ) (input : List ℕ) (left written : Option (List ℕ)) (seen now : List Entry) (faults risen count : ℕ) (end : SessionEnd)
    → ServesFrom keys seat 0 (moment (Some input) (Some []) seen faults) (moment left written now risen) end
    → HasLinkCause 0 count (Some end) → IsServed (Some input) written count end
served_with keys seat input left None seen now faults risen count end h cause = absurd (still_told _ end h.writes)
served_with keys seat input left (Some sent) seen now faults risen count end h cause =
    (sent, refl, served_by input sent h.exchanges h.refused (own_answers keys h.exchanges h.answered) end count h.takes h.writes cause)
