-- What comes next on a connection, a request that was answered or the connection's end, as a part
-- of the session.
use Rattle.std.proofs.Common.{◌≡◌, ℕ, ◌+◌, ◌==◌, ◌⊎◌, inl, inr, Bool, true, false, cond, List, [], ◌∷◌, Option, Some, None, Ok, Err, refl, ap, sym, ◌∙◌, subst, arith, append-nil}
use Rattle.std.specs.Io.KnownBytes.{Appends}
use Rattle.std.specs.Option.{IfSome, MatchOption}
use Rattle.std.proofs.lemmas.List.Elements.{All-cons, All-nil}
use Rattle.vr_base.specs.Outside.{AppendsPrefix, Beside, beside_of}
use Rattle.vr_base.specs.declared.calls.Entry.{Entry}
use Rattle.vr_http.specs.Requests.{First, StreamEnd, Ends, TakesFirst, last_by, most_requests, closing, enough, fault}
use Rattle.vr_http.specs.Responses.{response_bytes, refusal, refusal_response}
use Rattle.vr_http.specs.declared.faults.HttpFault.{HttpFault}
use Rattle.vr_http.specs.declared.faults.HttpFault.TheVariants.{BadHead, HeadTooLarge, NoLength, BodyTooLarge, Coding, Expect, CutShort, ReadFault, OutOfMemory}
use Rattle.vr_http.specs.declared.requests.Request.{Request}
use Rattle.vr_face.specs.Answers.{response_to}
use Rattle.vr_face.specs.Asks.{ask_of}
use Rattle.vr_face.specs.SessionSteps.{Exchanges, RefusesBytes, SeesRequest, Writes}
use Rattle.vr_face.specs.Sessions.{Exchange, MayGet, Begins, GainsEntries, SeesUntil, ServesFrom, ServesNext, TakesUntil, WritesUntil, WritesAll, WritesPart, entries_by, entries_of, moment, refused_text}
use Rattle.vr_face.specs.declared.answers.Answer.{Answer}
use Rattle.vr_face.specs.declared.keys.Keys.{Keys}
use Rattle.vr_face.specs.declared.sessions.SessionEnd.{SessionEnd}
use Rattle.vr_face.specs.declared.sessions.SessionEnd.TheVariants as ends
use Rattle.vr_face.proofs.SessionLemmas.{sees_nothing}
use Rattle.vr_face.proofs.StepLemmas.{appends_nothing}

-- what the two halves of a link tell is the same where one of them does
pub same_bytes : (x y : Beside) (a b c d : Option (List ℕ)) → x ≡ beside_of a b → y ≡ beside_of c d → y ≡ x → c ≡ a
same_bytes x y a b c d p q e = ap (λ (beside : Beside). beside.bytes) (sym q ∙ e ∙ p)

-- ---- how the connection goes on after a request

goes_on : (close last : Bool) → None ≡ cond close (Some ends.Closed) (cond last (Some ends.Enough) None)
    → cond close (Some closing) (cond last (Some enough) None) ≡ None
goes_on true last e = absurd (cc)
goes_on false true e = absurd (cc)
goes_on false false e = refl

abbrev EndsBy : SessionEnd → Option StreamEnd → Type 0
EndsBy end last = ((end ≡ ends.Closed) × (last ≡ Some closing)) ⊎ ((end ≡ ends.Enough) × (last ≡ Some enough))

ends_by : (close last : Bool) (end : SessionEnd) → Some end ≡ cond close (Some ends.Closed) (cond last (Some ends.Enough) None)
    → EndsBy end (cond close (Some closing) (cond last (Some enough) None))
ends_by true last end e = inl ((cc), refl)
ends_by false true end e = inr ((cc), refl)
ends_by false false end e = absurd (cc)

-- ---- one request that was the last

module _ (taken : ℕ) (bytes rest : List ℕ) (request : Request)
    (first : First bytes (Ok (Some (record { request = request; rest = rest })))) where
  whole_end : (end : SessionEnd) → EndsBy end (last_by (taken + 1) request) → TakesUntil taken bytes (request ∷ []) None end
  whole_end end (inl h) = subst (λ (e : SessionEnd). TakesUntil taken bytes (request ∷ []) None e) (sym h.0)
      (inr ((rest, first, rw h.1 (refl, refl)), refl))
  whole_end end (inr h) = subst (λ (e : SessionEnd). TakesUntil taken bytes (request ∷ []) None e) (sym h.0)
      ((rest, first, rw h.1 (refl, refl)), refl)

  any_end : (last : Option StreamEnd) → MatchOption last (Begins (taken + 1) rest []) (λ _. let none : List Request = [] in none ≡ [])
  any_end None = tt
  any_end (Some end) = refl

  begins_one : Begins taken bytes (request ∷ [])
  begins_one = (rest, first, any_end (last_by (taken + 1) request))

  takes_one : (old new : Option (List ℕ)) (answer : Answer) (end : SessionEnd) → Writes (taken + 1) request old new answer (Some end)
      → TakesUntil taken bytes (request ∷ []) None end
  takes_one old new answer ends.WriteFault h = begins_one
  takes_one old new answer ends.WantOfMemory h = begins_one
  takes_one old new answer end h = whole_end end (ends_by request.close (taken + 1 == most_requests) end h.1)

takes_last : (taken : ℕ) (known after old new : Option (List ℕ)) (request : Request) (answer : Answer) (end : SessionEnd)
    → TakesFirst known after (Ok (Some request)) → Writes (taken + 1) request old new answer (Some end)
    → IfSome known (λ bytes. TakesUntil taken bytes (request ∷ []) None end)
takes_last taken None after old new request answer end t h = tt
takes_last taken (Some bytes) after old new request answer end t h = takes_one taken bytes t.0 request t.2 old new answer end h

module _ (old new : Option (List ℕ)) (text : List ℕ) where
  all_of_one : Appends old new text → WritesAll old new (text ∷ [])
  all_of_one h = subst (λ (bytes : List ℕ). Appends old new bytes) (sym (append-nil text)) h

  part_of_one : AppendsPrefix old new text → WritesPart old new (text ∷ [])
  part_of_one h = record { first = []; last = text; all = refl; count = h.0; within = h.1; written = h.2 }

writes_last : (taken : ℕ) (request : Request) (old new : Option (List ℕ)) (answer : Answer) (end : SessionEnd) → Writes (taken + 1) request old new answer (Some end)
    → WritesUntil old new (response_bytes (response_to (taken + 1) request answer) ∷ []) end
writes_last taken request old new answer ends.WriteFault h = part_of_one old new _ h
writes_last taken request old new answer ends.WantOfMemory h = inr (part_of_one old new _ h)
writes_last taken request old new answer end h = all_of_one old new _ h.0

module _ (keys : Keys) (seat : ℕ) (request : Request) (answer : Answer) (old new : List Entry) where
  entries_of_one : GainsEntries seat (entries_by seat (ask_of keys request) answer) old new
      → GainsEntries seat (entries_of keys seat (record { request = request; answer = answer } ∷ [])) old new
  entries_of_one h = subst (λ (entries : List Entry). GainsEntries seat entries old new) (sym (append-nil _)) h

  sees_last : (end : SessionEnd) → SeesRequest seat (ask_of keys request) old new answer (Some end)
      → SeesUntil keys seat (record { request = request; answer = answer } ∷ []) None old new end
  sees_last ends.WantOfMemory (inl h) = inl (entries_of_one h)
  sees_last ends.WantOfMemory (inr h) = inr (record { first = []; last = record { request = request; answer = answer }; all = refl; sees = h })
  sees_last end h = entries_of_one h

module _ (keys : Keys) (seat taken : ℕ) (known after left beyond old new : Option (List ℕ)) (seen now : List Entry) (faults risen : ℕ) (request : Request)
    (takes : TakesFirst known after (Ok (Some request))) where
  -- the request was the last one
  last_next : (end : SessionEnd) → Exchanges keys seat (taken + 1) request (moment left old seen faults) (moment beyond new now risen) (Some end)
      → ServesFrom keys seat taken (moment known old seen faults) (moment after new now risen) end
  last_next end h = record {
    exchanges = record { request = request; answer = h.answer } ∷ [];
    refused = None;
    answered = All-cons (λ (e : Exchange). MayGet (ask_of keys e.request) e.answer) (record { request = request; answer = h.answer }) []
        h.may (All-nil (λ (e : Exchange). MayGet (ask_of keys e.request) e.answer));
    takes = takes_last taken known after old new request h.answer end takes h.writes;
    writes = writes_last taken request old new h.answer end h.writes;
    sees = sees_last keys seat request h.answer seen now end h.sees;
    failures = λ few. omega (arith, h.failures few);
    later = h.later;
  }

  -- a request was taken and served
  pub request_next : (result : Option SessionEnd) → Exchanges keys seat (taken + 1) request (moment left old seen faults) (moment beyond new now risen) result
      → ServesNext keys seat taken (moment known old seen faults) (moment after new now risen) result
  request_next None h = record {
    exchange = record { request = request; answer = h.answer };
    answered = h.may;
    takes = takes;
    goes_on = goes_on request.close (taken + 1 == most_requests) h.writes.1;
    writes = h.writes.0;
    sees = h.sees;
    failures = h.failures;
    later = h.later;
  }
  request_next (Some end) h = last_next end h

-- ---- no request was taken

sees_none : (keys : Keys) (seat : ℕ) (refused : Option HttpFault) (seen : List Entry) (end : SessionEnd) → SeesUntil keys seat [] refused seen seen end
sees_none keys seat None seen ends.WantOfMemory = inl (sees_nothing seat seen)
sees_none keys seat (Some refused) seen ends.WantOfMemory = sees_nothing seat seen
sees_none keys seat refused seen end = sees_nothing seat seen

module _ (keys : Keys) (seat taken : ℕ) (known after : Option (List ℕ)) (seen : List Entry) (faults : ℕ) where
  none_next : (old new : Option (List ℕ)) (refused : Option HttpFault) (end : SessionEnd) → IfSome known (λ bytes. TakesUntil taken bytes [] refused end)
      → WritesUntil old new (refused_text refused) end → ServesFrom keys seat taken (moment known old seen faults) (moment after new seen faults) end
  none_next old new refused end t w = record {
    exchanges = [];
    refused = refused;
    answered = All-nil (λ (e : Exchange). MayGet (ask_of keys e.request) e.answer);
    takes = t;
    writes = w;
    sees = sees_none keys seat refused seen end;
    failures = λ few. omega arith;
    later = omega arith;
  }

  pub closed_next : (old : Option (List ℕ)) → TakesFirst known after (Ok None)
      → ServesFrom keys seat taken (moment known old seen faults) (moment after old seen faults) ends.Closed
  closed_next old t = none_next old old None ends.Closed (by known t) (appends_nothing old)
    where
      by : (stream : Option (List ℕ)) → TakesFirst stream after (Ok None) → IfSome stream (λ bytes. TakesUntil taken bytes [] None ends.Closed)
      by None t = tt
      by (Some bytes) t = inl (inl (t, refl), refl)

  pub cut_next : (old : Option (List ℕ)) → TakesFirst known after (Err CutShort)
      → ServesFrom keys seat taken (moment known old seen faults) (moment after old seen faults) ends.CutShort
  cut_next old t = none_next old old None ends.CutShort (by known t) (appends_nothing old)
    where
      by : (stream : Option (List ℕ)) → TakesFirst stream after (Err CutShort) → IfSome stream (λ bytes. TakesUntil taken bytes [] None ends.CutShort)
      by None t = tt
      by (Some bytes) t = (inr (CutShort, t refl, refl), refl)

  pub unread_next : (old : Option (List ℕ)) → ServesFrom keys seat taken (moment known old seen faults) (moment after old seen faults) ends.ReadFault
  unread_next old = none_next old old None ends.ReadFault (by known) (appends_nothing old)
    where
      by : (stream : Option (List ℕ)) → IfSome stream (λ bytes. TakesUntil taken bytes [] None ends.ReadFault)
      by None = tt
      by (Some bytes) = (tt, refl)

  pub unserved_next : (old : Option (List ℕ)) → ServesFrom keys seat taken (moment known old seen faults) (moment after old seen faults) ends.WantOfMemory
  unserved_next old = none_next old old None ends.WantOfMemory (by known) (inl (appends_nothing old))
    where
      by : (stream : Option (List ℕ)) → IfSome stream (λ bytes. TakesUntil taken bytes [] None ends.WantOfMemory)
      by None = tt
      by (Some bytes) = tt

  module _ (why : HttpFault) (refused : ℕ × ℕ) (answered : refusal why ≡ Some refused) where
    -- the stream has the fault after what was taken
    at_fault : (stream : Option (List ℕ)) → TakesFirst stream after (Err why) → IfSome stream (λ bytes. Ends bytes (fault why))
    at_fault None t = tt
    at_fault (Some bytes) t = by why answered t
      where
        by : (why : HttpFault) → refusal why ≡ Some refused → TakesFirst (Some bytes) after (Err why) → Ends bytes (fault why)
        by CutShort e t = absurd (cc)
        by ReadFault e t = absurd (cc)
        by OutOfMemory e t = absurd (cc)
        by BadHead e t = inr (BadHead, t refl, refl)
        by HeadTooLarge e t = inr (HeadTooLarge, t refl, refl)
        by NoLength e t = inr (NoLength, t refl, refl)
        by BodyTooLarge e t = inr (BodyTooLarge, t refl, refl)
        by Coding e t = inr (Coding, t refl, refl)
        by Expect e t = inr (Expect, t refl, refl)

    takes_refused : (stream : Option (List ℕ)) (old new : Option (List ℕ)) (end : SessionEnd) → IfSome stream (λ bytes. Ends bytes (fault why))
        → RefusesBytes old new (Some refused) end → IfSome stream (λ bytes. TakesUntil taken bytes [] (Some why) end)
    takes_refused None old new end t h = tt
    takes_refused (Some bytes) old new (ends.BadMessage number) t h = (why, t, refl, rw (answered, h.1) refl)
    takes_refused (Some bytes) old new ends.WriteFault t h = t
    takes_refused (Some bytes) old new ends.WantOfMemory t h = t
    takes_refused (Some bytes) old new end t h = absurd h

    writes_refused : (old new : Option (List ℕ)) (end : SessionEnd) → RefusesBytes old new (Some refused) end
        → WritesUntil old new (response_bytes (refusal_response refused) ∷ []) end
    writes_refused old new (ends.BadMessage number) h = all_of_one old new _ h.0
    writes_refused old new ends.WriteFault h = part_of_one old new _ h
    writes_refused old new ends.WantOfMemory h = inr (part_of_one old new _ h)
    writes_refused old new end h = absurd h

    text_is : refused_text (Some why) ≡ response_bytes (refusal_response refused) ∷ []
    text_is = rw answered refl

    refused_so : (old new : Option (List ℕ)) (end : SessionEnd) → TakesFirst known after (Err why) → RefusesBytes old new (Some refused) end
        → ServesFrom keys seat taken (moment known old seen faults) (moment after new seen faults) end
    refused_so old new end t h = none_next old new (Some why) end (takes_refused known old new end (at_fault known t) h)
        (subst (λ (texts : List (List ℕ)). WritesUntil old new texts end) (sym text_is) (writes_refused old new end h))

  -- bytes were refused, or memory ran out before
  pub refused_next : (why : HttpFault) (old new : Option (List ℕ)) (end : SessionEnd) → TakesFirst known after (Err why)
      → RefusesBytes old new (refusal why) end → ServesFrom keys seat taken (moment known old seen faults) (moment after new seen faults) end
  refused_next why old new end t h = by (refusal why) refl h
    where
      by : (answered : Option (ℕ × ℕ)) → refusal why ≡ answered → RefusesBytes old new answered end
          → ServesFrom keys seat taken (moment known old seen faults) (moment after new seen faults) end
      by (Some refused) e h = refused_so why refused e old new end t h
      by None e h = rw (h.0, h.1) (unserved_next old)
