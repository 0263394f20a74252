-- How the steps of a session make a whole.
use Rattle.std.proofs.Common.{◌≡◌, ◌≢◌, ℕ, ◌+◌, ◌-◌, ◌^◌, ◌<◌, ◌≤◌, ◌==◌, inl, inr, Bool, true, false, cond, List, [], ◌∷◌, ◌++◌, take, Option, Some, None, Ok, refl, ap, sym, ◌∙◌, subst, arith, append_assoc, append-nil}
use Rattle.std.specs.Io.KnownBytes.{Appends}
use Rattle.std.specs.List.{All, filter}
use Rattle.std.specs.Option.{IfSome}
use Rattle.std.proofs.lemmas.Bool.Decides.{nat_tests}
use Rattle.std.proofs.lemmas.List.Elements.{filter-append, All-cons, All-head, All-tail}
use Rattle.vr_base.specs.Desks.{Sees, own_entries}
use Rattle.vr_base.specs.Calls.{is_made}
use Rattle.vr_base.specs.declared.calls.Call.{Call}
use Rattle.vr_base.specs.declared.calls.Entry.{Entry}
use Rattle.vr_base.specs.declared.calls.Reply.{Reply}
use Rattle.vr_base.proofs.Written.{Appends-then}
use Rattle.vr_http.specs.Requests.{First, StreamEnd, Cuts, last_by}
use Rattle.vr_http.specs.Responses.{response_bytes}
use Rattle.vr_http.specs.declared.faults.HttpFault.{HttpFault}
use Rattle.vr_http.specs.declared.requests.Request.{Request}
use Rattle.vr_face.specs.Answers.{response_to}
use Rattle.vr_face.specs.Asks.{ask_of}
use Rattle.vr_face.specs.Sessions.{Exchange, MayGet, Moment, GainsEntries, SeesButLast, SeesUntil, SeesWithoutMemory, ServesOne, ServesFrom, TakesUntil, WritesUntil, WritesAll, WritesPart, Begins, IsPart, entries_by, entries_of, failure_count, unavailable_count, requests_of, texts_of, concatenated}
use Rattle.vr_face.specs.declared.keys.Keys.{Keys}
use Rattle.vr_face.specs.declared.sessions.SessionEnd.{SessionEnd}
use Rattle.vr_face.specs.declared.sessions.SessionEnd.TheVariants as ends

-- ---- what the desk has seen

none_own : (seat : ℕ) (others : List Entry) → All (λ (entry : Entry). entry.seat ≢ seat) others
    → filter (λ (entry : Entry). entry.seat == seat) others ≡ []
none_own seat [] h = refl
none_own seat (entry ∷ others) h =
    let apart : entry.seat ≢ seat = All-head (λ (e : Entry). e.seat ≢ seat) entry others h in
    let e : (entry.seat == seat) ≡ false = grind (arith, nat_tests) in
    rw e (none_own seat others (All-tail (λ (e : Entry). e.seat ≢ seat) entry others h))

all_own : (seat who : ℕ) (call : Call) (reply : Reply)
    → filter (λ (entry : Entry). entry.seat == seat) (own_entries seat who call reply) ≡ own_entries seat who call reply
all_own seat who call reply = by (is_made reply)
  where
    same : (seat == seat) ≡ true
    same = grind (arith, nat_tests)

    entry : Entry
    entry = record { seat = seat; who = who; call = call; reply = reply }

    by : (made : Bool) → filter (λ (e : Entry). e.seat == seat) (cond made (record { seat = seat; who = who; call = call; reply = reply } ∷ []) [])
        ≡ cond made (record { seat = seat; who = who; call = call; reply = reply } ∷ []) []
    by true = rw same refl
    by false = refl

-- what a call adds to the history, of the seat's own
pub sees_call : (seat who : ℕ) (call : Call) (reply : Reply) (old new : List Entry) → Sees seat who call reply old new
    → GainsEntries seat (own_entries seat who call reply) old new
sees_call seat who call reply old new s = record {
  more = s.others ++ own_entries seat who call reply;
  history = s.history;
  own = filter-append (λ (entry : Entry). entry.seat == seat) s.others (own_entries seat who call reply)
      ∙ rw (none_own seat s.others s.apart) (all_own seat who call reply);
}

pub sees_nothing : (seat : ℕ) (seen : List Entry) → GainsEntries seat [] seen seen
sees_nothing seat seen = record { more = []; history = sym (append-nil seen); own = refl }

pub sees_then : (seat : ℕ) (xs ys old mid new : List Entry) → GainsEntries seat xs old mid → GainsEntries seat ys mid new
    → GainsEntries seat (xs ++ ys) old new
sees_then seat xs ys old mid new h k = record {
  more = h.more ++ k.more;
  history = k.history ∙ ap (λ (entries : List Entry). entries ++ k.more) h.history ∙ append_assoc old h.more k.more;
  own = filter-append (λ (entry : Entry). entry.seat == seat) h.more k.more ∙ rw (h.own, k.own) refl;
}

-- ---- one request more, before the others

module _ (taken : ℕ) (bytes rest : List ℕ) (request : Request) (requests : List Request)
    (first : First bytes (Ok (Some (record { request = request; rest = rest }))))
    (goes_on : last_by (taken + 1) request ≡ None) where
  cuts_more : (end : StreamEnd) → Cuts (taken + 1) rest requests end → Cuts taken bytes (request ∷ requests) end
  cuts_more end h = (rest, first, rw goes_on h)

  begins_more : Begins (taken + 1) rest requests → Begins taken bytes (request ∷ requests)
  begins_more h = (rest, first, rw goes_on h)

  part_more : (refused : Option HttpFault) → IsPart (taken + 1) rest requests refused → IsPart taken bytes (request ∷ requests) refused
  part_more None h = begins_more h
  part_more (Some fault) h = cuts_more _ h

  takes_more : (refused : Option HttpFault) (end : SessionEnd) → TakesUntil (taken + 1) rest requests refused end
      → TakesUntil taken bytes (request ∷ requests) refused end
  takes_more refused ends.Closed (inl h) = inl (cuts_more _ h.0, h.1)
  takes_more refused ends.Closed (inr h) = inr (cuts_more _ h.0, h.1)
  takes_more refused ends.Enough h = (cuts_more _ h.0, h.1)
  takes_more refused (ends.BadMessage number) h = (h.0, cuts_more _ h.1, h.2, h.3)
  takes_more refused ends.CutShort h = (cuts_more _ h.0, h.1)
  takes_more refused ends.ReadFault h = (begins_more h.0, h.1)
  takes_more refused ends.WriteFault h = part_more refused h
  takes_more refused ends.WantOfMemory h = part_more refused h

module _ (old mid new : Option (List ℕ)) (text : List ℕ) (texts : List (List ℕ)) (wrote : Appends old mid text) where
  all_more : WritesAll mid new texts → WritesAll old new (text ∷ texts)
  all_more h = Appends-then old mid new text (concatenated texts) wrote h

  partly_more : WritesPart mid new texts → WritesPart old new (text ∷ texts)
  partly_more h = record {
    first = text ∷ h.first;
    last = h.last;
    all = ap (λ ts. text ∷ ts) h.all;
    count = h.count;
    within = h.within;
    written = subst (λ bytes. Appends old new bytes) (sym (append_assoc text (concatenated h.first) (take h.count h.last)))
        (Appends-then old mid new text (concatenated h.first ++ take h.count h.last) wrote h.written);
  }

  writes_more : (end : SessionEnd) → WritesUntil mid new texts end → WritesUntil old new (text ∷ texts) end
  writes_more ends.Closed h = all_more h
  writes_more ends.Enough h = all_more h
  writes_more (ends.BadMessage number) h = all_more h
  writes_more ends.CutShort h = all_more h
  writes_more ends.ReadFault h = all_more h
  writes_more ends.WriteFault h = partly_more h
  writes_more ends.WantOfMemory (inl h) = inl (all_more h)
  writes_more ends.WantOfMemory (inr h) = inr (partly_more h)

module _ (keys : Keys) (seat : ℕ) (old mid new : List Entry) (exchange : Exchange) (exchanges : List Exchange)
    (saw : GainsEntries seat (entries_by seat (ask_of keys exchange.request) exchange.answer) old mid) where
  own_more : GainsEntries seat (entries_of keys seat exchanges) mid new → GainsEntries seat (entries_of keys seat (exchange ∷ exchanges)) old new
  own_more h = sees_then seat _ _ old mid new saw h

  last_more : SeesButLast keys seat exchanges mid new → SeesButLast keys seat (exchange ∷ exchanges) old new
  last_more h = record {
    first = exchange ∷ h.first;
    last = h.last;
    all = ap (λ es. exchange ∷ es) h.all;
    sees = sees_then seat _ _ old mid new saw h.sees;
  }

  without_memory_more : (refused : Option HttpFault) → SeesWithoutMemory keys seat exchanges mid new refused → SeesWithoutMemory keys seat (exchange ∷ exchanges) old new refused
  without_memory_more None (inl h) = inl (own_more h)
  without_memory_more None (inr h) = inr (last_more h)
  without_memory_more (Some refused) h = own_more h

  sees_more : (refused : Option HttpFault) (end : SessionEnd) → SeesUntil keys seat exchanges refused mid new end → SeesUntil keys seat (exchange ∷ exchanges) refused old new end
  sees_more refused ends.Closed h = own_more h
  sees_more refused ends.Enough h = own_more h
  sees_more refused (ends.BadMessage number) h = own_more h
  sees_more refused ends.CutShort h = own_more h
  sees_more refused ends.ReadFault h = own_more h
  sees_more refused ends.WriteFault h = own_more h
  sees_more refused ends.WantOfMemory h = without_memory_more refused h

rises_more : (first others before mid after : ℕ) → (mid < 2 ^ 64 - 1 → before + first ≤ mid) → (after < 2 ^ 64 - 1 → mid + others ≤ after)
    → mid ≤ after → after < 2 ^ 64 - 1 → before + (first + others) ≤ after
rises_more first others before mid after h k later few =
    let below : mid < 2 ^ 64 - 1 = omega arith in
    omega (arith, h below, k few)

stream_more : (taken : ℕ) (before after : Option (List ℕ)) (request : Request) (requests : List Request) (refused : Option HttpFault) (end : SessionEnd)
    → last_by (taken + 1) request ≡ None
    → IfSome before (λ bytes. (rest : List ℕ) × (after ≡ Some rest) × First bytes (Ok (Some (record { request = request; rest = rest }))))
    → IfSome after (λ bytes. TakesUntil (taken + 1) bytes requests refused end)
    → IfSome before (λ bytes. TakesUntil taken bytes (request ∷ requests) refused end)
stream_more taken None after request requests refused end goes_on h k = tt
stream_more taken (Some bytes) after request requests refused end goes_on h k =
    let told = subst (λ known. IfSome known (λ bytes. TakesUntil (taken + 1) bytes requests refused end)) h.1 k in
    takes_more taken bytes h.0 request requests h.2 goes_on refused end told

-- a request that was served, and what was served after it
pub serves_more : (keys : Keys) (seat taken : ℕ) (before mid after : Moment) (end : SessionEnd)
    → ServesOne keys seat (taken + 1) before mid → ServesFrom keys seat (taken + 1) mid after end
    → ServesFrom keys seat taken before after end
serves_more keys seat taken before mid after end one others = record {
  exchanges = one.exchange ∷ others.exchanges;
  refused = others.refused;
  answered = All-cons (λ (e : Exchange). MayGet (ask_of keys e.request) e.answer) one.exchange others.exchanges one.answered others.answered;
  takes = stream_more taken before.stream mid.stream one.exchange.request (requests_of others.exchanges) others.refused end
      one.goes_on one.takes others.takes;
  writes = writes_more before.written mid.written after.written (response_bytes (response_to (taken + 1) one.exchange.request one.exchange.answer))
      (texts_of (taken + 1) others.exchanges others.refused) one.writes end others.writes;
  sees = sees_more keys seat before.seen mid.seen after.seen one.exchange others.exchanges one.sees others.refused end others.sees;
  failures = rises_more (failure_count one.exchange.answer) (unavailable_count others.exchanges) before.faults mid.faults after.faults one.failures others.failures others.later;
  later = omega (arith, one.later, others.later);
}
