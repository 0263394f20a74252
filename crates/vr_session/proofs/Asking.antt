-- What a call of a shared book comes to for its seat.
use Rattle.std.proofs.Common.{◌≡◌, ◌≢◌, inl, inr, ℕ, Bool, true, false, List, [], ◌∷◌, ◌++◌, ◌-◌, ◌^◌, ◌<◌, cond, arith, sym, refl, ap, ◌∙◌, length, subst, append_assoc}
use Rattle.std.proofs.lemmas.List.{append-nil}
use Rattle.std.proofs.lemmas.List.Elements.{All-weaker}
use Rattle.std.specs.List.{All, Contains}
use Rattle.vr_base.specs.Calls.{is_made}
use Rattle.vr_base.specs.Causes.{Rose}
use Rattle.vr_base.specs.Desks.{Sees, IsLicensed, own_entries}
use Rattle.vr_base.specs.declared.calls.Call.{Call}
use Rattle.vr_base.specs.declared.calls.Entry.{Entry}
use Rattle.vr_base.specs.declared.calls.Reply.{Reply}
use Rattle.vr_base.specs.declared.calls.Reply.TheVariants.{Unavailable}
use Rattle.vr_core.specs.Machine.{Origin}
use Rattle.vr_turn.specs.Accounts.{AddsAtMostOne, Works}
use Rattle.vr_turn.specs.Rule.{HasNone, SeesOwn}
use Rattle.vr_turn.specs.Seats.{numbers, turned}
use Rattle.vr_turn.specs.Turns.{TakesTurn}
use Rattle.vr_turn.specs.declared.views.Knowledge.{Knowledge}
use Rattle.vr_session.specs.SharedBooks.{account_of, Asks, TakesCall}
use Rattle.vr_session.specs.declared.shared_book.SharedBook.{SharedBook}

-- its own entry is at most one, with the seat's number
own_is_one : (made : Bool) (seat : ℕ) (e : Entry) (old new : List Entry) → e.seat ≡ seat → new ≡ old ++ cond made (e ∷ []) [] → AddsAtMostOne seat old new
own_is_one true seat e old new number same = inr (e, number, same)
own_is_one false seat e old new number same = inl (same ∙ append-nil old)

-- a call of a book does what the work in a turn may do
pub call_works : {K : Type 0} (faults : K → ℕ) (seat who : ℕ) (call : Call) (old new : SharedBook K) (reply : Reply) (entries : ℕ) → TakesCall faults seat who call old.book new.book reply entries
    → Works (λ (s : SharedBook K). account_of faults s.book) seat old new
call_works faults seat who call old new reply entries t = record {
  origin = t.origin;
  history = own_is_one (is_made reply) seat record { seat = seat; who = who; call = call; reply = reply } old.book.journal new.book.journal refl t.journal;
  faults = t.later;
}

pub works_by : {K : Type 0} (faults : K → ℕ) (n seat who : ℕ) (call : Call) (old old' new new' : SharedBook K) (reply : Reply) (entries : ℕ) → n ≡ seat → old ≡ old' → new ≡ new'
    → TakesCall faults n who call old.book new.book reply entries → Works (λ (s : SharedBook K). account_of faults s.book) seat old' new'
works_by {K} faults n seat who call old old' new new' reply entries same same_old same_new t =
    subst (λ (p : ℕ × SharedBook K × SharedBook K). Works (λ (s : SharedBook K). account_of faults s.book) p.0 p.1 p.2) (λ i. (same i, same_old i, same_new i))
    (call_works faults n who call old new reply entries t)

-- entries with none of a seat's numbers don't have its own
pub apart_own : (knows : Knowledge) (entries : List Entry) → All (λ e. ¬ (Contains (numbers knows) e.seat)) entries → HasNone knows.number entries
apart_own knows entries apart =
    All-weaker (λ e. ¬ (Contains (numbers knows) e.seat)) (λ e. e.seat ≢ knows.number) (λ e other is. other (subst (Contains (numbers knows)) (sym is) (0, omega arith, refl))) entries apart

-- a call as the history that the seat has seen shows it
pub sees_call : (knows : Knowledge) (who : ℕ) (call : Call) (reply : Reply) (found left : List Entry) → SeesOwn knows found → left ≡ found ++ own_entries knows.number who call reply
    → Sees knows.number who call reply knows.seen left
sees_call knows who call reply found left sees same = record {
  others = sees.others;
  apart = apart_own knows sees.others sees.apart;
  history = same ∙ (ap (λ (l : List Entry). l ++ own_entries knows.number who call reply) sees.history ∙ append_assoc knows.seen sees.others (own_entries knows.number who call reply));
}

-- what a turn that was taken comes to for its seat
pub asks_by : {K : Type 0} (faults : K → ℕ) (first : SharedBook K) (n who : ℕ) (call : Call) (old new : SharedBook K) (reply : Reply) (entries : ℕ) (does : SharedBook K → SharedBook K → Type 0)
    (before after : Knowledge) (t : TakesTurn (λ (s : SharedBook K). account_of faults s.book) first does before after) → n ≡ before.number → old ≡ t.found → new ≡ t.left
    → TakesCall faults n who call old.book new.book reply entries → Asks faults first.book.origin before who call reply after
asks_by {K} faults first n who call old new reply entries does before after t number same_old same_new takes =
    let seen : after.seen ≡ t.left.book.journal = ap (λ (k : Knowledge). k.seen) t.knows in
    let taken : TakesCall faults before.number who call t.found.book t.left.book reply entries =
    subst (λ (p : ℕ × SharedBook K × SharedBook K). TakesCall faults p.0 who call p.1.book p.2.book reply entries) (λ i. (number i, same_old i, same_new i)) takes in
    record {
      found = t.found.book;
      left = t.left.book;
      one = t.finds.origin;
      own = t.finds.history;
      takes = subst (λ (n : ℕ). TakesCall faults before.number who call t.found.book t.left.book reply n) (taken.counted ∙ ap (λ (l : List Entry). length l) (sym seen)) taken;
      seen = seen;
      found_count = ap (λ (k : Knowledge). k.found) t.knows;
      left_count = ap (λ (k : Knowledge). k.faults) t.knows;
      same = subst (λ (k : Knowledge). k ≡ turned before k.seen k.faults k.found) (sym t.knows) refl;
    }

-- and to the history that it has seen
pub sees_asked : {K : Type 0} (faults : K → ℕ) (origin : Origin) (before : Knowledge) (who : ℕ) (call : Call) (reply : Reply) (after : Knowledge)
    → Asks faults origin before who call reply after → Sees before.number who call reply before.seen after.seen
sees_asked faults origin before who call reply after asks = sees_call before who call reply asks.found.journal after.seen asks.own (asks.seen ∙ asks.takes.journal)

rose_above : (before after : ℕ) → Rose before after → after < 2 ^ 64 - 1 → before < after
rose_above before after rose short = omega (arith, rose, short)

-- and the count of faults that it found licenses that it was unavailable
pub licensed_by : {K : Type 0} (faults : K → ℕ) (first : SharedBook K) (n who : ℕ) (call : Call) (old new : SharedBook K) (reply : Reply) (entries : ℕ) (does : SharedBook K → SharedBook K → Type 0)
    (before after : Knowledge) (t : TakesTurn (λ (s : SharedBook K). account_of faults s.book) first does before after) → old ≡ t.found → new ≡ t.left
    → TakesCall faults n who call old.book new.book reply entries → reply ≡ Unavailable → IsLicensed before.faults after.found after.faults
licensed_by {K} faults first n who call old new reply entries does before after t same_old same_new takes is short =
    let rose : Rose (faults t.found.book.keeper) (faults t.left.book.keeper) =
    subst (λ (p : SharedBook K × SharedBook K). Rose (faults p.0.book.keeper) (faults p.1.book.keeper)) (λ i. (same_old i, same_new i)) (takes.unkept is) in
    let found : after.found ≡ faults t.found.book.keeper = ap (λ (k : Knowledge). k.found) t.knows in
    let left : after.faults ≡ faults t.left.book.keeper = ap (λ (k : Knowledge). k.faults) t.knows in
    let low = t.finds.faults in
    let high = rose_above (faults t.found.book.keeper) (faults t.left.book.keeper) rose (omega (arith, left, short)) in
    (omega (arith, low, found), omega (arith, high, found, left))

-- what holds of the journal that a turn left holds of what its seat has seen
pub left_by : {K : Type 0} (faults : K → ℕ) (P : Origin → List Entry → Type 0) (first new : SharedBook K) (does : SharedBook K → SharedBook K → Type 0)
    (before after : Knowledge) (t : TakesTurn (λ (s : SharedBook K). account_of faults s.book) first does before after) → new ≡ t.left
    → P new.book.origin new.book.journal → P first.book.origin after.seen
left_by {K} faults P first new does before after t same_new holds =
    let left : P t.left.book.origin t.left.book.journal = subst (λ (s : SharedBook K). P s.book.origin s.book.journal) same_new holds in
    let origin : t.left.book.origin ≡ first.book.origin = t.works.origin ∙ t.finds.origin in
    let seen : t.left.book.journal ≡ after.seen = sym (ap (λ (k : Knowledge). k.seen) t.knows) in
    subst (λ (p : Origin × List Entry). P p.0 p.1) (λ i. (origin i, seen i)) left
