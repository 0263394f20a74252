-- Seats that are split, that make calls and that are joined.
use Rattle.std.proofs.Common.{◌≡◌, ◌≢◌, ◌<◌, ◌≤◌, ◌⊎◌, inl, inr, ⊎_elim, ℕ, zero, suc, ◌+◌, Bool, true, false, cond, List, [], ◌∷◌, ◌++◌, length, nat_lt, max, arith, refl, sym, ap, ◌∙◌, subst}
use Rattle.std.proofs.lemmas.Bool.Decides.{nat_tests}
use Rattle.std.proofs.lemmas.List.Elements.{All-nil, All-weaker}
use Rattle.std.specs.List.{All, Contains}
use Rattle.std.specs.Prelude.{IsTrue}
use Rattle.vr_base.specs.Calls.{is_made}
use Rattle.vr_base.specs.declared.calls.Entry.{Entry}
use Rattle.vr_core.specs.History.{IsLegal}
use Rattle.vr_core.specs.Isolation.{IsIsolatedHistory}
use Rattle.vr_core.specs.Machine.{Origin}
use Rattle.vr_turn.specs.Rule.{HasNone, SeesOwn}
use Rattle.vr_turn.specs.Seats.{Has, MayGive, first_knowledge, gave, given, longer, numbers, turned}
use Rattle.vr_turn.specs.Turns.{HasAll, IsJoined, SeatState, TurnState}
use Rattle.vr_turn.specs.declared.views.Knowledge.{Knowledge}
use Rattle.vr_turn.proofs.Numbers.{other_has, this_has}
use Rattle.vr_session.proofs.Asking.{apart_own}
use Rattle.vr_session.specs.Workers.{IsSeatOf, Regains, Stays}
use Rattle.vr_session.specs.declared.shared_book.SharedBook.{SharedBook}

-- ---- what they have seen

-- no calls are legal
pub legal_none : (origin : Origin) → IsLegal origin []
legal_none origin = (origin.opening, record { replayed = refl; made = All-nil (λ e. IsTrue (is_made e.reply)) })

legal_either : (origin : Origin) (b : Bool) (this other : List Entry) → ∥ IsLegal origin this ∥₁ → ∥ IsLegal origin other ∥₁ → ∥ IsLegal origin (cond b other this) ∥₁
legal_either origin true this other h k = k
legal_either origin false this other h k = h

pub legal_longer : (origin : Origin) (this other : List Entry) → ∥ IsLegal origin this ∥₁ → ∥ IsLegal origin other ∥₁ → ∥ IsLegal origin (longer this other) ∥₁
legal_longer origin this other h k = legal_either origin (nat_lt (length this) (length other)) this other h k

-- and isolated
pub isolated_none : (origin : Origin) → IsIsolatedHistory origin []
isolated_none origin caller ids regions closed opening replay agree h = refl

isolated_either : (origin : Origin) (b : Bool) (this other : List Entry) → IsIsolatedHistory origin this → IsIsolatedHistory origin other → IsIsolatedHistory origin (cond b other this)
isolated_either origin true this other h k = k
isolated_either origin false this other h k = h

isolated_longer : (origin : Origin) (this other : List Entry) → IsIsolatedHistory origin this → IsIsolatedHistory origin other → IsIsolatedHistory origin (longer this other)
isolated_longer origin this other h k = isolated_either origin (nat_lt (length this) (length other)) this other h k

-- the longer of no calls and some
pub longer_none : (other : List Entry) → longer [] other ≡ other
longer_none other = by_test (nat_lt 0 (length other)) refl
  where
    is_none : (es : List Entry) → length es ≡ 0 → [] ≡ es
    is_none [] e = refl
    is_none (d ∷ es) e = absurd (omega (arith, e))

    by_test : (b : Bool) → nat_lt 0 (length other) ≡ b → cond b other [] ≡ other
    by_test true e = refl
    by_test false e = is_none other (grind (arith, nat_tests, e))

module _ {K : Type 0} (turn : TurnState (SharedBook K)) where
  -- the first seat
  pub first_seat : (seat : SeatState) (most faults : ℕ) → seat.turn ≡ turn.id → seat.knows ≡ first_knowledge most faults → IsSeatOf turn seat
  first_seat seat most faults same knows = record {
    here = same;
    legal = ∣ rw knows (legal_none turn.first.book.origin) ∣₁;
    isolated = rw knows (isolated_none turn.first.book.origin);
  }

  -- a seat of the same turn that has seen as much
  pub seat_like : (old new : SeatState) → IsSeatOf turn old → new.turn ≡ old.turn → new.knows.seen ≡ old.knows.seen → IsSeatOf turn new
  seat_like old new is same seen = record {
    here = same ∙ is.here;
    legal = rw seen is.legal;
    isolated = rw seen is.isolated;
  }

  -- a seat that was split off, and the one that it was split off from
  pub seat_given : (old new : SeatState) → IsSeatOf turn old → new.turn ≡ old.turn → new.knows ≡ given old.knows → IsSeatOf turn new
  seat_given old new is same knows = seat_like old new is same (ap (λ (k : Knowledge). k.seen) knows)

  pub seat_gave : (old new : SeatState) → IsSeatOf turn old → new.turn ≡ old.turn → new.knows ≡ gave old.knows → IsSeatOf turn new
  seat_gave old new is same knows = seat_like old new is same (ap (λ (k : Knowledge). k.seen) knows)

  -- a seat that took in another
  pub seat_joined : (this other new : SeatState) → IsSeatOf turn this → IsSeatOf turn other → new.turn ≡ this.turn → IsJoined this.knows other.knows new.knows
      → IsSeatOf turn new
  seat_joined this other new is is_other same joins = record {
    here = same ∙ is.here;
    legal = rw (ap (λ (k : Knowledge). k.seen) joins.knows) (legal_longer turn.first.book.origin this.knows.seen other.knows.seen is.legal is_other.legal);
    isolated = rw (ap (λ (k : Knowledge). k.seen) joins.knows) (isolated_longer turn.first.book.origin this.knows.seen other.knows.seen is.isolated is_other.isolated);
  }

-- the same turn
pub seat_at : {K : Type 0} (turn other : TurnState (SharedBook K)) (seat : SeatState) → other ≡ turn → IsSeatOf other seat → IsSeatOf turn seat
seat_at {K} turn other seat e is = subst (λ (t : TurnState (SharedBook K)). IsSeatOf t seat) e is

-- ---- their numbers

-- a seat that asked
pub stays_asked : (opening old new : Knowledge) → Stays opening old → new ≡ turned old new.seen new.faults new.found → old.faults ≤ new.faults → Stays opening new
stays_asked opening old new stays same later = record {
  number = ap (λ (k : Knowledge). k.number) same ∙ stays.number;
  taken = ap (λ (k : Knowledge). k.taken) same ∙ stays.taken;
  next = ap (λ (k : Knowledge). k.next) same ∙ stays.next;
  end = ap (λ (k : Knowledge). k.end) same ∙ stays.end;
  faults = omega (arith, stays.faults, later);
}

-- at the beginning
pub stays_none : (knows : Knowledge) → Stays knows knows
stays_none knows = record { number = refl; taken = refl; next = refl; end = refl; faults = omega arith }

has_same : (old new : Knowledge) (x : ℕ) → Stays old new → Has old x → Has new x
has_same old new x stays has =
    ⊎_elim (λ (own : Contains (numbers old) x). inl (subst (λ (p : ℕ × List ℕ). Contains (p.0 ∷ p.1) x) (λ i. (sym stays.number i, sym stays.taken i)) own))
    (λ (may : MayGive old x). inr (omega (arith, stays.next, may.0), omega (arith, stays.end, may.1))) has

-- a seat that made calls has all numbers that it had
pub regains_stays : (old new : Knowledge) → Stays old new → Regains old new
regains_stays old new stays = record { has = λ x has. has_same old new x stays has; faults = stays.faults }

pub regains_none : (knows : Knowledge) → Regains knows knows
regains_none knows = regains_stays knows knows (stays_none knows)

pub regains_then : (old mid new : Knowledge) → Regains old mid → Regains mid new → Regains old new
regains_then old mid new first then = record { has = λ x has. then.has x (first.has x has); faults = omega (arith, first.faults, then.faults) }

own_number : (knows : Knowledge) → Contains (numbers knows) knows.number
own_number knows = (0, omega arith, refl)

-- the next number is the new seat's, and the others are still there
has_split : (old : Knowledge) (x : ℕ) → Has old x → Has (gave old) x ⊎ (x ≡ old.next)
has_split old x has =
    ⊎_elim (λ (own : Contains (numbers old) x). inl (inl own))
    (λ (may : MayGive old x). by_test (nat_lt old.next x) refl may) has
  where
    by_test : (b : Bool) → nat_lt old.next x ≡ b → MayGive old x → Has (gave old) x ⊎ (x ≡ old.next)
    by_test true e may = inl (inr (grind (arith, nat_tests, e), may.1))
    by_test false e may = inr (let least = may.0 in grind (arith, nat_tests, e, least))

-- a seat split another off, regained what it had left, and took the other in after its calls
pub regains_split : (old left back own own_back new : Knowledge) → left ≡ gave old → own ≡ given old → Regains left back → Stays own own_back → IsJoined back own_back new
    → Regains old new
regains_split old left back own own_back new is_left is_own regains stays joins = record {
  has = λ x has. subst (λ (k : Knowledge). Has k x) (sym joins.knows) (⊎_elim
      (λ (still : Has (gave old) x). this_has back own_back x (regains.has x (subst (λ (k : Knowledge). Has k x) (sym is_left) still)))
      (λ (is : x ≡ old.next). other_has back own_back x (subst (Has own_back) (stays.number ∙ ap (λ (k : Knowledge). k.number) is_own ∙ sym is) (inl (own_number own_back))))
      (has_split old x has));
  faults =
      let grown : new.faults ≡ max back.faults own_back.faults = ap (λ (k : Knowledge). k.faults) joins.knows in
      let before : left.faults ≡ old.faults = ap (λ (k : Knowledge). k.faults) is_left in
      omega (arith, grown, before, regains.faults);
}

-- the first seat has every number
pub first_has_all : (most faults : ℕ) → HasAll most (first_knowledge most faults)
first_has_all most faults number below = by_zero number below
  where
    by_zero : (number : ℕ) → number < most → Has (first_knowledge most faults) number
    by_zero zero below = inl (own_number (first_knowledge most faults))
    by_zero (suc n) below = inr (omega arith, below)

pub has_all : (most faults : ℕ) (old new : Knowledge) → old ≡ first_knowledge most faults → Regains old new → HasAll most new
has_all most faults old new is regains number below = regains.has number (subst (λ (k : Knowledge). Has k number) (sym is) (first_has_all most faults number below))

-- ---- the entries that have them

-- a seat that gave a number, had seen nothing, and took another in made none of the entries
pub made_none : (old left new : Knowledge) → left ≡ gave old → old.seen ≡ [] → SeesOwn left new.seen → HasNone old.number new.seen
made_none old left new same none sees =
    let history = sees.history ∙ ap (λ (seen : List Entry). seen ++ sees.others) (ap (λ (k : Knowledge). k.seen) same ∙ none) in
    rw history (subst (λ (k : Knowledge). HasNone k.number sees.others) same (apart_own left sees.others sees.apart))

-- nobody made any
pub none_made : (number : ℕ) (knows : Knowledge) → knows.seen ≡ [] → HasNone number knows.seen
none_made number knows none = rw none (All-nil (λ (e : Entry). e.seat ≢ number))

-- of numbers that are below one more than so many, each is at most so many
pub numbered_within : (workers most : ℕ) (entries : List Entry) → most ≡ workers + 1 → All (λ e. e.seat < most) entries → All (λ e. e.seat ≤ workers) entries
numbered_within workers most entries same below = All-weaker (λ e. e.seat < most) (λ e. e.seat ≤ workers) (λ e is. omega (arith, same, is)) entries below

-- of two numbers one is left where the other has none
pub numbered_alone : (workers none : ℕ) (entries seen : List Entry) → workers ≡ 1 → none ≡ 0 → entries ≡ seen → All (λ e. e.seat ≤ workers) entries → HasNone none seen
    → All (λ e. e.seat ≡ 1) entries
numbered_alone workers none entries seen one zeroth same below apart = λ k d within. is_one _ (below k d within) (subst (HasNone none) (sym same) apart k d within)
  where
    is_one : (number : ℕ) → number ≤ workers → number ≢ none → number ≡ 1
    is_one zero low other = absurd (other (sym zeroth))
    is_one (suc zero) low other = refl
    is_one (suc (suc n)) low other = absurd (omega (arith, low, one))
