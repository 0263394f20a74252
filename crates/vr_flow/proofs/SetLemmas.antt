-- Sets that grow, as tests.
use Rattle.std.proofs.Common.{◌≡◌, ℕ, ◌+◌, ◌<◌, ◌≤◌, Bool, true, false, ◌||◌, ◌&&◌, eqb, ltb, List, refl, sym, ◌∙◌, ap, ◌⊎◌, inl, inr, arith}
use Rattle.std.proofs.lemmas.Bool.{cases_lt, le-ltb, lt-ltb}
use Rattle.std.proofs.lemmas.Bool.Decides.{eqb_tells}
use Rattle.vr_flow.specs.Places.{nowhere, below, just, HasRoom, IsSet, Adds}

-- ---- a set that got some places

pub set_adds : (count : ℕ) (test more other : ℕ → Bool) (old new : List ℕ) → IsSet count test old → Adds more old new
    → ((place : ℕ) → (test place || more place) ≡ other place) → IsSet count other new
set_adds count test more other old new h a same = record {
  room = a.room ∙ h.room;
  same = λ place. a.added place ∙ ap (λ t. t || more place) (h.same place) ∙ same place;
}

pub set_same : (count : ℕ) (test other : ℕ → Bool) (words : List ℕ) → IsSet count test words → ((place : ℕ) → test place ≡ other place) → IsSet count other words
set_same count test other words h same = record { room = h.room; same = λ place. h.same place ∙ same place }

-- a place below the number has room
pub room_below : (count place : ℕ) (test : ℕ → Bool) (words : List ℕ) → IsSet count test words → place < count → HasRoom words place
room_below count place test words h l = omega (arith, h.room)

-- ---- one place after the other

-- no place yet
pub below_none : (test : ℕ → Bool) (place : ℕ) → nowhere place ≡ below 0 test place
below_none test place = sym (ap (λ t. t && test place) (le-ltb place 0 (omega arith)))

both : (t i : Bool) → (t || (i && false)) ≡ t
both true i = refl
both false true = refl
both false false = refl

last : (i t : Bool) → i ≡ t → (i && true) ≡ t
last true t e = e
last false t e = e

neither : (i : Bool) → (i && false) ≡ false
neither true = refl
neither false = refl

-- one place more
pub below_next : (n : ℕ) (test : ℕ → Bool) (is_in : Bool) → is_in ≡ test n → (place : ℕ) → (below n test place || just n is_in place) ≡ below (n + 1) test place
below_next n test is_in same place = by_cases (cases_lt place n) (eqb_tells place n)
  where
    by_cases : (place < n) ⊎ (n ≤ place) → ((eqb place n ≡ true) × (place ≡ n)) ⊎ ((eqb place n ≡ false) × (place ≡ n → ⊥))
        → ((ltb place n && test place) || (is_in && eqb place n)) ≡ (ltb place (n + 1) && test place)
    by_cases (inl l) (inl e) = absurd (omega (arith, e.1))
    by_cases (inl l) (inr e) =
        let first : ltb place n ≡ true = lt-ltb place n l in
        let then : ltb place (n + 1) ≡ true = lt-ltb place (n + 1) (omega arith) in
        rw (first, then, e.0) (both (test place) is_in)
    by_cases (inr g) (inl e) =
        let first : ltb place n ≡ false = le-ltb place n g in
        let then : ltb place (n + 1) ≡ true = lt-ltb place (n + 1) (omega (arith, e.1)) in
        rw (first, then, e.0) (last is_in (test place) (same ∙ ap test (sym e.1)))
    by_cases (inr g) (inr e) =
        let first : ltb place n ≡ false = le-ltb place n g in
        let then : ltb place (n + 1) ≡ false = le-ltb place (n + 1) (omega (arith, e.1)) in
        rw (first, then, e.0) (neither is_in)

-- all of them, where the test passes below the number alone
pub below_all : (count : ℕ) (test : ℕ → Bool) → ((place : ℕ) → count ≤ place → test place ≡ false) → (place : ℕ) → below count test place ≡ test place
below_all count test past place = by_cases (cases_lt place count)
  where
    by_cases : (place < count) ⊎ (count ≤ place) → (ltb place count && test place) ≡ test place
    by_cases (inl l) = ap (λ t. t && test place) (lt-ltb place count l)
    by_cases (inr g) = ap (λ t. t && test place) (le-ltb place count g) ∙ sym (past place g)
