-- Lists, and histories that go on from others.
use Rattle.std.proofs.Common.{◌≡◌, ◌≢◌, ℕ, zero, suc, ◌+◌, ◌<◌, ◌≤◌, ◌⊎◌, inl, inr, ⊎_elim, List, [], ◌∷◌, ◌++◌, length, length-append, append_assoc, sym, refl, ap, ◌∙◌, subst, arith}
use Rattle.std.proofs.lemmas.List.{append-nil}
use mathlib.Core.Logic.{dite}
use native.Mathlib.Decide.{ℕ_discrete}
use Rattle.std.proofs.lemmas.List.Elements.{All-nil, All-cons, All-head, All-tail, All-append, All-weaker, Contains-append_cases, Contains-append_right}
use Rattle.std.specs.List.{All, Contains, range_with_len}
use Rattle.vr_base.specs.declared.calls.Entry.{Entry}
use Rattle.vr_turn.specs.Accounts.{Continues, AddsAtMostOne, last_entry}
use Rattle.vr_turn.specs.Rule.{HasNone}

module _ {X : Type 0} where
  abbrev head_of : X → List X → X
  head_of d [] = d
  head_of d (x ∷ xs) = x

  abbrev tail_of : List X → List X
  tail_of [] = []
  tail_of (x ∷ xs) = xs

  -- of two beginnings of one list, the longer goes on from the shorter
  pub between : (a b m n : List X) → a ++ m ≡ b ++ n → length a ≤ length b → (k : List X) × (b ≡ a ++ k) × (m ≡ k ++ n)
  between [] b m n e le = (b, refl, e)
  between (x ∷ a) [] m n e le = absurd (omega arith)
  between (x ∷ a) (y ∷ b) m n e le =
      let r = between a b m n (ap tail_of e) (omega arith) in
      let same : y ≡ x = sym (ap (head_of x) e) in
      (r.0, (λ i. same i ∷ r.1 i), r.2)

  -- what holds of each element of a list holds of those of its parts
  pub all_left : (P : X → Type 0) (xs ys : List X) → All P (xs ++ ys) → All P xs
  all_left P [] ys all = All-nil P
  all_left P (x ∷ xs) ys all = All-cons P x xs (All-head P x (xs ++ ys) all) (all_left P xs ys (All-tail P x (xs ++ ys) all))

  pub all_right : (P : X → Type 0) (xs ys : List X) → All P (xs ++ ys) → All P ys
  all_right P [] ys all = all
  all_right P (x ∷ xs) ys all = all_right P xs ys (All-tail P x (xs ++ ys) all)

  pub all_both : (P Q : X → Type 0) (xs : List X) → All P xs → All Q xs → All (λ x. P x × Q x) xs
  all_both P Q [] p q = All-nil (λ x. P x × Q x)
  all_both P Q (x ∷ xs) p q = All-cons (λ x. P x × Q x) x xs (All-head P x xs p, All-head Q x xs q) (all_both P Q xs (All-tail P x xs p) (All-tail Q x xs q))

  -- a list of elements that can't be is empty
  pub all_empty : (P : X → Type 0) (xs : List X) → ((x : X) → P x → ⊥) → All P xs → xs ≡ []
  all_empty P [] never all = refl
  all_empty P (x ∷ xs) never all = absurd (never x (All-head P x xs all))

  pub contains_here : (x : X) (xs : List X) → Contains (x ∷ xs) x
  contains_here x xs = (0, omega arith, refl)

  pub contains_none : (x : X) → Contains [] x → ⊥
  contains_none x c = let below = c.1 in omega arith

  contains_one : (x y : X) → Contains (x ∷ []) y → x ≡ y
  contains_one x y (zero, below, same) = same
  contains_one x y (suc k, below, same) = absurd (omega arith)

  pub contains_cases : (x : X) (xs : List X) (y : X) → Contains (x ∷ xs) y → (x ≡ y) ⊎ Contains xs y
  contains_cases x xs y c =
      ⊎_elim (λ (here : Contains (x ∷ []) y). inl (contains_one x y here)) (λ (there : Contains xs y). inr there) (Contains-append_cases (x ∷ []) xs y c)

  pub contains_there : (x : X) (xs : List X) (y : X) → Contains xs y → Contains (x ∷ xs) y
  contains_there x xs y c = Contains-append_right (x ∷ []) xs y c

-- the numbers of a range
pub in_range : (a n x : ℕ) → Contains (range_with_len a n) x → (a ≤ x) × (x < a + n)
in_range a zero x c = absurd (contains_none x c)
in_range a (suc n) x c =
    ⊎_elim (λ (here : a ≡ x). (omega arith, omega arith))
    (λ (there : Contains (range_with_len (a + 1) n) x). let r = in_range (a + 1) n x there in (omega (arith, r.0), omega (arith, r.1)))
    (contains_cases a (range_with_len (a + 1) n) x c)

is_first : (a x : ℕ) → a ≤ x → (a ≡ x) ⊎ (a + 1 ≤ x)
is_first a x low = dite (ℕ_discrete a x) (λ same. inl same) (λ other. inr (omega arith))

pub of_range : (a n x : ℕ) → a ≤ x → x < a + n → Contains (range_with_len a n) x
of_range a zero x low high = absurd (omega arith)
of_range a (suc n) x low high =
    ⊎_elim (λ (same : a ≡ x). subst (Contains (range_with_len a (suc n))) same (contains_here a (range_with_len (a + 1) n)))
    (λ (more : a + 1 ≤ x). contains_there a (range_with_len (a + 1) n) x (of_range (a + 1) n x more (omega arith))) (is_first a x low)

-- ---- histories that go on

pub continues_same : (ns : List ℕ) (a b : List Entry) → a ≡ b → Continues ns a b
continues_same ns a b same = record { others = []; apart = All-nil (λ e. ¬ (Contains ns e.seat)); history = sym same ∙ sym (append-nil a) }

pub continues_more : (ns : List ℕ) (a b : List Entry) (e : Entry) → ¬ (Contains ns e.seat) → Continues ns a b → Continues ns a (b ++ e ∷ [])
continues_more ns a b e other c =
    let P : Entry → Type 0 = λ x. ¬ (Contains ns x.seat) in
    record {
      others = c.others ++ e ∷ [];
      apart = All-append P c.others (e ∷ []) c.apart (All-cons P e [] other (All-nil P));
      history = ap (λ (l : List Entry). l ++ e ∷ []) c.history ∙ append_assoc a c.others (e ∷ []);
    }

-- an empty history goes on as any other, apart from no number
pub continues_none : (b : List Entry) → Continues [] [] b
continues_none b =
    record { others = b; apart = All-weaker (λ _. Unit {0}) (λ e. ¬ (Contains [] e.seat)) (λ e _ c. contains_none e.seat c) b (λ k d below. tt); history = refl }

-- the numbers that no entry has may be told apart too
pub continues_apart : (ns : List ℕ) (x : ℕ) (a b : List Entry) → HasNone x b → Continues ns a b → Continues (x ∷ []) a b
continues_apart ns x a b none c =
    let others : All (λ e. e.seat ≢ x) c.others = all_right (λ e. e.seat ≢ x) a c.others (subst (HasNone x) c.history none) in
    record {
      others = c.others;
      apart = All-weaker (λ e. e.seat ≢ x) (λ e. ¬ (Contains (x ∷ []) e.seat))
          (λ e ne has. ⊎_elim (λ (same : x ≡ e.seat). ne (sym same)) (λ (in_none : Contains [] e.seat). contains_none e.seat in_none) (contains_cases x [] e.seat has)) c.others others;
      history = c.history;
    }

-- a beginning that is no shorter than another goes on from it, and what follows has no entry with the numbers either
pub continues_between : (ns : List ℕ) (a b whole rest : List Entry) → Continues ns a whole → whole ≡ b ++ rest → length a ≤ length b
    → Continues ns a b × All (λ e. ¬ (Contains ns e.seat)) rest
continues_between ns a b whole rest c ends le =
    let P : Entry → Type 0 = λ e. ¬ (Contains ns e.seat) in
    let r = between a b c.others rest (sym c.history ∙ ends) le in
    let all : All P (r.0 ++ rest) = subst (All P) r.2 c.apart in
    (record { others = r.0; apart = all_left P r.0 rest all; history = r.1 }, all_right P r.0 rest all)

-- ---- the entry that is added

last_of_more : (h : List Entry) (e : Entry) → last_entry (h ++ e ∷ []) ≡ e
last_of_more [] e = refl
last_of_more (a ∷ []) e = refl
last_of_more (a ∷ b ∷ h) e = last_of_more (b ∷ h) e

-- a history that grew has its last entry more, with the number
pub grew_by_last : (n : ℕ) (old new : List Entry) → AddsAtMostOne n old new → length new ≢ length old → (new ≡ old ++ last_entry new ∷ []) × ((last_entry new).seat ≡ n)
grew_by_last n old new adds longer =
    ⊎_elim (λ (same : new ≡ old). absurd (longer (ap length same)))
    (λ (one : (e : Entry) × (e.seat ≡ n) × (new ≡ old ++ e ∷ [])).
    let last : last_entry new ≡ one.0 = ap last_entry one.2 ∙ last_of_more old one.0 in
    (one.2 ∙ ap (λ (x : Entry). old ++ x ∷ []) (sym last), ap (λ (x : Entry). x.seat) last ∙ one.1)) adds

-- and one that is as long as before is the same
pub stays_same : (n : ℕ) (old new : List Entry) → AddsAtMostOne n old new → length new ≡ length old → new ≡ old
stays_same n old new adds same =
    ⊎_elim (λ (e : new ≡ old). e)
    (λ (one : (e : Entry) × (e.seat ≡ n) × (new ≡ old ++ e ∷ [])). absurd (omega (arith, ap length one.2, length-append old (one.0 ∷ [])))) adds
