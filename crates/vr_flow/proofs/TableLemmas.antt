-- Tests at places of lists, and tables of flows that grow.
use Rattle.std.proofs.Common.{◌≡◌, ℕ, ◌+◌, ◌<◌, ◌≤◌, Bool, true, false, cond, ◌||◌, ◌&&◌, List, [], ◌∷◌, ◌++◌, length, take, drop, filter, get_or, Option, Some, None, All, slice_get, refl, sym, ◌∙◌, ap, subst, ◌⊎◌, inl, inr, arith}
use Rattle.std.specs.List.{list_any}
use Rattle.std.specs.Option.{option_map_or}
use Rattle.std.proofs.lemmas.Bool.{cases_lt, lt-ltb, le-ltb, or_left, or_right}
use Rattle.std.proofs.lemmas.List.{take_more, take-append-drop, get_or_push, get_or_append_left, length_push}
use Rattle.std.proofs.lemmas.List.Elements.{All-from_get_or}
use Rattle.std.proofs.lemmas.List.Folds.{list_any-append}
use Rattle.std.proofs.lemmas.Option.{slice_get_past, slice_get_within, slice_get-get_or, get_or_from_slice_get}
use Rattle.std.proofs.Math.Bool.{or-false, or_assoc}
use Rattle.vr_flow.specs.declared.flow.Flow.{Flow}
use Rattle.vr_flow.specs.Closing.{FitsRegions}
use Rattle.vr_flow.specs.Flows.{at_place, IsFlow, AreFlows, flow_at}
use Rattle.vr_flow.specs.Places.{has_place, below, those_of, IsSet, Adds}
use Rattle.vr_flow.proofs.LoopLemmas.{step}
use Rattle.vr_flow.proofs.SetLemmas.{set_adds, set_same}

-- ---- tests of lists

pub any_never : {X : Type 0} (xs : List X) → list_any (λ x. false) xs ≡ false
any_never [] = refl
any_never (x ∷ xs) = any_never xs

module _ {X : Type 0} where
  pub any_same : (p q : X → Bool) → ((x : X) → p x ≡ q x) → (xs : List X) → list_any p xs ≡ list_any q xs
  any_same p q h [] = refl
  any_same p q h (x ∷ xs) = ap (λ t. t || list_any p xs) (h x) ∙ ap (λ t. q x || t) (any_same p q h xs)

  -- one element more
  pub any_more : (p : X → Bool) (xs : List X) (i : ℕ) (x : X) → slice_get xs i ≡ Some x → list_any p (take (i + 1) xs) ≡ (list_any p (take i xs) || p x)
  any_more p xs i x e =
      let within : i < length xs = slice_get_within xs i x e in
      let more : take (i + 1) xs ≡ take i xs ++ x ∷ [] = take_more xs i x within ∙ ap (λ y. take i xs ++ y ∷ []) (get_or_from_slice_get xs i x x e) in
      ap (list_any p) more ∙ list_any-append p (take i xs) (x ∷ []) ∙ ap (λ t. list_any p (take i xs) || t) (or-false (p x))

  -- an element that passes
  pub any_at : (p : X → Bool) (xs : List X) (i : ℕ) (x : X) → slice_get xs i ≡ Some x → p x ≡ true → list_any p xs ≡ true
  any_at p xs i x e t =
      ap (list_any p) (sym (take-append-drop (i + 1) xs)) ∙ list_any-append p (take (i + 1) xs) (drop (i + 1) xs)
      ∙ or_left (list_any p (take (i + 1) xs)) _ (any_more p xs i x e ∙ or_right (list_any p (take i xs)) (p x) t)

  -- a test of those that pass another one
  pub any_filter : (p q : X → Bool) (xs : List X) → list_any (λ x. p x && q x) xs ≡ list_any q (filter p xs)
  any_filter p q [] = refl
  any_filter p q (x ∷ xs) = by_test (p x) (any_filter p q xs)
    where
      by_test : (b : Bool) → list_any (λ y. p y && q y) xs ≡ list_any q (filter p xs) → ((b && q x) || list_any (λ y. p y && q y) xs) ≡ list_any q (cond b (x ∷ filter p xs) (filter p xs))
      by_test true rest = ap (λ t. q x || t) rest
      by_test false rest = rest

  -- ---- tests at places

  pub at_some : (test : X → Bool) (xs : List X) (i : ℕ) (x : X) → slice_get xs i ≡ Some x → at_place test xs i ≡ test x
  at_some test xs i x e = ap (λ o. option_map_or test o false) e

  pub at_none : (test : X → Bool) (xs : List X) (i : ℕ) → length xs ≤ i → at_place test xs i ≡ false
  at_none test xs i g = ap (λ o. option_map_or test o false) (slice_get_past xs i g)

  pub at_same : (p q : X → Bool) → ((x : X) → p x ≡ q x) → (xs : List X) (i : ℕ) → at_place p xs i ≡ at_place q xs i
  at_same p q h xs i = by_cases (slice_get xs i)
    where
      by_cases : (o : Option X) → option_map_or p o false ≡ option_map_or q o false
      by_cases None = refl
      by_cases (Some x) = h x

  pub at_weaker : (p q : X → Bool) → ((x : X) → p x ≡ true → q x ≡ true) → (xs : List X) (i : ℕ) → at_place p xs i ≡ true → at_place q xs i ≡ true
  at_weaker p q h xs i = by_cases (slice_get xs i)
    where
      by_cases : (o : Option X) → option_map_or p o false ≡ true → option_map_or q o false ≡ true
      by_cases None t = t
      by_cases (Some x) t = h x t

  pub at_or : (p q : X → Bool) (xs : List X) (i : ℕ) → (at_place p xs i || at_place q xs i) ≡ at_place (λ x. p x || q x) xs i
  at_or p q xs i = by_cases (slice_get xs i)
    where
      by_cases : (o : Option X) → (option_map_or p o false || option_map_or q o false) ≡ option_map_or (λ x. p x || q x) o false
      by_cases None = refl
      by_cases (Some x) = refl

  pub at_and : (b : Bool) (p : X → Bool) (xs : List X) (i : ℕ) → (b && at_place p xs i) ≡ at_place (λ x. b && p x) xs i
  at_and b p xs i = by_cases b (slice_get xs i)
    where
      by_cases : (b : Bool) (o : Option X) → (b && option_map_or p o false) ≡ option_map_or (λ x. b && p x) o false
      by_cases true None = refl
      by_cases false None = refl
      by_cases b (Some x) = refl

  pub at_any : {Y : Type 0} (test : Y → X → Bool) (ys : List Y) (xs : List X) (i : ℕ) → list_any (λ y. at_place (test y) xs i) ys ≡ at_place (λ x. list_any (λ y. test y x) ys) xs i
  at_any {Y} test ys xs i = by_cases (slice_get xs i)
    where
      by_cases : (o : Option X) → list_any (λ y. option_map_or (test y) o false) ys ≡ option_map_or (λ x. list_any (λ y. test y x) ys) o false
      by_cases None = any_never ys
      by_cases (Some x) = refl

  -- a test of numbers below a length, which is one of the elements
  pub below_at : (xs : List X) (d : X) (test : ℕ → Bool) (p : X → Bool) → ((i : ℕ) → i < length xs → test i ≡ p (get_or xs i d)) → (i : ℕ) → below (length xs) test i ≡ at_place p xs i
  below_at xs d test p h i = by_cases (cases_lt i (length xs))
    where
      by_cases : (i < length xs) ⊎ (length xs ≤ i) → below (length xs) test i ≡ at_place p xs i
      by_cases (inl l) = ap (λ t. t && test i) (lt-ltb i (length xs) l) ∙ h i l ∙ sym (at_some p xs i (get_or xs i d) (slice_get-get_or xs i d l))
      by_cases (inr g) = ap (λ t. t && test i) (le-ltb i (length xs) g) ∙ sym (at_none p xs i g)

  -- ---- a set that gets what passes of the elements so far

  pub any_first : (count : ℕ) (base : ℕ → Bool) (test : X → ℕ → Bool) (xs : List X) (words : List ℕ) → IsSet count base words → IsSet count (λ r. base r || list_any (λ x. test x r) (take 0 xs)) words
  any_first count base test xs words h = set_same count base _ words h (λ r. sym (or-false (base r)))

  pub any_next : (count : ℕ) (base : ℕ → Bool) (test : X → ℕ → Bool) (xs : List X) (i : ℕ) (x : X) (is_in : Bool) (more old new : List ℕ) → slice_get xs i ≡ Some x
      → IsSet count (λ r. base r || list_any (λ y. test y r) (take i xs)) old → Adds (those_of more is_in) old new → ((r : ℕ) → (is_in && has_place more r) ≡ test x r)
      → IsSet count (λ r. base r || list_any (λ y. test y r) (take (i + 1) xs)) new
  any_next count base test xs i x is_in more old new e h adds same = set_adds count _ (those_of more is_in) _ old new h adds
      (λ r. or_assoc (base r) (list_any (λ y. test y r) (take i xs)) (is_in && has_place more r)
      ∙ ap (λ t. base r || (list_any (λ y. test y r) (take i xs) || t)) (same r)
      ∙ ap (λ t. base r || t) (sym (any_more (λ y. test y r) xs i x e)))

-- ---- tables of flows

pub flows_none : (regions : ℕ) (observes modifies : ℕ → ℕ → Bool) → AreFlows 0 regions observes modifies []
flows_none regions observes modifies = record { all = refl; each = λ place l. absurd (omega arith) }

pub flows_push : (n regions : ℕ) (observes modifies : ℕ → ℕ → Bool) (flows : List Flow) (flow : Flow) → AreFlows n regions observes modifies flows → IsFlow regions (observes n) (modifies n) flow
    → AreFlows (n + 1) regions observes modifies (flows ++ flow ∷ [])
flows_push n regions observes modifies flows flow h last = record {
  all = length_push flows flow ∙ ap (λ k. k + 1) h.all;
  each = step (λ place. IsFlow regions (observes place) (modifies place) (flow_at (flows ++ flow ∷ []) place)) n
      (λ place l. (let before : place < length flows = omega (arith, h.all) in subst (IsFlow regions (observes place) (modifies place)) (sym (get_or_append_left flows (flow ∷ []) _ place before)) (h.each place l)))
      (let here : flow_at (flows ++ flow ∷ []) n ≡ flow = get_or_push flows flow _ n h.all in subst (IsFlow regions (observes n) (modifies n)) (sym here) last);
}

-- each flow has room for the regions
pub flows_fit : (n regions : ℕ) (observes modifies : ℕ → ℕ → Bool) (flows : List Flow) → AreFlows n regions observes modifies flows → All (FitsRegions regions) flows
flows_fit n regions observes modifies flows h = All-from_get_or (FitsRegions regions) flows (record { observed = []; modified = [] })
    (λ place l. (let flow = h.each place (omega (arith, h.all)) in record { observed = flow.observed.room; modified = flow.modified.room }))
