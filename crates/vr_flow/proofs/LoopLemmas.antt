-- What the loops over pipelines and identities keep.
use Rattle.std.proofs.Common.{◌≡◌, ℕ, ◌+◌, ◌<◌, ◌≤◌, Bool, true, false, ◌&&◌, ◌↔◌, eqb, List, [], ◌∷◌, ◌++◌, length, get_or, set, sum_by, refl, sym, ◌∙◌, ap, subst, ◌⊎◌, inl, inr, arith}
use Rattle.std.proofs.lemmas.Bool.{cases_lt, eqb-true, eq-eqb, or_cases, or_left, or_right, and_parts, and_from}
use Rattle.std.proofs.lemmas.List.{get_or_read, get_or_push, get_or_append_left, length_push, get_or-set_other}
use Rattle.std.proofs.lemmas.List.Sums.{sum_by-set}
use Rattle.std.proofs.Math.Nat.{eq-or-lt_of_le}
use Rattle.std.proofs.Math.ListN.{length-set}
use Rattle.vr_flow.specs.declared.flow.Flow.{Flow}
use Rattle.vr_flow.specs.Closing.{set_at, AreLed, Reached, first, next, Closes, IsObserved, AreModifiers}
use Rattle.vr_flow.specs.Flows.{flow_at, observed_at}
use Rattle.vr_flow.specs.Places.{has_place, words_for, nowhere, just, those_of, IsSet, Adds, Meet, Within}
use Rattle.vr_flow.proofs.ClosingLemmas.{no_set_at, none_observed_at, none_modified_at}

-- ---- what a set got

pub put_cases : (place : ℕ) (is_in : Bool) (old new : List ℕ) → Adds (just place is_in) old new → (other : ℕ) → has_place new other ≡ true → (has_place old other ≡ true) ⊎ ((is_in ≡ true) × (other ≡ place))
put_cases place is_in old new h other t = elim (or_cases (has_place old other) (is_in && eqb other place) (sym (h.added other) ∙ t)) [
  | inl before ↦ inl before
  | inr added ↦ (let parts = and_parts is_in (eqb other place) added in inr (parts.0, eqb-true other place parts.1))
]

pub added_keeps : (test : ℕ → Bool) (old new : List ℕ) → Adds test old new → Within (has_place old) (has_place new)
added_keeps test old new h place t = h.added place ∙ or_left (has_place old place) (test place) t

pub put_there : (place : ℕ) (is_in : Bool) (old new : List ℕ) → Adds (just place is_in) old new → is_in ≡ true → has_place new place ≡ true
put_there place is_in old new h t = h.added place ∙ or_right (has_place old place) (is_in && eqb place place) (and_from is_in (eqb place place) t (eq-eqb place place refl))

pub adds_cases : (more old new : List ℕ) (is_in : Bool) → Adds (those_of more is_in) old new → (other : ℕ) → has_place new other ≡ true → (has_place old other ≡ true) ⊎ ((is_in ≡ true) × (has_place more other ≡ true))
adds_cases more old new is_in h other t = elim (or_cases (has_place old other) (is_in && has_place more other) (sym (h.added other) ∙ t)) [
  | inl before ↦ inl before
  | inr added ↦ inr (and_parts is_in (has_place more other) added)
]

pub adds_there : (more old new : List ℕ) (is_in : Bool) → Adds (those_of more is_in) old new → is_in ≡ true → Within (has_place more) (has_place new)
adds_there more old new is_in h t place there = h.added place ∙ or_right (has_place old place) (is_in && has_place more place) (and_from is_in (has_place more place) t there)

-- what holds below a number and at it holds below the next
pub step : (P : ℕ → Type 0) (n : ℕ) → ((place : ℕ) → place < n → P place) → P n → (place : ℕ) → place < n + 1 → P place
step P n before here place l = elim (eq-or-lt_of_le {n = place} {m = n} (omega arith)) [ inl same ↦ subst P (sym same) here | inr lower ↦ before place lower ]

-- the flow that a loop reads at a place
pub flow_read : (flows : List Flow) (place : ℕ) (flow : Flow) → place < length flows → flow ≡ get_or flows place flow → flow ≡ flow_at flows place
flow_read flows place flow l is = get_or_read flows place flow l is (record { observed = []; modified = [] })

-- ---- pipelines that are led to

pub record AreLedSoFar (n : ℕ) (pipelines : List Flow) (executable regions led : List ℕ) : Type 0 where
  pub room : length led ≡ words_for (length pipelines)
  pub only : (place : ℕ) → has_place led place ≡ true → (has_place executable place ≡ true) × Meet (flow_at pipelines place).modified regions
  pub all : (place : ℕ) → place < n → has_place executable place ≡ true → Meet (flow_at pipelines place).modified regions → has_place led place ≡ true

module _ (pipelines : List Flow) (executable regions : List ℕ) where
  pub led_none : (led : List ℕ) → IsSet (length pipelines) nowhere led → AreLedSoFar 0 pipelines executable regions led
  led_none led h = record {
    room = h.room;
    only = λ place t. (let none : has_place led place ≡ false = h.same place in absurd (cc));
    all = λ place l. absurd (omega arith);
  }

  pub led_next : (n : ℕ) (flow : Flow) (is_in : Bool) (led new : List ℕ) → AreLedSoFar n pipelines executable regions led → flow ≡ flow_at pipelines n
      → ((is_in ≡ true) ↔ ((has_place executable n ≡ true) × Meet flow.modified regions)) → Adds (just n is_in) led new → AreLedSoFar (n + 1) pipelines executable regions new
  led_next n flow is_in led new h same test put = record {
    room = put.room ∙ h.room;
    only = λ place t. from place (put_cases n is_in led new put place t);
    all = step (λ place. has_place executable place ≡ true → Meet (flow_at pipelines place).modified regions → has_place new place ≡ true) n
        (λ place l runs meets. added_keeps (just n is_in) led new put place (h.all place l runs meets))
        (λ runs meets. put_there n is_in led new put (test.1 (runs, subst (λ (f : Flow). Meet f.modified regions) (sym same) meets)));
  }
    where
      from : (place : ℕ) → (has_place led place ≡ true) ⊎ ((is_in ≡ true) × (place ≡ n)) → (has_place executable place ≡ true) × Meet (flow_at pipelines place).modified regions
      from place (inl before) = h.only place before
      from place (inr (t, is)) =
          let P : ℕ → Type 0 = λ p. (has_place executable p ≡ true) × Meet (flow_at pipelines p).modified regions in
          let here = test.0 t in
          subst P (sym is) (here.0, subst (λ (f : Flow). Meet f.modified regions) same here.1)

  pub led_all : (n : ℕ) (led : List ℕ) → length pipelines ≤ n → AreLedSoFar n pipelines executable regions led → AreLed pipelines executable regions led
  led_all n led g h = record { room = h.room; only = h.only; all = λ place runs meets. by_cases place runs meets (cases_lt place n) }
    where
      by_cases : (place : ℕ) → has_place executable place ≡ true → Meet (flow_at pipelines place).modified regions → (place < n) ⊎ (n ≤ place) → has_place led place ≡ true
      by_cases place runs meets (inl l) = h.all place l runs meets
      by_cases place runs (changed, modifies, there) (inr past) =
          let none : has_place (flow_at pipelines place).modified changed ≡ false = none_modified_at pipelines place changed (omega arith) in
          let here : has_place (flow_at pipelines place).modified changed ≡ true = modifies in
          absurd (cc)

-- ---- the leads of each pipeline

pub record AreLeadsSoFar (n : ℕ) (pipelines : List Flow) (executable : List ℕ) (leads : List (List ℕ)) : Type 0 where
  pub every : length leads ≡ n
  pub each : (place : ℕ) → place < n → AreLed pipelines executable (flow_at pipelines place).observed (set_at leads place)

pub leads_none : (pipelines : List Flow) (executable : List ℕ) → AreLeadsSoFar 0 pipelines executable []
leads_none pipelines executable = record { every = refl; each = λ place l. absurd (omega arith) }

pub leads_next : (n : ℕ) (pipelines : List Flow) (executable : List ℕ) (leads : List (List ℕ)) (flow : Flow) (led : List ℕ) → AreLeadsSoFar n pipelines executable leads → flow ≡ flow_at pipelines n
    → AreLed pipelines executable flow.observed led → AreLeadsSoFar (n + 1) pipelines executable (leads ++ led ∷ [])
leads_next n pipelines executable leads flow led h same are_led = record {
  every = length_push leads led ∙ ap (λ k. k + 1) h.every;
  each = step (λ place. AreLed pipelines executable (flow_at pipelines place).observed (set_at (leads ++ led ∷ []) place)) n
      (λ place l. (let before : place < length leads = omega (arith, h.every) in subst (AreLed pipelines executable (flow_at pipelines place).observed) (sym (get_or_append_left leads (led ∷ []) [] place before)) (h.each place l)))
      (let last : set_at (leads ++ led ∷ []) n ≡ led = get_or_push leads led [] n h.every in
      subst (AreLed pipelines executable (flow_at pipelines n).observed) (sym last) (subst (λ (f : Flow). AreLed pipelines executable f.observed led) same are_led));
}

-- ---- what is observed

pub record IsObservedSoFar (n : ℕ) (pipelines : List Flow) (start led regions : List ℕ) : Type 0 where
  pub room : length regions ≡ length start
  pub at_first : Within (has_place start) (has_place regions)
  pub by_led : (place : ℕ) → place < n → has_place led place ≡ true → Within (observed_at pipelines place) (has_place regions)
  pub only : (region : ℕ) → has_place regions region ≡ true
      → (has_place start region ≡ true) ⊎ ((place : ℕ) × (has_place led place ≡ true) × (observed_at pipelines place region ≡ true))

module _ (pipelines : List Flow) (start led : List ℕ) where
  pub observed_first : (regions : List ℕ) → regions ≡ start → IsObservedSoFar 0 pipelines start led regions
  observed_first regions same = record {
    room = ap length same;
    at_first = λ region t. ap (λ s. has_place s region) same ∙ t;
    by_led = λ place l. absurd (omega arith);
    only = λ region t. inl (sym (ap (λ s. has_place s region) same) ∙ t);
  }

  pub observed_next : (n : ℕ) (flow : Flow) (is_in : Bool) (regions new : List ℕ) → IsObservedSoFar n pipelines start led regions → flow ≡ flow_at pipelines n → is_in ≡ has_place led n
      → Adds (those_of flow.observed is_in) regions new → IsObservedSoFar (n + 1) pipelines start led new
  observed_next n flow is_in regions new h same test adds = record {
    room = adds.room ∙ h.room;
    at_first = λ region t. added_keeps (those_of flow.observed is_in) regions new adds region (h.at_first region t);
    by_led = step (λ place. has_place led place ≡ true → Within (observed_at pipelines place) (has_place new)) n
        (λ place l t region o. added_keeps (those_of flow.observed is_in) regions new adds region (h.by_led place l t region o))
        (λ t region o. adds_there flow.observed regions new is_in adds (test ∙ t) region (ap (λ (f : Flow). has_place f.observed region) same ∙ o));
    only = λ region t. from region (adds_cases flow.observed regions new is_in adds region t);
  }
    where
      from : (region : ℕ) → (has_place regions region ≡ true) ⊎ ((is_in ≡ true) × (has_place flow.observed region ≡ true)) → (has_place start region ≡ true) ⊎ ((place : ℕ) × (has_place led place ≡ true) × (observed_at pipelines place region ≡ true))
      from region (inl before) = h.only region before
      from region (inr (t, o)) = inr (n, sym test ∙ t, sym (ap (λ (f : Flow). has_place f.observed region) same) ∙ o)

  pub observed_all : (n : ℕ) (regions : List ℕ) → length pipelines ≤ n → IsObservedSoFar n pipelines start led regions → IsObserved pipelines start led regions
  observed_all n regions g h = record { room = h.room; at_first = h.at_first; by_led = λ place t region o. by_cases place t region o (cases_lt place n); only = h.only }
    where
      by_cases : (place : ℕ) → has_place led place ≡ true → (region : ℕ) → observed_at pipelines place region ≡ true → (place < n) ⊎ (n ≤ place) → has_place regions region ≡ true
      by_cases place t region o (inl l) = h.by_led place l t region o
      by_cases place t region o (inr past) = let none : observed_at pipelines place region ≡ false = none_observed_at pipelines place region (omega arith) in absurd (cc)

-- ---- who modifies

pub record AreModifiersSoFar (n : ℕ) (flows : List Flow) (caller : ℕ) (regions found : List ℕ) : Type 0 where
  pub room : length found ≡ words_for (length flows)
  pub itself : has_place found caller ≡ true
  pub all : (place : ℕ) → place < n → Meet (flow_at flows place).modified regions → has_place found place ≡ true
  pub only : (place : ℕ) → has_place found place ≡ true → (place ≡ caller) ⊎ Meet (flow_at flows place).modified regions

module _ (flows : List Flow) (caller : ℕ) (regions : List ℕ) where
  pub modifiers_first : (none found : List ℕ) → IsSet (length flows) nowhere none → Adds (just caller true) none found → AreModifiersSoFar 0 flows caller regions found
  modifiers_first none found h put = record {
    room = put.room ∙ h.room;
    itself = put_there caller true none found put refl;
    all = λ place l. absurd (omega arith);
    only = λ place t. from place (put_cases caller true none found put place t);
  }
    where
      from : (place : ℕ) → (has_place none place ≡ true) ⊎ ((true ≡ true) × (place ≡ caller)) → (place ≡ caller) ⊎ Meet (flow_at flows place).modified regions
      from place (inl before) = let not_there : has_place none place ≡ false = h.same place in absurd (cc)
      from place (inr (t, is)) = inl is

  pub modifiers_next : (n : ℕ) (flow : Flow) (is_in : Bool) (found new : List ℕ) → AreModifiersSoFar n flows caller regions found → flow ≡ flow_at flows n
      → ((is_in ≡ true) ↔ Meet flow.modified regions) → Adds (just n is_in) found new → AreModifiersSoFar (n + 1) flows caller regions new
  modifiers_next n flow is_in found new h same test put = record {
    room = put.room ∙ h.room;
    itself = added_keeps (just n is_in) found new put caller h.itself;
    all = step (λ place. Meet (flow_at flows place).modified regions → has_place new place ≡ true) n
        (λ place l meets. added_keeps (just n is_in) found new put place (h.all place l meets))
        (λ meets. put_there n is_in found new put (test.1 (subst (λ (f : Flow). Meet f.modified regions) (sym same) meets)));
    only = λ place t. from place (put_cases n is_in found new put place t);
  }
    where
      from : (place : ℕ) → (has_place found place ≡ true) ⊎ ((is_in ≡ true) × (place ≡ n)) → (place ≡ caller) ⊎ Meet (flow_at flows place).modified regions
      from place (inl before) = h.only place before
      from place (inr (t, is)) = inr (subst (λ p. Meet (flow_at flows p).modified regions) (sym is) (subst (λ (f : Flow). Meet f.modified regions) same (test.0 t)))

  pub modifiers_all : (n : ℕ) (found : List ℕ) → length flows ≤ n → AreModifiersSoFar n flows caller regions found → AreModifiers flows caller regions found
  modifiers_all n found g h = record { itself = h.itself; all = λ place meets. by_cases place meets (cases_lt place n); only = h.only }
    where
      by_cases : (place : ℕ) → Meet (flow_at flows place).modified regions → (place < n) ⊎ (n ≤ place) → has_place found place ≡ true
      by_cases place meets (inl l) = h.all place l meets
      by_cases place (changed, modifies, there) (inr past) =
          let none : has_place (flow_at flows place).modified changed ≡ false = none_modified_at flows place changed (omega arith) in
          let here : has_place (flow_at flows place).modified changed ≡ true = modifies in
          absurd (cc)

-- ---- what is reached

-- what is left to do at a place
unfoldable pub left : Bool → ℕ
left true = 0
left false = 1

-- how many places are not done
unfoldable pub undone : List Bool → ℕ
undone done = sum_by left done

pub record IsClosing (leads : List (List ℕ)) (start led : List ℕ) (done : List Bool) : Type 0 where
  pub room : length led ≡ length start
  pub every : length done ≡ length leads
  pub kept : Within (has_place start) (has_place led)
  pub closed : (place : ℕ) → get_or done place false ≡ true → Within (has_place (set_at leads place)) (has_place led)
  pub least : (place : ℕ) → has_place led place ≡ true → Reached start leads place

pub undone_less : (done : List Bool) (place : ℕ) → place < length done → get_or done place true ≡ false → undone (set done place true) < undone done
unfolding undone left
undone_less done place l is =
    let count : sum_by left (set done place true) + left (get_or done place true) ≡ sum_by left done + left true = sum_by-set left done place true true l in
    let one : left (get_or done place true) ≡ left false = ap left is in
    omega (arith, count, one)

module _ (leads : List (List ℕ)) (start : List ℕ) where
  pub closing_first : (done : List Bool) → length done ≡ length leads → ((place : ℕ) → get_or done place false ≡ false) → IsClosing leads start start done
  closing_first done every none = record {
    room = refl;
    every = every;
    kept = λ place t. t;
    closed = λ place t. (let not_done : get_or done place false ≡ false = none place in absurd (cc));
    least = λ place t. first place t;
  }

  pub closing_next : (led new : List ℕ) (done : List Bool) (place : ℕ) → IsClosing leads start led done → place < length done → has_place led place ≡ true → Adds (those_of (set_at leads place) true) led new
      → IsClosing leads start new (set done place true)
  closing_next led new done place h l is_led adds = record {
    room = adds.room ∙ h.room;
    every = length-set done place true ∙ h.every;
    kept = λ other t. added_keeps (those_of (set_at leads place) true) led new adds other (h.kept other t);
    closed = λ other t. closes other t (cases other);
    least = λ other t. from other (adds_cases (set_at leads place) led new true adds other t);
  }
    where
      cases : (other : ℕ) → (other ≡ place) ⊎ (other ≡ place → ⊥)
      cases other = elim (cases_lt other place) [
        | inl below ↦ inr (λ e. omega arith)
        | inr g ↦ elim (eq-or-lt_of_le {n = place} {m = other} g) [ inl same ↦ inl (sym same) | inr above ↦ inr (λ e. omega arith) ]
      ]

      closes : (other : ℕ) → get_or (set done place true) other false ≡ true → (other ≡ place) ⊎ (other ≡ place → ⊥) → Within (has_place (set_at leads other)) (has_place new)
      closes other t (inl same) = λ reached r. adds_there (set_at leads place) led new true adds refl reached (sym (ap (λ p. has_place (set_at leads p) reached) same) ∙ r)
      closes other t (inr apart) = λ reached r. added_keeps (those_of (set_at leads place) true) led new adds reached (h.closed other (sym (get_or-set_other done place other true false apart) ∙ t) reached r)

      from : (other : ℕ) → (has_place led other ≡ true) ⊎ ((true ≡ true) × (has_place (set_at leads place) other ≡ true)) → Reached start leads other
      from other (inl before) = h.least other before
      from other (inr (t, leads_to)) = next place other (h.least place is_led) leads_to

  pub closing_all : (led : List ℕ) (done : List Bool) → IsClosing leads start led done → ((place : ℕ) → place < length done → has_place led place ≡ true → get_or done place false ≡ true) → Closes leads start led
  closing_all led done h all = record { kept = h.kept; closed = λ place t. by_cases place t (cases_lt place (length done)); least = h.least }
    where
      by_cases : (place : ℕ) → has_place led place ≡ true → (place < length done) ⊎ (length done ≤ place) → Within (has_place (set_at leads place)) (has_place led)
      by_cases place t (inl l) = h.closed place (all place l t)
      by_cases place t (inr g) = λ other is_there. (let none : has_place (set_at leads place) other ≡ false = no_set_at leads place other (omega (arith, h.every)) in absurd (cc))
