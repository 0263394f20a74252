-- Each step keeps the rule of the turn.
use Rattle.std.proofs.Common.{◌≡◌, ◌≢◌, ℕ, zero, suc, ◌+◌, ◌%◌, ◌^◌, ◌==◌, ◌<◌, ◌≤◌, ◌⊎◌, inl, inr, ⊎_elim, true, List, [], ◌∷◌, ◌++◌, length, get_or, sym, refl, ap, ◌∙◌, subst, arith, Option, Some, None, le_trans, le_refl, length-set, get_or-set_other, get_or-set_same, length-append, mod-eq_of_lt}
use Rattle.std.proofs.lemmas.List.{append-nil}
use Rattle.std.proofs.lemmas.List.Elements.{All-nil, All-push}
use Rattle.std.specs.List.{All, Contains}
use mathlib.Core.Option.{some, none, some-ne-none}
use mathlib.Core.Logic.{dite}
use native.Mathlib.Decide.{ℕ_discrete}
use lib.ListN.{get_elem?}
use lib.Seq.{set-get_or}
use prog.Atomic.{either}
use Rattle.atomic_table.specs.Table.{State, opening, Me, Act, Step, keeps, takes, gives, stepped, step, Allows, Final, Seen, Valid, carried_after}
use Rattle.atomic_table.proofs.Lists.{set_here, set_again, exchanged}
use Rattle.vr_base.specs.declared.calls.Entry.{Entry}
use Rattle.vr_turn.specs.Accounts.{Account}
use Rattle.vr_turn.specs.Plays.{held_of, Tries, Records, Frees, recorded}
use Rattle.vr_turn.specs.Rule.{IsTold, SeesOwn, Fits, EachSeat, IsIdle, AtHome, Taken, Kept}
use Rattle.vr_turn.specs.Seats.{numbers, live_numbers, MayGive, Has, first_knowledge, first_view, turned, resting, holding, is_live}
use Rattle.vr_turn.specs.Turns.{IsFrom, HasAll, Closes, TurnState, SeatState}
use Rattle.vr_turn.specs.declared.views.Doing.{Doing}
use Rattle.vr_turn.specs.declared.views.Doing.TheVariants.{Resting, Holding, Joining, Spent}
use Rattle.vr_turn.specs.declared.views.Held.{Held}
use Rattle.vr_turn.specs.declared.views.Knowledge.{Knowledge}
use Rattle.vr_turn.specs.declared.views.View.{View}
use Rattle.vr_turn.proofs.Histories.{all_right, all_both, all_empty, contains_here, contains_none, contains_cases, continues_same, continues_more}
use Rattle.vr_turn.proofs.Places.{set_at, same_view, each_set, owned_set, seen_set}

-- ---- what a seat does

abbrev held_in : Held → Doing → Held
held_in other (Holding held) = held
held_in other _ = other

pub held_same : (k k' : Knowledge) (h h' : Held) → holding k h ≡ holding k' h' → h ≡ h'
held_same k k' h h' is = ap (λ (u : View). held_in h u.doing) is

pub resting_is_idle : (knows : Knowledge) → IsIdle (resting knows)
resting_is_idle knows held e = cc

-- a live seat that begins to do something else, with nothing to be told, fits as before
pub fits_still : (most : ℕ) (h : List Entry) (owner : ℕ → ℕ) (place : ℕ) (knows : Knowledge) (d : Doing) → is_live d ≡ true → IsTold knows.seen d
    → Fits most h owner place (resting knows) → Fits most h owner place record { knows = knows; doing = d }
fits_still most h owner place knows Resting live told f = f
fits_still most h owner place knows (Holding held) live told f = record { sees = f.sees; owns = f.owns; gives = f.gives; told = tt; spent = λ e. absurd cc }
fits_still most h owner place knows (Joining parts) live told f = record { sees = f.sees; owns = f.owns; gives = f.gives; told = told; spent = λ e. absurd cc }
fits_still most h owner place knows Spent live told f = absurd cc

-- and so does one that comes to rest
pub fits_at_rest : (most : ℕ) (h : List Entry) (owner : ℕ → ℕ) (place : ℕ) (knows : Knowledge) (d : Doing) → is_live d ≡ true
    → Fits most h owner place record { knows = knows; doing = d } → Fits most h owner place (resting knows)
fits_at_rest most h owner place knows Resting live f = f
fits_at_rest most h owner place knows (Holding held) live f = record { sees = f.sees; owns = f.owns; gives = f.gives; told = tt; spent = λ e. absurd cc }
fits_at_rest most h owner place knows (Joining parts) live f = record { sees = f.sees; owns = f.owns; gives = f.gives; told = tt; spent = λ e. absurd cc }
fits_at_rest most h owner place knows Spent live f = absurd cc

-- what is known of the seat that holds the turn
record Holder {S : Type 0} (h : List Entry) (s : State S View) (id : ℕ) (held : Held) : Type 0 where
  pub busy : get_or s.words 0 0 ≡ 1
  pub alone : EachSeat (λ j u. j ≢ id → IsIdle u) s.views
  pub stands : held.history ≡ h
  pub faults : EachSeat (λ _ u. u.knows.faults ≤ held.faults) s.views

holder_same : {S : Type 0} (h : List Entry) (s : State S View) (id : ℕ) (knows : Knowledge) (held : Held) → get_elem? s.views id ≡ some (holding knows held)
    → (t : Taken h s) → id ≡ t.place → Holder h s id held
holder_same h s id knows held at t here =
    let view : View = holding t.knows t.held in
    let e : view ≡ holding knows held = same_view s.views id view (holding knows held) (subst (λ (p : ℕ). get_elem? s.views p ≡ some view) (sym here) t.at) at in
    let same : t.held ≡ held = held_same t.knows knows t.held held e in
    record {
      busy = t.busy;
      alone = subst (λ (p : ℕ). EachSeat (λ j u. j ≢ p → IsIdle u) s.views) (sym here) t.alone;
      stands = ap (λ (x : Held). x.history) (sym same) ∙ t.stands;
      faults = subst (λ (x : Held). EachSeat (λ _ u. u.knows.faults ≤ x.faults) s.views) same t.faults;
    }

-- what a seat is told that records an entry
told_of : {S : Type 0} (st : Step S) (knows : Knowledge) (held : Held) (e : Entry) (c : List (ℕ × S)) (found : ℕ) → Records e st (holding knows held, c) found (recorded knows held e, c)
told_of st knows held e c found k h is =
    let same_knows : knows ≡ k = ap (λ (u : View). u.knows) is in
    let same_held : held ≡ h = held_same knows k held h is in
    λ i. (recorded (same_knows i) (same_held i) e, c)

abbrev pub some_in : {T : Type 0} → T → Option T → T
some_in other (Some value) = value
some_in other None = other

abbrev pub value_in : {T : Type 0} → T → List (ℕ × Option T) → T
value_in other [] = other
value_in other (slot ∷ slots) = some_in other slot.1

-- ---- the rule at the start

not_there : (v : View) (j : ℕ) (u : View) → j ≢ 0 → get_elem? (v ∷ []) j ≡ some u → ⊥
not_there v zero u ne e = ne refl
not_there v (suc j) u ne e = some-ne-none u (sym e)

only : (P : ℕ → View → Type 0) (v : View) → P 0 v → EachSeat P (v ∷ [])
only P v mine = each_set P (v ∷ []) 0 v mine (λ j u ne e. absurd (not_there v j u ne e))

first_has : (most faults x : ℕ) → x < most → Has (first_knowledge most faults) x
first_has most faults zero below = inl (contains_here 0 [])
first_has most faults (suc x) below = inr (omega arith, below)

only_zero : (x : ℕ) → Contains (0 ∷ []) x → 0 ≡ x
only_zero x c = ⊎_elim (λ (e : 0 ≡ x). e) (λ (n : Contains [] x). absurd (contains_none x n)) (contains_cases 0 [] x c)

pub opens : {T Origin : Type 0} (account : T → Account Origin) (most : ℕ) (value : T) → (account value).history ≡ [] → 1 ≤ most
    → Kept account most value (opening (0 ∷ 0 ∷ []) (Some value ∷ []) (first_view most (account value).faults))
opens account most value empty some_number =
    let knows : Knowledge = first_knowledge most (account value).faults in
    let v : View = resting knows in
    record {
      history = [];
      sized = refl;
      counted = refl;
      seen = record { place = 0; view = v; at = refl; same = refl };
      owner = λ _. 0;
      owned = λ x below. record { view = v; at = refl; live = refl; has = first_has most (account value).faults x below };
      numbered = All-nil (λ e. e.seat < most);
      fits = only (Fits most [] (λ _. 0)) v record {
        sees = continues_same (numbers knows) [] [] refl;
        owns = λ x c. let e = only_zero x c in (omega arith, refl);
        gives = λ x m. (m.1, refl, (λ c. let e = only_zero x c in let low = m.0 in omega arith), All-nil (λ e. e.seat ≢ x));
        told = tt;
        spent = λ e. absurd cc;
      };
      turn = inl record {
        free = refl;
        idle = only (λ _ u. IsIdle u) v (resting_is_idle knows);
        value = value;
        here = refl;
        origin = refl;
        stands = empty;
        faults = only (λ _ u. u.knows.faults ≤ (account value).faults) v (le_refl (account value).faults);
      };
    }

-- ---- the steps

module _ {T Origin : Type 0} (account : T → Account Origin) (most : ℕ) (first : T) where
  abbrev pub St : Type 0
  St = State (Option T) View

  abbrev pub Rule : St → Type 0
  Rule = Kept account most first

  abbrev pub Lies : List Entry → St → Type 0
  Lies h s = AtHome account first h s ⊎ Taken h s

  holder : (s : St) (id : ℕ) (knows : Knowledge) (held : Held) (k : Rule s) → get_elem? s.views id ≡ some (holding knows held) → Holder k.history s id held
  holder s id knows held k at =
      ⊎_elim (λ (a : AtHome account first k.history s). absurd (a.idle id (holding knows held) at held refl))
      (λ (t : Taken k.history s). dite (ℕ_discrete id t.place) (λ here. holder_same k.history s id knows held at t here)
      (λ ne. absurd (t.alone id (holding knows held) at ne held refl))) k.turn

  -- a step that changes nothing
  unmoved : (s : St) (i id : ℕ) (v : View) (c : List (ℕ × Option T)) → Rule s → get_elem? s.views id ≡ some v → Rule (stepped s i (get_or s.words i 0) id c v keeps)
  unmoved s i id v c k at =
      subst (λ (x : List ℕ × List View). Rule record { words = x.0; homes = s.homes; views = x.1 }) (λ j. (sym (set-get_or s.words i 0) j, sym (set_again s.views id v at) j)) k

  took : (s : St) (id : ℕ) (knows : Knowledge) (k : Rule s) (a : AtHome account first k.history s) → get_elem? s.views id ≡ some (resting knows)
      → Rule (stepped s 0 1 id [] (holding knows (held_of account a.value)) (takes 0 (Some a.value)))
  took s id knows k a at =
      let sized = k.sized in
      let v : View = resting knows in
      let held : Held = held_of account a.value in
      let w : View = holding knows held in
      record {
        history = k.history;
        sized = length-set s.words 0 1 ∙ sized;
        counted = get_or-set_other s.words 0 1 1 0 (λ e. omega arith) ∙ k.counted;
        seen = seen_set s.views id v w k.history at (λ e. e) k.seen;
        owner = k.owner;
        owned = λ x below. owned_set s.views id v w (k.owner x) x at refl (λ _ has. has) (k.owned x below);
        numbered = k.numbered;
        fits = each_set (Fits most k.history k.owner) s.views id w (fits_still most k.history k.owner id knows (Holding held) refl tt (k.fits id v at)) (λ j u _ e. k.fits j u e);
        turn = inr record {
          busy = get_or-set_same s.words 0 1 0 (omega arith);
          place = id;
          knows = knows;
          held = held;
          at = set_at s.views id v w at;
          alone = each_set (λ j u. j ≢ id → IsIdle u) s.views id w (λ ne. absurd (ne refl)) (λ j u _ e _. a.idle j u e);
          stands = a.stands;
          faults = each_set (λ _ u. u.knows.faults ≤ held.faults) s.views id w (a.faults id v at) (λ j u _ e. a.faults j u e);
        };
      }

  at_home : (s : St) (k : Rule s) → get_or s.words 0 0 ≡ 0 → AtHome account first k.history s
  at_home s k is_free =
      ⊎_elim (λ (a : AtHome account first k.history s). a) (λ (t : Taken k.history s). let busy = t.busy in absurd (omega arith)) k.turn

  pub tries : (slots id : ℕ) (knows : Knowledge) (is_from : T → Type 0) → ((y : T) → IsFrom account first y → is_from y)
      → Allows Rule slots id (resting knows, []) 0 (λ n. either (n == 0) 1 n) (Tries account is_from (step slots 0 0 1 none) (resting knows, []))
  tries slots id knows is_from source s k sized at small =
      let v : View = resting knows in
      let F : ℕ → Type 0 = λ n. (w : View) × (a : Act (Option T)) × Valid s.homes [] a × Rule (stepped s 0 n id [] w a) × Tries account is_from (step slots 0 0 1 none) (v, []) (get_or s.words 0 0) (w, carried_after [] a) in
      exchanged (get_or s.words 0 0) 0 1 F
      (λ is_free. let a = at_home s k is_free in (
        holding knows (held_of account a.value),
        takes 0 (Some a.value),
        a.here,
        took s id knows k a at,
        (
          (λ _. record {
            value = a.value;
            me = refl;
            from = source a.value a.origin;
            sees = subst (λ (h : List Entry). SeesOwn knows h) (sym a.stands) (k.fits id v at).sees;
            faults = a.faults id v at;
          }),
          (λ n. absurd (n is_free)),
        ),
      ))
      (λ is_busy. (v, keeps, tt, unmoved s 0 id v [] k at, ((λ z. absurd (is_busy z)), (λ _. refl))))

  -- the seat that records an entry has seen the history with it
  records_mine : (h : List Entry) (owner : ℕ → ℕ) (id : ℕ) (knows : Knowledge) (held : Held) (e : Entry) → e.seat ≡ knows.number
      → Fits most h owner id (holding knows held) → Fits most (h ++ e ∷ []) owner id (recorded knows record held { history = h } e)
  records_mine h owner id knows held e same f =
      let own : Contains (numbers knows) e.seat = subst (Contains (numbers knows)) (sym same) (contains_here knows.number knows.taken) in
      record {
        sees = continues_same (numbers knows) (h ++ e ∷ []) (h ++ e ∷ []) refl;
        owns = f.owns;
        gives = λ x m. let r = f.gives x m in (r.0, r.1, r.2, All-push (λ a. a.seat ≢ x) h e r.3 (λ is. r.2 (subst (Contains (numbers knows)) is own)));
        told = tt;
        spent = λ t. absurd cc;
      }

  -- and each other has seen what it had seen, without an entry of its own that is new
  records_other : (h : List Entry) (owner : ℕ → ℕ) (id j : ℕ) (u : View) (e : Entry) → owner e.seat ≡ id → j ≢ id → Fits most h owner j u → Fits most (h ++ e ∷ []) owner j u
  records_other h owner id j u e mine ne f = record {
    sees = continues_more (live_numbers u) u.knows.seen h e (λ has. ne (sym (f.owns e.seat has).1 ∙ mine)) f.sees;
    owns = f.owns;
    gives = λ x m. let r = f.gives x m in (r.0, r.1, r.2, All-push (λ a. a.seat ≢ x) h e r.3 (λ is. ne (sym r.1 ∙ (ap owner (sym is) ∙ mine))));
    told = f.told;
    spent = f.spent;
  }

  pub records : (slots id : ℕ) (knows : Knowledge) (held : Held) (c : List (ℕ × Option T)) (e : Entry) → e.seat ≡ knows.number → length held.history + 1 < 2 ^ 64
      → Allows Rule slots id (holding knows held, c) 1 (λ n. (n + 1) % 2 ^ 64) (Records e (step slots 1 1 0 none) (holding knows held, c))
  records slots id knows held c e same room s k homes at small =
      let sized = k.sized in
      let v : View = holding knows held in
      let w : View = recorded knows held e in
      let h : List Entry = held.history in
      let h' : List Entry = h ++ e ∷ [] in
      let t = holder s id knows held k at in
      let n : ℕ = (get_or s.words 1 0 + 1) % 2 ^ 64 in
      let fits : EachSeat (Fits most h k.owner) s.views = subst (λ (l : List Entry). EachSeat (Fits most l k.owner) s.views) (sym t.stands) k.fits in
      let f = fits id v at in
      let mine = f.owns e.seat (subst (Contains (numbers knows)) (sym same) (contains_here knows.number knows.taken)) in
      let long : get_or s.words 1 0 ≡ length h = k.counted ∙ ap length (sym t.stands) in
      let count : n ≡ length h' = ap (λ (m : ℕ). (m + 1) % 2 ^ 64) long ∙ (mod-eq_of_lt room ∙ sym (length-append h (e ∷ []))) in (
        w,
        keeps,
        tt,
        record {
          history = h';
          sized = length-set s.words 1 n ∙ sized;
          counted = get_or-set_same s.words 1 n 0 (omega arith) ∙ count;
          seen = record { place = id; view = w; at = set_at s.views id v w at; same = refl };
          owner = k.owner;
          owned = λ x below. owned_set s.views id v w (k.owner x) x at refl (λ _ has. has) (k.owned x below);
          numbered = All-push (λ a. a.seat < most) h e (subst (All (λ a. a.seat < most)) (sym t.stands) k.numbered) mine.0;
          fits = each_set (Fits most h' k.owner) s.views id w (records_mine h k.owner id knows held e same f) (λ j u ne a. records_other h k.owner id j u e mine.1 ne (fits j u a));
          turn = inr record {
            busy = get_or-set_other s.words 1 0 n 0 (λ x. omega arith) ∙ t.busy;
            place = id;
            knows = record knows { seen = h' };
            held = record held { history = h' };
            at = set_at s.views id v w at;
            alone = each_set (λ j u. j ≢ id → IsIdle u) s.views id w (λ ne. absurd (ne refl)) (λ j u _ a. t.alone j u a);
            stands = refl;
            faults = each_set (λ _ u. u.knows.faults ≤ held.faults) s.views id w (t.faults id v at) (λ j u _ a. t.faults j u a);
          };
        },
        told_of (step slots 1 1 0 none) knows held e c (get_or s.words 1 0),
      )

  -- what a seat is told that frees the turn
  freed_of : (st : Step (Option T)) (knows : Knowledge) (held : Held) (y : T) (found : ℕ)
      → Frees account st (holding knows held, (0, Some y) ∷ []) found (resting (turned knows held.history (account y).faults held.faults), [])
  freed_of st knows held y found k h z is =
      let same_knows : knows ≡ k = ap (λ (m : Me (Option T) View). m.0.knows) is in
      let same_held : held ≡ h = ap (λ (m : Me (Option T) View). held_in held m.0.doing) is in
      let same_value : y ≡ z = ap (λ (m : Me (Option T) View). value_in y m.1) is in
      λ i. (resting (turned (same_knows i) (same_held i).history (account (same_value i)).faults (same_held i).faults), [])

  pub frees : (slots id : ℕ) (knows : Knowledge) (held : Held) (y : T) → 0 < slots → IsFrom account first y → (account y).history ≡ held.history → held.faults ≤ (account y).faults
      → Allows Rule slots id (holding knows held, (0, Some y) ∷ []) 0 (λ _. 0) (λ _. Frees account (step slots 0 0 0 none) (holding knows held, (0, Some y) ∷ []) 0)
  frees slots id knows held y some_slot from same later s k homes at small =
      let sized = k.sized in
      let v : View = holding knows held in
      let h : List Entry = held.history in
      let after : Knowledge = turned knows h (account y).faults held.faults in
      let w : View = resting after in
      let t = holder s id knows held k at in
      let f = k.fits id v at in (
        w,
        gives,
        tt,
        record {
          history = k.history;
          sized = length-set s.words 0 0 ∙ sized;
          counted = get_or-set_other s.words 0 1 0 0 (λ e. omega arith) ∙ k.counted;
          seen = record { place = id; view = w; at = set_at s.views id v w at; same = t.stands };
          owner = k.owner;
          owned = λ x below. owned_set s.views id v w (k.owner x) x at refl (λ _ has. has) (k.owned x below);
          numbered = k.numbered;
          fits = each_set (Fits most k.history k.owner) s.views id w record {
            sees = continues_same (numbers knows) h k.history t.stands;
            owns = f.owns;
            gives = f.gives;
            told = tt;
            spent = λ e. absurd cc;
          } (λ j u _ a. k.fits j u a);
          turn = inl record {
            free = get_or-set_same s.words 0 0 0 (omega arith);
            idle = each_set (λ _ u. IsIdle u) s.views id w (resting_is_idle after) (λ j u ne a. t.alone j u a ne);
            value = y;
            here = set_here s.homes 0 (some (Some y)) (omega arith);
            origin = from;
            stands = same ∙ t.stands;
            faults = each_set (λ _ u. u.knows.faults ≤ (account y).faults) s.views id w (le_refl (account y).faults) (λ j u _ a. le_trans (t.faults j u a) later);
          };
        },
        freed_of (step slots 0 0 0 none) knows held y 0,
      )

  -- ---- closing

  -- a seat that has every number finds the value at home
  nobody_else : (s : St) (id : ℕ) (knows : Knowledge) (k : Rule s) → get_elem? s.views id ≡ some (resting knows) → HasAll most knows → AtHome account first k.history s
  nobody_else s id knows k at all =
      ⊎_elim (λ (a : AtHome account first k.history s). a)
      (λ (t : Taken k.history s).
      let view : View = holding t.knows t.held in
      let number : ℕ = t.knows.number in
      let own = (k.fits t.place view t.at).owns number (contains_here number t.knows.taken) in
      let f = k.fits id (resting knows) at in
      let here : k.owner number ≡ id = ⊎_elim (λ (c : Contains (numbers knows) number). (f.owns number c).1) (λ (m : MayGive knows number). (f.gives number m).1) (all number own.0) in
      let same : view ≡ resting knows = same_view s.views id view (resting knows) (subst (λ (p : ℕ). get_elem? s.views p ≡ some view) (sym own.1 ∙ here) t.at) at in
      absurd (resting_is_idle knows t.held (ap (λ (u : View). u.doing) (sym same)))) k.turn

  -- and has seen the whole history
  sees_all : (h : List Entry) (owner : ℕ → ℕ) (id : ℕ) (knows : Knowledge) → Fits most h owner id (resting knows) → All (λ e. e.seat < most) h → HasAll most knows → h ≡ knows.seen
  sees_all h owner id knows f numbered all =
      let rest : List Entry = f.sees.others in
      let below : All (λ e. e.seat < most) rest = all_right (λ e. e.seat < most) knows.seen rest (subst (All (λ e. e.seat < most)) f.sees.history numbered) in
      let not_given : All (λ e. ¬ (MayGive knows e.seat)) h = λ i d short m. (f.gives _ m).3 i d short refl in
      let free : All (λ e. ¬ (MayGive knows e.seat)) rest = all_right (λ e. ¬ (MayGive knows e.seat)) knows.seen rest (subst (All (λ e. ¬ (MayGive knows e.seat))) f.sees.history not_given) in
      let none_left : rest ≡ [] = all_empty (λ e. (e.seat < most) × ((¬ (Contains (numbers knows) e.seat)) × (¬ (MayGive knows e.seat)))) rest
      (λ e p. ⊎_elim (λ (c : Contains (numbers knows) e.seat). p.1.0 c) (λ (m : MayGive knows e.seat). p.1.1 m) (all e.seat p.0))
      (all_both (λ e. e.seat < most) (λ e. (¬ (Contains (numbers knows) e.seat)) × (¬ (MayGive knows e.seat))) rest below
      (all_both (λ e. ¬ (Contains (numbers knows) e.seat)) (λ e. ¬ (MayGive knows e.seat)) rest f.sees.apart free)) in
      f.sees.history ∙ (ap (λ (l : List Entry). knows.seen ++ l) none_left ∙ append-nil knows.seen)

-- a seat that has every number gets the value by closing the turn
closes : {T Origin : Type 0} (account : T → Account Origin) (turn : TurnState T) (id : ℕ) (knows : Knowledge) (ws : List ℕ) (xs : List (Option T))
    → HasAll turn.most knows → Final (Seen (Kept account turn.most turn.first) id (resting knows)) ws xs → (y : T) × (get_elem? xs 0 ≡ some (Some y)) × Closes account turn knows y
closes account turn id knows ws xs all end =
    let s = end.0 in
    let k = end.1.0 in
    let at = end.1.1 in
    let a = nobody_else account turn.most turn.first s id knows k at all in (
      a.value,
      end.4 0 (Some a.value) a.here,
      record {
        origin = a.origin;
        history = a.stands ∙ sees_all account turn.most turn.first k.history k.owner id knows (k.fits id (resting knows) at) k.numbered all;
        numbered = subst (All (λ e. e.seat < turn.most)) (sym a.stands) k.numbered;
        faults = a.faults id (resting knows) at;
      },
    )

-- the same of a turn and a seat as contracts see them
pub closes_by : {T Origin : Type 0} (account : T → Account Origin) (most : ℕ) (first : T) (id : ℕ) (me : Me (Option T) View) (ws : List ℕ) (xs : List (Option T)) (turn : TurnState T) (seat : SeatState)
    → most ≡ turn.most → first ≡ turn.first → me.0.knows ≡ seat.knows → HasAll turn.most seat.knows → me ≡ (resting me.0.knows, []) → Final (Seen (Kept account most first) id me.0) ws xs
    → (y : T) × (get_elem? xs 0 ≡ some (Some y)) × Closes account turn seat.knows y
closes_by {T} account most first id me ws xs turn seat same_most same_first same_knows all rests end =
    let view : me.0 ≡ resting seat.knows = ap (λ (m : Me (Option T) View). m.0) rests ∙ ap resting same_knows in
    closes account turn id seat.knows ws xs all
    (subst (λ (p : ℕ × T × View). Final (Seen (Kept account p.0 p.1) id p.2) ws xs) (λ i. (same_most i, same_first i, view i)) end)
