-- Seats that are split and joined keep the rule of the turn.
use Rattle.std.proofs.Common.{◌≡◌, ◌≢◌, ℕ, ◌==◌, ◌<◌, ◌≤◌, ◌⊎◌, inl, inr, ⊎_elim, Bool, true, false, cond, max, List, [], ◌∷◌, ◌++◌, length, get_or, set, sym, refl, ap, ◌∙◌, subst, arith, ltb, ltb-true, ltb-false, eq-eqb, ne_eqb, Option, le_refl, length-append}
use Rattle.std.proofs.lemmas.List.{append-nil}
use Rattle.std.specs.List.{Contains}
use mathlib.Core.Option.{some, none}
use mathlib.Core.Logic.{dite}
use native.Mathlib.Decide.{ℕ_discrete}
use lib.ListN.{get_elem?}
use lib.Seq.{set-get_or}
use Rattle.atomic_table.specs.Table.{State, keeps, step, Allows, Splits, Joins}
use Rattle.atomic_table.proofs.Lists.{set_else, at_last, at_longer}
use Rattle.vr_base.specs.declared.calls.Entry.{Entry}
use Rattle.vr_turn.specs.Accounts.{Account, Continues}
use Rattle.vr_turn.specs.Plays.{Looks}
use Rattle.vr_turn.specs.Rule.{HasNone, IsTold, SeesOwn, Fits, EachSeat, IsIdle, IsOwned, IsSeen, AtHome, Taken, Kept}
use Rattle.vr_turn.specs.Seats.{numbers, MayGive, Has, gave, given, longer, joined, resting, holding, joining, spent_view}
use Rattle.vr_turn.specs.declared.views.Doing.{Doing}
use Rattle.vr_turn.specs.declared.views.Doing.TheVariants.{Joining}
use Rattle.vr_turn.specs.declared.views.Joined.{Joined}
use Rattle.vr_turn.specs.declared.views.Knowledge.{Knowledge}
use Rattle.vr_turn.specs.declared.views.View.{View}
use Rattle.vr_turn.proofs.Histories.{all_right, contains_here, contains_none, contains_cases, continues_none, continues_apart, continues_between}
use Rattle.vr_turn.proofs.Places.{set_at, same_view, each_set, each_more, each_two, owned_set, owned_more, seen_set, seen_more}
use Rattle.vr_turn.proofs.Numbers.{from_both, this_has, other_has}
use Rattle.vr_turn.proofs.Keeping.{resting_is_idle, fits_at_rest}

-- ---- what two joined seats have seen

-- What the seat that is left has seen, of what both had seen.
record SeesBoth (this other : Knowledge) (h : List Entry) (seen : List Entry) : Type 0 where
  pub this_sees : SeesOwn this seen
  pub other_sees : SeesOwn other seen
  pub sees : Continues (numbers (joined this other)) seen h

-- no entry has a number that may be given
abbrev GivesNone : Knowledge → List Entry → Type 0
GivesNone knows h = (x : ℕ) → MayGive knows x → HasNone x h

-- a beginning that is no shorter than the two
sees_both : (this other : Knowledge) (h seen rest : List Entry) → h ≡ seen ++ rest → length this.seen ≤ length seen → length other.seen ≤ length seen
    → SeesOwn this h → SeesOwn other h → GivesNone other h → SeesBoth this other h seen
sees_both this other h seen rest ends long long' mine theirs none_given =
    let a = continues_between (numbers this) this.seen seen h rest mine ends long in
    let b = continues_between (numbers other) other.seen seen h rest theirs ends long' in
    record {
      this_sees = a.0;
      other_sees = b.0;
      sees = record {
        others = rest;
        apart = λ k d below c.
            let x : ℕ = (get_or rest k d).seat in
            ⊎_elim (λ (own : Contains (numbers this) x). a.1 k d below own)
            (λ (more : Contains (numbers other) x ⊎ MayGive other x).
            ⊎_elim (λ (own : Contains (numbers other) x). b.1 k d below own) (λ (m : MayGive other x). all_right (λ e. e.seat ≢ x) seen rest (subst (HasNone x) ends (none_given x m)) k d below refl) more)
            (from_both this other x c);
        history = ends;
      };
    }

-- the longer of the two is one
longer_sees : (this other : Knowledge) (h : List Entry) → SeesOwn this h → SeesOwn other h → GivesNone other h
    → (t : Bool) → ltb (length this.seen) (length other.seen) ≡ t → SeesBoth this other h (cond t other.seen this.seen)
longer_sees this other h mine theirs none_given true is =
    let below = ltb-true (length this.seen) (length other.seen) is in
    sees_both this other h other.seen theirs.others theirs.history (omega arith) (le_refl (length other.seen)) mine theirs none_given
longer_sees this other h mine theirs none_given false is =
    sees_both this other h this.seen mine.others mine.history (le_refl (length this.seen)) (ltb-false (length this.seen) (length other.seen) is) mine theirs none_given

joined_sees : (this other : Knowledge) (h : List Entry) → SeesOwn this h → SeesOwn other h → GivesNone other h → SeesBoth this other h (longer this.seen other.seen)
joined_sees this other h mine theirs none_given = longer_sees this other h mine theirs none_given (ltb (length this.seen) (length other.seen)) refl

no_more : (a h rest : List Entry) → h ≡ a ++ rest → length h ≤ length a → a ≡ h
no_more a h [] is long = sym (is ∙ append-nil a)
no_more a h (e ∷ rest) is long = absurd (omega (arith, ap length is, length-append a (e ∷ rest)))

-- a beginning that is as long as the whole is the whole
pub is_whole : (ns : List ℕ) (a h : List Entry) → Continues ns a h → length h ≤ length a → a ≡ h
is_whole ns a h c long = no_more a h c.others c.history long

-- where the history is seen that the first of two seats has
left_seen : (h : List Entry) (vs : List View) (id other : ℕ) (both : View) → get_elem? vs id ≡ some both → id ≢ other → both.knows.seen ≡ h → IsSeen (set vs other spent_view) h
left_seen h vs id other both at apart same = record { place = id; view = both; at = set_else vs other id spent_view apart ∙ at; same = same }

max_le : (a b n : ℕ) → a ≤ n → b ≤ n → max a b ≤ n
max_le a b n low low' = omega (arith, low, low')

joining_is_idle : (this other : View) → IsIdle (joining this other)
joining_is_idle this other held e = cc

spent_is_idle : IsIdle spent_view
spent_is_idle held e = cc

-- ---- the steps

module _ {T Origin : Type 0} (account : T → Account Origin) (most : ℕ) (first : T) where
  abbrev St : Type 0
  St = State (Option T) View

  abbrev Rule : St → Type 0
  Rule = Kept account most first

  abbrev Lies : List Entry → St → Type 0
  Lies h s = AtHome account first h s ⊎ Taken h s

  abbrev NoMore : ℕ → List View → Type 0
  NoMore n vs = EachSeat (λ _ u. u.knows.faults ≤ n) vs

  -- the value is where it was, where a seat that doesn't hold the turn changes to one that doesn't
  turn_set : (h : List Entry) (ws : List ℕ) (hs : List (mathlib.Core.Option.Option (Option T))) (vs : List View) (id : ℕ) (v w : View) → get_elem? vs id ≡ some v → IsIdle v → IsIdle w
      → ((n : ℕ) → NoMore n vs → w.knows.faults ≤ n) → Lies h record { words = ws; homes = hs; views = vs } → Lies h record { words = ws; homes = hs; views = set vs id w }
  turn_set h ws hs vs id v w at idle idle' low lies =
      let s : St = record { words = ws; homes = hs; views = vs } in
      ⊎_elim (λ (a : AtHome account first h s). inl record {
        free = a.free;
        idle = each_set (λ _ u. IsIdle u) vs id w idle' (λ j u _ e. a.idle j u e);
        value = a.value;
        here = a.here;
        origin = a.origin;
        stands = a.stands;
        faults = each_set (λ _ u. u.knows.faults ≤ (account a.value).faults) vs id w (low (account a.value).faults a.faults) (λ j u _ e. a.faults j u e);
      })
      (λ (t : Taken h s).
      let view : View = holding t.knows t.held in
      let ne : t.place ≢ id = λ here. idle t.held (ap (λ (u : View). u.doing) (same_view vs id v view at (subst (λ (p : ℕ). get_elem? vs p ≡ some view) here t.at))) in
      inr record {
        busy = t.busy;
        place = t.place;
        knows = t.knows;
        held = t.held;
        at = set_else vs id t.place w ne ∙ t.at;
        alone = each_set (λ j u. j ≢ t.place → IsIdle u) vs id w (λ _. idle') (λ j u _ e. t.alone j u e);
        stands = t.stands;
        faults = each_set (λ _ u. u.knows.faults ≤ t.held.faults) vs id w (low t.held.faults t.faults) (λ j u _ e. t.faults j u e);
      }) lies

  -- and where such a seat comes
  turn_more : (h : List Entry) (ws : List ℕ) (hs : List (mathlib.Core.Option.Option (Option T))) (vs : List View) (r : View) → IsIdle r
      → ((n : ℕ) → NoMore n vs → r.knows.faults ≤ n) → Lies h record { words = ws; homes = hs; views = vs } → Lies h record { words = ws; homes = hs; views = vs ++ r ∷ [] }
  turn_more h ws hs vs r idle low lies =
      let s : St = record { words = ws; homes = hs; views = vs } in
      ⊎_elim (λ (a : AtHome account first h s). inl record {
        free = a.free;
        idle = each_more (λ _ u. IsIdle u) vs r idle a.idle;
        value = a.value;
        here = a.here;
        origin = a.origin;
        stands = a.stands;
        faults = each_more (λ _ u. u.knows.faults ≤ (account a.value).faults) vs r (low (account a.value).faults a.faults) a.faults;
      })
      (λ (t : Taken h s). inr record {
        busy = t.busy;
        place = t.place;
        knows = t.knows;
        held = t.held;
        at = at_longer vs (r ∷ []) t.place (holding t.knows t.held) t.at;
        alone = each_more (λ j u. j ≢ t.place → IsIdle u) vs r (λ _. idle) t.alone;
        stands = t.stands;
        faults = each_more (λ _ u. u.knows.faults ≤ t.held.faults) vs r (low t.held.faults t.faults) t.faults;
      }) lies

  -- ---- splitting

  left_fits : (h : List Entry) (owner owner' : ℕ → ℕ) (id : ℕ) (knows : Knowledge) → MayGive knows knows.next → ((x : ℕ) → x ≢ knows.next → owner' x ≡ owner x)
      → Fits most h owner id (resting knows) → Fits most h owner' id (resting (gave knows))
  left_fits h owner owner' id knows next there f = record {
    sees = f.sees;
    owns = λ x c. let o = f.owns x c in (o.0, there x (λ e. (f.gives knows.next next).2 (subst (Contains (numbers knows)) e c)) ∙ o.1);
    gives = λ x m. let o = f.gives x (omega (arith, m.0), m.1) in (o.0, there x (λ e. omega (arith, m.0)) ∙ o.1, o.2, o.3);
    told = tt;
    spent = λ e. absurd cc;
  }

  right_fits : (h : List Entry) (owner owner' : ℕ → ℕ) (id n : ℕ) (knows : Knowledge) → MayGive knows knows.next → ((x : ℕ) → x ≡ knows.next → owner' x ≡ n)
      → Fits most h owner id (resting knows) → Fits most h owner' n (resting (given knows))
  right_fits h owner owner' id n knows next here f =
      let g = f.gives knows.next next in
      record {
        sees = continues_apart (numbers knows) knows.next knows.seen h g.3 f.sees;
        owns = λ x c.
            let e : knows.next ≡ x = ⊎_elim (λ (e : knows.next ≡ x). e) (λ (c' : Contains [] x). absurd (contains_none x c')) (contains_cases knows.next [] x c) in
            (subst (λ (y : ℕ). y < most) e g.0, here x (sym e));
        gives = λ x m. absurd (omega (arith, m.1));
        told = tt;
        spent = λ e. absurd cc;
      }

  -- where the owner of each of its numbers stays, a seat fits as before
  stays : (h : List Entry) (owner owner' : ℕ → ℕ) (j : ℕ) (u : View) → ((x : ℕ) → owner x ≡ j → owner' x ≡ j) → Fits most h owner j u → Fits most h owner' j u
  stays h owner owner' j u same f = record {
    sees = f.sees;
    owns = λ x c. let o = f.owns x c in (o.0, same x o.1);
    gives = λ x m. let o = f.gives x m in (o.0, same x o.1, o.2, o.3);
    told = f.told;
    spent = f.spent;
  }

  still_has : (knows : Knowledge) (x : ℕ) → x ≢ knows.next → Has knows x → Has (gave knows) x
  still_has knows x ne has =
      ⊎_elim (λ (c : Contains (numbers knows) x). inl c) (λ (m : MayGive knows x). inr (omega (arith, m.0), m.1)) has

  pub splits : (id : ℕ) (knows : Knowledge) → knows.next < knows.end → Splits Rule id (resting knows) (resting (gave knows)) (resting (given knows))
  splits id knows room s k at =
      let v : View = resting knows in
      let l : View = resting (gave knows) in
      let r : View = resting (given knows) in
      let vs : List View = set s.views id l in
      let n : ℕ = length vs in
      let owner : ℕ → ℕ = λ x. cond (x == knows.next) n (k.owner x) in
      let here : (x : ℕ) → x ≡ knows.next → owner x ≡ n = λ x e. rw (eq-eqb x knows.next e) refl in
      let there : (x : ℕ) → x ≢ knows.next → owner x ≡ k.owner x = λ x e. rw (ne_eqb x knows.next e) refl in
      let next : MayGive knows knows.next = (le_refl knows.next, room) in
      let f = k.fits id v at in
      let of_next : k.owner knows.next ≡ id = (f.gives knows.next next).1 in
      record {
        history = k.history;
        sized = k.sized;
        counted = k.counted;
        seen = seen_more vs r k.history (seen_set s.views id v l k.history at (λ e. e) k.seen);
        owner = owner;
        owned = λ x below. dite (ℕ_discrete x knows.next)
            (λ e. record { view = r; at = at_last vs r (owner x) (sym (here x e)); live = refl; has = subst (Has (given knows)) (sym e) (inl (contains_here knows.next [])) })
            (λ ne. subst (λ (p : ℕ). IsOwned (vs ++ r ∷ []) p x) (sym (there x ne)) (owned_more vs r (k.owner x) x (owned_set s.views id v l (k.owner x) x at refl (λ _ has. still_has knows x ne has) (k.owned x below))));
        numbered = k.numbered;
        fits = each_more (Fits most k.history owner) vs r (right_fits k.history k.owner owner id n knows next here f)
            (each_set (Fits most k.history owner) s.views id l (left_fits k.history k.owner owner id knows next there f)
            (λ j u ne e. stays k.history k.owner owner j u (λ x is. there x (λ e'. ne (sym is ∙ (ap k.owner e' ∙ of_next))) ∙ is) (k.fits j u e)));
        turn = turn_more k.history s.words s.homes vs r (resting_is_idle (given knows)) (λ m all. all id l (set_at s.views id v l at))
            (turn_set k.history s.words s.homes s.views id v l at (resting_is_idle knows) (resting_is_idle (gave knows)) (λ m all. all id v at) k.turn);
      }

  -- ---- joining

  -- the seat that is left has all numbers of both
  both_fit : (h : List Entry) (owner owner' : ℕ → ℕ) (id other : ℕ) (this that : Knowledge) → id ≢ other
      → ((x : ℕ) → owner x ≡ id → owner' x ≡ id) → ((x : ℕ) → owner x ≡ other → owner' x ≡ id)
      → Fits most h owner id (resting this) → Fits most h owner other (resting that) → Fits most h owner' id (joining (resting this) (resting that))
  both_fit h owner owner' id other this that apart own moved f g =
      let sees = joined_sees this that h f.sees g.sees (λ x m. (g.gives x m).3) in
      record {
        sees = sees.sees;
        owns = λ x c.
            ⊎_elim (λ (mine : Contains (numbers this) x). let o = f.owns x mine in (o.0, own x o.1))
            (λ (more : Contains (numbers that) x ⊎ MayGive that x).
            ⊎_elim (λ (theirs : Contains (numbers that) x). let o = g.owns x theirs in (o.0, moved x o.1)) (λ (m : MayGive that x). let o = g.gives x m in (o.0, moved x o.1)) more)
            (from_both this that x c);
        gives = λ x m. let o = f.gives x m in (
          o.0,
          own x o.1,
          (λ c.
              ⊎_elim (λ (mine : Contains (numbers this) x). o.2 mine)
              (λ (more : Contains (numbers that) x ⊎ MayGive that x).
              ⊎_elim (λ (theirs : Contains (numbers that) x). apart (sym o.1 ∙ (g.owns x theirs).1)) (λ (m' : MayGive that x). apart (sym o.1 ∙ (g.gives x m').1)) more)
              (from_both this that x c)),
          o.3,
        );
        told = (sees.this_sees, sees.other_sees);
        spent = λ e. absurd cc;
      }

  spent_fits : (h : List Entry) (owner : ℕ → ℕ) (place : ℕ) → Fits most h owner place spent_view
  spent_fits h owner place = record {
    sees = continues_none h;
    owns = λ x c. absurd (contains_none x c);
    gives = λ x m. absurd (omega (arith, m.1));
    told = tt;
    spent = λ _. refl;
  }

  -- what some seat has seen whole, one that takes in another has too
  joined_seen : (h : List Entry) (vs : List View) (id other : ℕ) (this that : Knowledge) → get_elem? vs id ≡ some (resting this) → get_elem? vs other ≡ some (resting that) → id ≢ other
      → SeesOwn this h → SeesOwn that h → GivesNone that h → IsSeen vs h → IsSeen (set (set vs id (joining (resting this) (resting that))) other spent_view) h
  joined_seen h vs id other this that at there apart mine theirs none_given k =
      let both : View = joining (resting this) (resting that) in
      let l : List Entry = longer this.seen that.seen in
      let sees = joined_sees this that h mine theirs none_given in
      let whole : (knows : Knowledge) → SeesOwn knows l → knows.seen ≡ h → l ≡ h = λ knows c is. is_whole (numbers (joined this that)) l h sees.sees (omega (arith, ap length is, ap length c.history, length-append knows.seen c.others)) in
      let one : IsSeen (set vs id both) h → IsSeen (set (set vs id both) other spent_view) h = λ k'.
      dite (ℕ_discrete k'.place other)
      (λ here. left_seen h (set vs id both) id other both (set_at vs id (resting this) both at) apart
      (whole that sees.other_sees (ap (λ (u : View). u.knows.seen) (same_view (set vs id both) other (resting that) k'.view (set_else vs id other both (λ e. apart (sym e)) ∙ there) (subst (λ (p : ℕ). get_elem? (set vs id both) p ≡ some k'.view) here k'.at)) ∙ k'.same)))
      (λ ne. record { place = k'.place; view = k'.view; at = set_else (set vs id both) other k'.place spent_view ne ∙ k'.at; same = k'.same }) in
      one (seen_set vs id (resting this) both h at (whole this sees.this_sees) k)

  -- a number that belonged to the other seat belongs to the one that took it in
  joined_owned : (vs : List View) (id other p x : ℕ) (this that : Knowledge) → get_elem? vs id ≡ some (resting this) → get_elem? vs other ≡ some (resting that) → id ≢ other
      → IsOwned vs p x → IsOwned (set (set vs id (joining (resting this) (resting that))) other spent_view) (cond (p == other) id p) x
  joined_owned vs id other p x this that at there apart o =
      let both : View = joining (resting this) (resting that) in
      let vs' : List View = set (set vs id both) other spent_view in
      dite (ℕ_discrete p other)
      (λ here.
      let same : o.view ≡ resting that = same_view vs other o.view (resting that) (subst (λ (k : ℕ). get_elem? vs k ≡ some o.view) here o.at) there in
      rw (eq-eqb p other here) record {
        view = both;
        at = set_else (set vs id both) other id spent_view apart ∙ set_at vs id (resting this) both at;
        live = refl;
        has = other_has this that x (subst (λ (u : View). Has u.knows x) same o.has);
      })
      (λ ne.
      let kept = owned_set vs id (resting this) both p x at refl (λ _ has. this_has this that x has) o in
      rw (ne_eqb p other ne) record { view = kept.view; at = set_else (set vs id both) other p spent_view ne ∙ kept.at; live = kept.live; has = kept.has })

  pub joins : (id : ℕ) (this : Knowledge) (other : ℕ) (that : Knowledge) → Joins Rule id (resting this) other (resting that) (joining (resting this) (resting that)) spent_view
  joins id this other that s k at ne at' =
      let v : View = resting this in
      let w : View = resting that in
      let both : View = joining v w in
      let vs : List View = set s.views id both in
      let there : get_elem? s.views other ≡ some w = sym (set_else s.views id other both ne) ∙ at' in
      let apart : id ≢ other = λ e. ne (sym e) in
      let f = k.fits id v at in
      let g = k.fits other w there in
      let owner : ℕ → ℕ = λ x. cond (k.owner x == other) id (k.owner x) in
      let moved : (x : ℕ) → k.owner x ≡ other → owner x ≡ id = λ x e. rw (eq-eqb (k.owner x) other e) refl in
      let kept : (x j : ℕ) → j ≢ other → k.owner x ≡ j → owner x ≡ j = λ x j n is. rw (ne_eqb (k.owner x) other (λ e. n (sym is ∙ e))) is in
      record {
        history = k.history;
        sized = k.sized;
        counted = k.counted;
        seen = joined_seen k.history s.views id other this that at there apart f.sees g.sees (λ x m. (g.gives x m).3) k.seen;
        owner = owner;
        owned = λ x below. joined_owned s.views id other (k.owner x) x this that at there apart (k.owned x below);
        numbered = k.numbered;
        fits = each_two (Fits most k.history owner) s.views id other both spent_view (both_fit k.history k.owner owner id other this that apart (λ x. kept x id apart) moved f g) (spent_fits k.history owner other)
            (λ j u _ nj e. stays k.history k.owner owner j u (λ x. kept x j nj) (k.fits j u e));
        turn = turn_set k.history s.words s.homes vs other w spent_view at' (resting_is_idle that) spent_is_idle (λ n _. omega arith)
            (turn_set k.history s.words s.homes s.views id v both at (resting_is_idle this) (joining_is_idle v w) (λ n all. max_le this.faults that.faults n (all id v at) (all other w there)) k.turn);
      }

  -- ---- looking

  pub looks : (slots id : ℕ) (knows : Knowledge) (parts : Joined) (c : List (ℕ × Option T))
      → let v : View = record { knows = knows; doing = Joining parts } in Allows Rule slots id (v, c) 0 (λ n. n) (Looks (step slots 0 0 0 none) (v, c))
  looks slots id knows parts c s k homes at small =
      let v : View = record { knows = knows; doing = Joining parts } in
      let w : View = resting knows in
      let f = k.fits id v at in
      let idle : IsIdle v = λ held e. absurd cc in (
        w,
        keeps,
        tt,
        subst (λ (ws : List ℕ). Rule record { words = ws; homes = s.homes; views = set s.views id w }) (sym (set-get_or s.words 0 0)) record {
          history = k.history;
          sized = k.sized;
          counted = k.counted;
          seen = seen_set s.views id v w k.history at (λ e. e) k.seen;
          owner = k.owner;
          owned = λ x below. owned_set s.views id v w (k.owner x) x at refl (λ _ has. has) (k.owned x below);
          numbered = k.numbered;
          fits = each_set (Fits most k.history k.owner) s.views id w (fits_at_rest most k.history k.owner id knows (Joining parts) refl f) (λ j u _ e. k.fits j u e);
          turn = turn_set k.history s.words s.homes s.views id v w at idle (resting_is_idle knows) (λ n all. all id v at) k.turn;
        },
        (λ parts' is. let told = subst (λ (d : Doing). IsTold knows.seen d) is f.told in (refl, told.0, told.1)),
      )
