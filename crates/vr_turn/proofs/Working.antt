-- What a seat knows from step to step while it holds the turn.
use Rattle.std.proofs.Common.{◌≡◌, ℕ, List, [], ◌∷◌, sym, ap, ◌∙◌, subst, Option, Some, None}
use Rattle.atomic_table.specs.Table.{Me}
use Rattle.vr_base.specs.declared.calls.Entry.{Entry}
use Rattle.vr_turn.specs.Accounts.{Account}
use Rattle.vr_turn.specs.Plays.{held_of, keeps, TakesValue}
use Rattle.vr_turn.specs.Seats.{holding, resting}
use Rattle.vr_turn.specs.Turns.{IsFrom, Finds}
use Rattle.vr_turn.specs.declared.views.Held.{Held}
use Rattle.vr_turn.specs.declared.views.Knowledge.{Knowledge}
use Rattle.vr_turn.specs.declared.views.View.{View}
use Rattle.vr_turn.proofs.Keeping.{value_in}

module _ {S : Type 0} where
  pub holding_own : (m : Me S View) (k : Knowledge) (h : Held) (c : List (ℕ × S)) → m ≡ (holding k h, c) → m ≡ (holding m.0.knows h, c)
  holding_own m k h c e = e ∙ ap (λ (n : Me S View). let r : Me S View = (holding n.0.knows h, c) in r) (sym e)

  pub resting_own : (m : Me S View) (k : Knowledge) → m ≡ (resting k, []) → m ≡ (resting m.0.knows, [])
  resting_own m k e = e ∙ ap (λ (n : Me S View). let r : Me S View = (resting n.0.knows, []) in r) (sym e)

module _ {T Origin : Type 0} (account : T → Account Origin) (first : T) where
  -- the value in the slot is what was found
  pub found_of : (knows : Knowledge) (me : Me (Option T) View) (found : T) → TakesValue account (IsFrom account first) knows me → me.1 ≡ (0, Some found) ∷ []
      → (me ≡ (holding knows (held_of account found), (0, Some found) ∷ [])) × Finds account first knows found
  found_of knows me found t slot =
      let same : t.value ≡ found = ap (λ (c : List (ℕ × Option T)). value_in found c) (sym (ap (λ (m : Me (Option T) View). m.1) t.me) ∙ slot) in
      subst (λ (y : T). (me ≡ (holding knows (held_of account y), (0, Some y) ∷ [])) × Finds account first knows y) same (t.me, record { origin = t.from; history = t.sees; faults = t.faults })

  -- the view while the work is done
  pub while_working : (me me' : Me (Option T) View) (knows : Knowledge) (found : T) → me ≡ (holding knows (held_of account found), (0, Some found) ∷ []) → me' ≡ (me.0, (0, None) ∷ [])
      → me'.0 ≡ holding me'.0.knows (held_of account found)
  while_working me me' knows found is took =
      let view : me'.0 ≡ holding knows (held_of account found) = ap (λ (m : Me (Option T) View). m.0) took ∙ ap (λ (m : Me (Option T) View). m.0) is in
      view ∙ ap (λ (v : View). holding v.knows (held_of account found)) (sym view)

  -- the view as the value is given back
  pub after_work : (me me' me'' me''' : Me (Option T) View) (found left : T) (seen : List Entry) → me' ≡ (me.0, (0, None) ∷ [])
      → me'' ≡ (keeps me'.0.knows (held_of account found) seen (account left).history, me'.1) → me''' ≡ (me''.0, (0, Some left) ∷ [])
      → me''' ≡ (keeps me.0.knows (held_of account found) seen (account left).history, (0, Some left) ∷ [])
  after_work me me' me'' me''' found left seen took noted gave =
      let view : me''.0 ≡ keeps me.0.knows (held_of account found) seen (account left).history =
      ap (λ (m : Me (Option T) View). m.0) noted ∙ ap (λ (m : Me (Option T) View). keeps m.0.knows (held_of account found) seen (account left).history) took in
      gave ∙ (λ i. (view i, (0, Some left) ∷ []))
