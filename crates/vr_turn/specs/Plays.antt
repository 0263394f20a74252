-- What each step tells the seat that makes it.
use Rattle.std.specs.Prelude.{◌≡◌, ◌≢◌, ℕ, ◌≤◌, List, [], ◌∷◌, ◌++◌, Option, Some}
use Rattle.atomic_table.specs.Seated.{TableId}
use Rattle.atomic_table.specs.Table.{Me, Step}
use Rattle.vr_base.specs.declared.calls.Entry.{Entry}
use Rattle.vr_turn.specs.Accounts.{Account}
use Rattle.vr_turn.specs.Rule.{SeesOwn}
use Rattle.vr_turn.specs.Seats.{resting, holding, turned}
use Rattle.vr_turn.specs.declared.views.Doing.TheVariants.{Joining}
use Rattle.vr_turn.specs.declared.views.Held.{Held}
use Rattle.vr_turn.specs.declared.views.Joined.{Joined}
use Rattle.vr_turn.specs.declared.views.Knowledge.{Knowledge}
use Rattle.vr_turn.specs.declared.views.View.{View}

module _ {T Origin : Type 0} (account : T → Account Origin) where
  -- what a seat holds that took the turn with a value
  abbrev pub held_of : T → Held
  held_of value = record { history = (account value).history; faults = (account value).faults }

  -- A seat has the turn with a value, which comes from where it should, and whose history and count
  -- of faults go on from what the seat has seen.
  pub record TakesValue (is_from : T → Type 0) (knows : Knowledge) (after : Me (Option T) View)
      : Type 0 where
    pub value : T
    pub me : after ≡ (holding knows (held_of value), (0, Some value) ∷ [])
    pub from : is_from value
    pub sees : SeesOwn knows (account value).history
    pub faults : knows.faults ≤ (account value).faults

  -- a seat that found 0 has taken the turn, and else nothing changed
  abbrev pub Tries : (T → Type 0) → Step (Option T) → Me (Option T) View → ℕ
      → Me (Option T) View → Type 0
  Tries is_from step before found after =
      (found ≡ 0 → TakesValue is_from before.0.knows after) × (found ≢ 0 → after ≡ before)

  -- the seat gave the turn back, with the value in its slot, and has seen what it held
  abbrev pub Frees : Step (Option T) → Me (Option T) View → ℕ → Me (Option T) View → Type 0
  Frees step before found after =
      (knows : Knowledge) (held : Held) (value : T)
      → before ≡ (holding knows held, (0, Some value) ∷ [])
      → after ≡ (resting (turned knows held.history (account value).faults held.faults), [])

-- a seat that holds the turn, with this history, and has seen this one
abbrev pub keeps : Knowledge → Held → List Entry → List Entry → View
keeps knows held seen history =
    holding (record knows { seen = seen }) record held { history = history }

-- a seat that holds the turn after it recorded an entry
abbrev pub recorded : Knowledge → Held → Entry → View
recorded knows held entry =
    let history = held.history ++ entry ∷ [] in
    keeps knows held history history

module _ {S : Type 0} where
  -- the seat has seen the history with the entry, and holds it
  abbrev pub Records : Entry → Step S → Me S View → ℕ → Me S View → Type 0
  Records entry step before found after =
      (knows : Knowledge) (held : Held) → before.0 ≡ holding knows held
      → after ≡ (recorded knows held entry, before.1)

  -- the seat rests, and of the two that were joined each had seen its entries in what is seen now
  abbrev pub Looks : Step S → Me S View → ℕ → Me S View → Type 0
  Looks step before found after =
      (parts : Joined) → before.0.doing ≡ Joining parts
      → (after ≡ (resting before.0.knows, before.1))
      × SeesOwn parts.this before.0.knows.seen × SeesOwn parts.other before.0.knows.seen

-- The table has two words and one slot, and the seat is one of it.
pub record IsAt (table seat : TableId) : Type 0 where
  pub same : seat ≡ table
  pub words : table.words ≡ 2
  pub slots : table.slots ≡ 1
