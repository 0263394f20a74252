-- The rule of the turn, which holds between any two steps.
use Rattle.std.specs.Prelude.{◌≡◌, ◌≢◌, ◌⊎◌, ℕ, ◌<◌, ◌≤◌, true, List, length, slice_index, Option, Some}
use Rattle.std.specs.List.{All, Contains}
use mathlib.Core.Option.{some}
use lib.ListN.{get_elem?}
use Rattle.atomic_table.specs.Table.{State}
use Rattle.vr_base.specs.declared.calls.Entry.{Entry}
use Rattle.vr_turn.specs.Accounts.{Account, Continues}
use Rattle.vr_turn.specs.Seats.{numbers, live_numbers, MayGive, Has, nothing, is_live}
use Rattle.vr_turn.specs.declared.views.Doing.{Doing}
use Rattle.vr_turn.specs.declared.views.Doing.TheVariants.{Holding, Joining, Spent}
use Rattle.vr_turn.specs.declared.views.Held.{Held}
use Rattle.vr_turn.specs.declared.views.Knowledge.{Knowledge}
use Rattle.vr_turn.specs.declared.views.View.{View}

-- no entry of the history has this number
abbrev pub HasNone : ℕ → List Entry → Type 0
HasNone number history = All (λ entry. entry.seat ≢ number) history

-- of the entries with its numbers, a seat has seen those that stand in the history
abbrev pub SeesOwn : Knowledge → List Entry → Type 0
SeesOwn knows history = Continues (numbers knows) knows.seen history

-- what is left to be told: of two seats that were joined, each had seen the entries that have its
-- numbers, in the history that is left
abbrev pub IsTold : List Entry → Doing → Type 0
IsTold history (Joining parts) = SeesOwn parts.this history × SeesOwn parts.other history
IsTold history _ = Unit {0}

-- What holds of the seat at a place. The owner of a number is the place of the seat that has it.
pub record Fits (most : ℕ) (history : List Entry) (owner : ℕ → ℕ) (place : ℕ) (view : View)
    : Type 0 where
  -- it has seen a beginning of the history, with all entries that have its numbers
  pub sees : Continues (live_numbers view) view.knows.seen history
  -- its own number and those that it took in are its
  pub owns : (x : ℕ) → Contains (live_numbers view) x → (x < most) × (owner x ≡ place)
  -- so are those that it may still give, which are others, and which no entry has
  pub gives : (x : ℕ) → MayGive view.knows x
      → (x < most) × (owner x ≡ place) × ¬ (Contains (live_numbers view) x) × HasNone x history
  -- what is left to be told is so
  pub told : IsTold view.knows.seen view.doing
  -- a spent seat knows nothing
  pub spent : view.doing ≡ Spent → view.knows ≡ nothing

-- each seat, with its place, meets a fact
abbrev pub EachSeat : (ℕ → View → Type 0) → List View → Type 0
EachSeat P views =
    (place : ℕ) (view : View) → get_elem? views place ≡ some view → P place view

-- the seat doesn't hold the turn
abbrev pub IsIdle : View → Type 0
IsIdle view = (held : Held) → view.doing ≢ Holding held

-- The number belongs to the seat at its owner's place.
pub record IsOwned (views : List View) (place number : ℕ) : Type 0 where
  pub view : View
  pub at : get_elem? views place ≡ some view
  pub live : is_live view.doing ≡ true
  pub has : Has view.knows number

-- Some seat has seen this history.
pub record IsSeen (views : List View) (history : List Entry) : Type 0 where
  pub place : ℕ
  pub view : View
  pub at : get_elem? views place ≡ some view
  pub same : view.knows.seen ≡ history

module _ {T Origin : Type 0} (account : T → Account Origin) (first : T) where
  -- No seat holds the turn. The value is at home, has the origin of the first one, and stands for
  -- the history, and no seat has seen a greater count of faults than its.
  pub record AtHome (history : List Entry) (s : State (Option T) View) : Type 0 where
    pub free : slice_index s.words 0 ≡ 0
    pub idle : EachSeat (λ _ view. IsIdle view) s.views
    pub value : T
    pub here : get_elem? s.homes 0 ≡ some (some (Some value))
    pub origin : (account value).origin ≡ (account first).origin
    pub stands : (account value).history ≡ history
    pub faults : EachSeat (λ _ view. view.knows.faults ≤ (account value).faults) s.views

-- Just one seat holds the turn. It holds the history, and no seat has seen a greater count of
-- faults than the one that it holds.
pub record Taken {S : Type 0} (history : List Entry) (s : State S View) : Type 0 where
  pub busy : slice_index s.words 0 ≡ 1
  pub place : ℕ
  pub knows : Knowledge
  pub held : Held
  pub at : get_elem? s.views place ≡ some record { knows = knows; doing = Holding held }
  pub alone : EachSeat (λ other view. other ≢ place → IsIdle view) s.views
  pub stands : held.history ≡ history
  pub faults : EachSeat (λ _ view. view.knows.faults ≤ held.faults) s.views

module _ {T Origin : Type 0} (account : T → Account Origin) (most : ℕ) (first : T) where
  -- The rule. There is one history of all calls, which some seat has seen whole.
  pub record Kept (s : State (Option T) View) : Type 0 where
    pub history : List Entry
    pub sized : length s.words ≡ 2
    pub counted : slice_index s.words 1 ≡ length history
    pub seen : IsSeen s.views history
    -- each number below `most` belongs to just one live seat, and each entry has such a number
    pub owner : ℕ → ℕ
    pub owned : (x : ℕ) → x < most → IsOwned s.views (owner x) x
    pub numbered : All (λ entry. entry.seat < most) history
    pub fits : EachSeat (Fits most history owner) s.views
    -- the value is at home, or one seat has it
    pub turn : AtHome account first history s ⊎ Taken history s
