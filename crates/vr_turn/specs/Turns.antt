-- A turn and its seats as contracts see them, and what a turn that was taken comes to.
use Rattle.std.specs.Prelude.{◌≡◌, ℕ, ◌<◌, ◌≤◌}
use Rattle.std.specs.List.{All}
use Rattle.atomic_table.specs.Seated.{TableId}
use Rattle.vr_turn.specs.Accounts.{Account, Works}
use Rattle.vr_turn.specs.Rule.{SeesOwn}
use Rattle.vr_turn.specs.Seats.{turned, joined, Has}
use Rattle.vr_turn.specs.declared.views.Knowledge.{Knowledge}

-- Which turn it is, how many numbers its seats have together, and the value with which it was made.
pub record TurnState (T : Type 0) : Type 0 where
  pub id : TableId
  pub most : ℕ
  pub first : T

-- Which turn it is a seat of, and what it knows.
pub record SeatState : Type 0 where
  pub turn : TableId
  pub knows : Knowledge

-- a seat that has every number below `most`, so that all others were joined
abbrev pub HasAll : ℕ → Knowledge → Type 0
HasAll most knows = (number : ℕ) → number < most → Has knows number

-- Two seats were joined: in the history that is left, each had seen the entries with its numbers.
pub record IsJoined (this other new : Knowledge) : Type 0 where
  pub knows : new ≡ joined this other
  pub this_sees : SeesOwn this new.seen
  pub other_sees : SeesOwn other new.seen

module _ {T Origin : Type 0} (account : T → Account Origin) (first : T) where
  -- a value with the origin of the first one
  abbrev pub IsFrom : T → Type 0
  IsFrom value = (account value).origin ≡ (account first).origin

  -- What a seat finds in its turn: a value with the origin of the first one, whose history begins
  -- with all that the seat has seen and has no other entry with one of its numbers, and whose count
  -- of faults is no less than it has seen.
  pub record Finds (knows : Knowledge) (value : T) : Type 0 where
    pub origin : IsFrom value
    pub history : SeesOwn knows (account value).history
    pub faults : knows.faults ≤ (account value).faults

  -- A seat took the turn, did what is to be done with the value that it found, and has seen what it
  -- left.
  pub record TakesTurn (does : T → T → Type 0) (old new : Knowledge) : Type 0 where
    pub found : T
    pub left : T
    pub finds : Finds old found
    pub done : does found left
    pub works : Works account old.number found left
    pub knows : new
        ≡ turned old (account left).history (account left).faults (account found).faults

-- The value that a closed turn gives: it has the origin of the first one, and the history that the
-- seat has seen, in which each entry has a number below `most`.
pub record Closes {T Origin : Type 0} (account : T → Account Origin) (turn : TurnState T)
    (knows : Knowledge) (value : T) : Type 0 where
  pub origin : IsFrom account turn.first value
  pub history : (account value).history ≡ knows.seen
  pub numbered : All (λ entry. entry.seat < turn.most) (account value).history
  pub faults : knows.faults ≤ (account value).faults
