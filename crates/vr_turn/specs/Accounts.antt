-- What a value stands for, and how its history grows.
use Rattle.std.specs.Prelude.{◌≡◌, ◌⊎◌, ◌≤◌, ℕ, List, [], ◌∷◌, ◌++◌}
use Rattle.std.specs.List.{All, Contains}
use Rattle.vr_base.specs.declared.calls.Call.TheVariants.{Hash}
use Rattle.vr_base.specs.declared.calls.Entry.{Entry}
use Rattle.vr_base.specs.declared.calls.Reply.TheVariants.{Stored}

-- What a value stands for: what its history begins with, the history, and a count of faults.
pub record Account (Origin : Type 0) : Type 0 where
  pub origin : Origin
  pub history : List Entry
  pub faults : ℕ

-- The later history begins with the earlier one, and after it comes no entry with one of these
-- numbers.
pub record Continues (numbers : List ℕ) (early late : List Entry) : Type 0 where
  pub others : List Entry
  pub apart : All (λ entry. ¬ (Contains numbers entry.seat)) others
  pub history : late ≡ early ++ others

-- the history stays, or has one entry more, with this number
abbrev pub AddsAtMostOne : ℕ → List Entry → List Entry → Type 0
AddsAtMostOne number old new =
    (new ≡ old) ⊎ ((added : Entry) × (added.seat ≡ number) × (new ≡ old ++ added ∷ []))

-- What one turn does to a value: it keeps the origin, adds at most one entry, with the number of
-- the seat, and doesn't lower the count of faults.
pub record Works {T Origin : Type 0} (account : T → Account Origin) (number : ℕ) (old new : T)
    : Type 0 where
  pub origin : (account new).origin ≡ (account old).origin
  pub history : AddsAtMostOne number (account old).history (account new).history
  pub faults : (account old).faults ≤ (account new).faults

-- some entry
abbrev pub some_entry : Entry
some_entry = record { seat = 0; who = 0; call = Hash; reply = Stored }

-- the last entry, or some entry where there is none
abbrev pub last_entry : List Entry → Entry
last_entry [] = some_entry
last_entry (entry ∷ []) = entry
last_entry (entry ∷ next ∷ more) = last_entry (next ∷ more)
