-- What the seat of a desk has seen after a call, and when a call may find the
-- keeper of the files unavailable.
use Rattle.std.specs.Prelude.{◌≡◌, ◌≢◌, ℕ, ◌-◌, ◌^◌, ◌<◌, ◌≤◌, List, [], ◌∷◌, ◌++◌, All, if◌then◌else◌}
use Rattle.vr_base.specs.Calls.{is_made}
use Rattle.vr_base.specs.declared.calls.Call.{Call}
use Rattle.vr_base.specs.declared.calls.Entry.{Entry}
use Rattle.vr_base.specs.declared.calls.Reply.{Reply}

-- the entries that a call adds to a history: its own, where it was made
abbrev pub own_entries : ℕ → ℕ → Call → Reply → List Entry
own_entries seat who call reply =
    if is_made reply then record { seat = seat; who = who; call = call; reply = reply } ∷ [] else []

-- The seen history begins with what was seen before; then come entries of other
-- seats, and then this call's.
pub record Sees (seat who : ℕ) (call : Call) (reply : Reply) (old new : List Entry) : Type 0 where
  pub others : List Entry
  pub apart : All (λ entry. entry.seat ≢ seat) others
  pub history : new ≡ old ++ (others ++ own_entries seat who call reply)

-- The count of faults rose while the call was made, above the count that was found as it began,
-- which no earlier fault had raised above; a count at its end says nothing more.
abbrev pub IsLicensed : ℕ → ℕ → ℕ → Type 0
IsLicensed before found after = after < 2 ^ 64 - 1 → (before ≤ found) × (found < after)
