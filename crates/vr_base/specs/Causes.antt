-- A fault has a cause: the count of faults of the object that was handed in rose in the call.
use Rattle.std.specs.Prelude.{◌≡◌, ℕ, ◌+◌, ◌-◌, ◌^◌, ◌≤◌, min, Result, Err, OnErr}

-- The count rose, or stands at its end.
abbrev pub Rose : ℕ → ℕ → Type 0
Rose before now = min (before + 1) (2 ^ 64 - 1) ≤ now

-- The count never falls, and an error came only where it rose.
pub record HasCause {T E : Type 0} (before now : ℕ) (result : Result T E) : Type 0 where
  pub later : before ≤ now
  pub failed : OnErr result (Rose before now)

-- The count never falls, and this one error came only where it rose.
pub record HasCauseOf {T E : Type 0} (fault : E) (before now : ℕ) (result : Result T E)
    : Type 0 where
  pub later : before ≤ now
  pub failed : result ≡ Err fault → Rose before now
