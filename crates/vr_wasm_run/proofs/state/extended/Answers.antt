use Rattle.std.proofs.Common.{◌≡◌, ◌%◌, ℕ, Bool, true, false, if◌then◌else◌, sym}
use Rattle.std.specs.Prelude.{not}
use Rattle.std.proofs.Math.Nat.{mod-eq_of_lt}
use Rattle.vr_wasm_run.proofs.state.extended.Goals as goal

-- what is read without a sign is as it was
unsigned_read : (signed : Bool) (x number whole : ℕ) → not signed ≡ true → number % whole ≡ number → number ≡ (if signed then x else number % whole)
unsigned_read true x number whole off same = absurd (let h : ⊥ = cc off in h)
unsigned_read false x number whole off same = sym same

pub returns-then-not-access : goal.returns-then-not-access
returns-then-not-access c = unsigned_read c.args.access.signed _ c.args.number _ c.if-not-access.true (mod-eq_of_lt c.requires.number)
