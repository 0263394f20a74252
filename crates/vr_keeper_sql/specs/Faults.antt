-- What a keeper's fault says of its count.
use Rattle.std.specs.Prelude.{◌≡◌, ℕ, ◌≤◌}
use Rattle.vr_base.specs.Causes.{Rose}
use Rattle.vr_keeper.specs.declared.keepers.KeepFault.{KeepFault}
use Rattle.vr_keeper.specs.declared.keepers.KeepFault.TheVariants.{Failed}

-- The count never falls, and a failure came only where it rose.
pub record IsCounted (before now : ℕ) (fault : KeepFault) : Type 0 where
  pub later : before ≤ now
  pub failed : fault ≡ Failed → Rose before now
