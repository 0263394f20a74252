-- What a policy contains, and how much.
use Rattle.std.specs.Prelude.{ℕ, ◌≤◌, List, length, All}
use Rattle.vr_policy_read.specs.Limits.{most_entries, most_pages}
use Rattle.vr_policy_read.specs.declared.entries.Identity.{Identity}
use Rattle.vr_policy_read.specs.declared.entries.Program.{Program}
use Rattle.vr_policy_read.specs.declared.entries.Pipeline.{Pipeline}
use Rattle.vr_policy_read.specs.declared.entries.Pin.{Pin}
use Rattle.vr_policy_read.specs.declared.entries.Quota.{Quota}

-- a policy, with the most pages of memory of a run
pub record PolicyData : Type 0 where
  pub identities : List Identity
  pub programs : List Program
  pub pipelines : List Pipeline
  pub pins : List Pin
  pub pages : ℕ
  pub quotas : List Quota

-- the policy with these parts
abbrev pub policy_data : List Identity → List Program → List Pipeline → List Pin → ℕ → List Quota
    → PolicyData
policy_data identities programs pipelines pins pages quotas = record {
  identities = identities;
  programs = programs;
  pipelines = pipelines;
  pins = pins;
  pages = pages;
  quotas = quotas;
}

-- a list has no more entries than a list may have
abbrev pub IsShort : {A : Type 0} → List A → Type 0
IsShort entries = length entries ≤ most_entries

-- Neither a run's pages nor the entries of a list, those of grants among
-- them, are more than there may be.
pub record IsWithinLimits (policy : PolicyData) : Type 0 where
  pub pages : policy.pages ≤ most_pages
  pub identities : IsShort policy.identities
  pub programs : IsShort policy.programs
  pub pipelines : IsShort policy.pipelines
  pub pins : IsShort policy.pins
  pub quotas : IsShort policy.quotas
  pub grants_of_identities : All (λ identity. IsShort identity.grants) policy.identities
  pub grants_of_programs : All (λ program. IsShort program.grants) policy.programs
