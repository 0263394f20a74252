-- What holds of a policy that passed the rules, and the places of its entries.
use Rattle.std.specs.Prelude.{◌≡◌, ℕ, ◌<◌, ◌==◌, false, length, All, Contains, position, Option}
use Rattle.std.specs.BTreeMap.{BTreeMap}
use Rattle.std.specs.List.{AllZip}
use Rattle.std.specs.Ordering.{nat_cmp}
use Rattle.vr_base.specs.Names.{names_directory}
use Rattle.vr_policy_read.specs.PolicyData.{PolicyData, IsWithinLimits}
use Rattle.vr_pipe.specs.Grammar.{Spells}
use Rattle.vr_pipe.specs.Trees.{pipe_tree, programs_of}
use Rattle.vr_policy_check.specs.Places.{Indexes}
use Rattle.vr_policy_check.specs.Repeats.{IsDistinct}
use Rattle.vr_policy_check.specs.Rules.{CheckedData, identity_ids, program_names, pipeline_ids, pin_paths, grant_lists, grant_names}

-- What the rules say, each in its turn, of a policy within the limits on its size.
pub record IsChecked (checked : CheckedData) : Type 0 where
  pub limits : IsWithinLimits checked.policy
  pub some_identity : 0 < length checked.policy.identities
  pub identities : IsDistinct (identity_ids checked.policy)
  pub programs : IsDistinct (program_names checked.policy)
  pub pipelines : IsDistinct (pipeline_ids checked.policy)
  pub pins : IsDistinct (pin_paths checked.policy)
  pub grants : All (λ grants. IsDistinct (grant_names grants)) (grant_lists checked.policy)
  pub no_directory : All (λ program. names_directory program.name ≡ false) checked.policy.programs
  pub trees : AllZip (λ pipeline tree. Spells pipeline.text (pipe_tree tree))
      checked.policy.pipelines checked.pipes
  pub listed : All
      (λ tree. All (Contains (program_names checked.policy)) (programs_of (pipe_tree tree)))
      checked.pipes

-- the place of the identity with an id
abbrev pub identity_place : PolicyData → ℕ → Option ℕ
identity_place policy id = position (λ listed. listed == id) (identity_ids policy)

-- the place of the pipeline with an id
abbrev pub pipeline_place : PolicyData → ℕ → Option ℕ
pipeline_place policy id = position (λ listed. listed == id) (pipeline_ids policy)

-- What passing the rules gives beside the trees: the limits, and the places of the ids.
pub record IsPassed (policy : PolicyData) (identity_places pipeline_places : BTreeMap ℕ ℕ)
    : Type 0 where
  pub limits : IsWithinLimits policy
  pub identities : Indexes nat_cmp (identity_ids policy) identity_places
  pub pipelines : Indexes nat_cmp (pipeline_ids policy) pipeline_places

-- what a value of the type keeps
pub record KeepsChecked (policy : CheckedData) (identity_places pipeline_places : BTreeMap ℕ ℕ)
    : Type 0 where
  pub checked : IsChecked policy
  pub places : IsPassed policy.policy identity_places pipeline_places
