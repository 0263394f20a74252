-- The rules on a whole policy. Each is a definition of the first index at which it fails, none
-- where it holds. The first of them that fails is the answer, at its first index.
use Rattle.std.specs.Prelude.{ℕ, ◌+◌, Bool, not, nat_eq, bytes_eq, is_some, List, [], ◌∷◌, ◌++◌, length, map, position, Option, Some, None, option_map, Result, Ok, ◌==◌, if◌then◌else◌}
use Rattle.std.specs.List.{list_any, list_all}
use Rattle.vr_base.specs.Checks.{◌>>=◌, ◌>>◌, unless_fault, result_map_err}
use Rattle.vr_base.specs.Names.{names_directory}
use Rattle.vr_policy_read.specs.PolicyData.{PolicyData}
use Rattle.vr_policy_read.specs.declared.entries.Pipeline.{Pipeline}
use Rattle.vr_pipe.specs.declared.trees.Tree.{Tree}
use Rattle.vr_pipe.specs.Parser.{pipe_of}
use Rattle.vr_pipe.specs.Trees.{pipe_tree, programs_of}
use Rattle.vr_policy_check.specs.declared.faults.CheckKind.{CheckKind}
use Rattle.vr_policy_check.specs.declared.faults.CheckKind.TheVariants.{NoIdentity, SameIdentity, SameProgram, SamePipeline, SamePin, GrantTwice, DirectoryAsProgram, PipeRefused, UnlistedProgram}
use Rattle.vr_policy_check.specs.declared.faults.CheckFault.{CheckFault}
use Rattle.vr_policy_check.specs.Faults.{fault_at}
use Rattle.vr_policy_check.specs.Repeats.{first_repeat}

-- ---- what the rules look at

-- the identities' ids, in the policy's order
abbrev pub identity_ids : PolicyData → List ℕ
identity_ids policy = map (λ identity. identity.id) policy.identities

-- the programs' names, in normal form
abbrev pub program_names : PolicyData → List (List ℕ)
program_names policy = map (λ program. program.name) policy.programs

-- the pipelines' ids
abbrev pub pipeline_ids : PolicyData → List ℕ
pipeline_ids policy = map (λ pipeline. pipeline.id) policy.pipelines

-- the paths whose hashes are pinned
abbrev pub pin_paths : PolicyData → List (List ℕ)
pin_paths policy = map (λ pin. pin.path) policy.pins

-- the lists of grants: the identities', then the programs'
abbrev pub grant_lists : PolicyData → List (List (List ℕ × ℕ))
grant_lists policy =
    map (λ identity. identity.grants) policy.identities
    ++ map (λ program. program.grants) policy.programs

-- the names in a list of grants
abbrev pub grant_names : List (List ℕ × ℕ) → List (List ℕ)
grant_names grants = map (λ grant. grant.0) grants

-- ---- the rules

-- there is an identity; where there is none, the rule fails at 0
abbrev pub no_identity : PolicyData → Option ℕ
no_identity policy = if length policy.identities == 0 then Some 0 else None

-- no two identities have one id
abbrev pub same_identity : PolicyData → Option ℕ
same_identity policy = first_repeat nat_eq (identity_ids policy)

-- no two programs have one name
abbrev pub same_program : PolicyData → Option ℕ
same_program policy = first_repeat bytes_eq (program_names policy)

-- no two pipelines have one id
abbrev pub same_pipeline : PolicyData → Option ℕ
same_pipeline policy = first_repeat nat_eq (pipeline_ids policy)

-- no two pins are on one path
abbrev pub same_pin : PolicyData → Option ℕ
same_pin policy = first_repeat bytes_eq (pin_paths policy)

-- no list of grants has one name twice; the index is that of the list
abbrev pub grant_twice : PolicyData → Option ℕ
grant_twice policy =
    position (λ grants. is_some (first_repeat bytes_eq (grant_names grants))) (grant_lists policy)

-- no program is a directory
abbrev pub directory_as_program : PolicyData → Option ℕ
directory_as_program policy = position (λ program. names_directory program.name) policy.programs

-- the tree that the text of the pipeline at an index spells
abbrev pub tree_at : ℕ → List ℕ → Result Tree CheckFault
tree_at at text = result_map_err (λ fault. fault_at (PipeRefused fault) at) (pipe_of text)

-- each pipeline's text, from an index on, spells a tree; these are the trees
abbrev pub trees_from : ℕ → List Pipeline → Result (List Tree) CheckFault
trees_from at [] = Ok []
trees_from at (pipeline ∷ pipelines) = do
  tree ← tree_at at pipeline.text
  trees ← trees_from (at + 1) pipelines
  Ok (tree ∷ trees)

-- each program of the tree is one of these
abbrev pub has_programs : List (List ℕ) → Tree → Bool
has_programs names tree =
    list_all (λ path. list_any (bytes_eq path) names) (programs_of (pipe_tree tree))

-- each program of each tree is one of these
abbrev pub unlisted_among : List (List ℕ) → List Tree → Option ℕ
unlisted_among names trees = position (λ tree. not (has_programs names tree)) trees

-- each program of each pipeline is a program of the policy
abbrev pub unlisted_program : PolicyData → List Tree → Option ℕ
unlisted_program policy trees = unlisted_among (program_names policy) trees

-- ---- all of them

-- a policy that passed, with the tree of each pipeline
pub record CheckedData : Type 0 where
  pub policy : PolicyData
  pub pipes : List Tree

-- the checked policy with these parts
abbrev pub checked_data : PolicyData → List Tree → CheckedData
checked_data policy pipes = record { policy = policy; pipes = pipes }

-- a rule that fails at this index, or holds
abbrev pub rule : CheckKind → Option ℕ → Result (Unit {0}) CheckFault
rule kind failing = unless_fault (option_map (fault_at kind) failing) tt

-- the policy with its trees, or the first rule that fails, at the first index at which it does
unfoldable pub check_of : PolicyData → Result CheckedData CheckFault
check_of policy = do
  rule NoIdentity (no_identity policy)
  rule SameIdentity (same_identity policy)
  rule SameProgram (same_program policy)
  rule SamePipeline (same_pipeline policy)
  rule SamePin (same_pin policy)
  rule GrantTwice (grant_twice policy)
  rule DirectoryAsProgram (directory_as_program policy)
  trees ← trees_from 0 policy.pipelines
  rule UnlistedProgram (unlisted_program policy trees)
  Ok (checked_data policy trees)
