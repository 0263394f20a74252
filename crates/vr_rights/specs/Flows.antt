-- What programs, pipelines and identities observe and modify, region by region.
use Rattle.std.specs.Prelude.{ℕ, Bool, ◌||◌, ◌&&◌, List, [], ◌∷◌, filter, bytes_eq, is_some}
use Rattle.std.specs.List.{list_any, list_all}
use Rattle.vr_base.specs.Rights.{has_bit, fd_read, fd_seek, fd_write, path_create_file, path_open, path_filestat_get, path_filestat_set_size, fd_filestat_set_size, path_unlink_file}
use Rattle.vr_policy_read.specs.PolicyData.{PolicyData}
use Rattle.vr_policy_read.specs.declared.entries.Identity.{Identity}
use Rattle.vr_policy_read.specs.declared.entries.Program.{Program}
use Rattle.vr_pipe.specs.declared.trees.Tree.{Tree}
use Rattle.vr_pipe.specs.Trees.{PipeTree, pipe_tree, programs_of, tests_of}
use Rattle.vr_policy_check.specs.Rules.{CheckedData}
use Rattle.vr_rights.specs.Quotas.{quota_of}
use Rattle.vr_rights.specs.Words.{word_in, may_execute}

-- whether a word has one of the rights
abbrev pub has_any : ℕ → List ℕ → Bool
has_any word bits = list_any (λ bit. has_bit word bit) bits

-- ---- programs

-- the rights by which a program learns of a file: to open it, to look at its state, to unlink it
abbrev pub observing_rights : List ℕ
observing_rights = path_open ∷ path_filestat_get ∷ path_unlink_file ∷ []

-- the rights by which a program changes a file that it opens
abbrev pub changing_rights : List ℕ
changing_rights = fd_write ∷ path_create_file ∷ path_filestat_set_size ∷ fd_filestat_set_size ∷ []

-- a program with a word in a region observes the region
abbrev pub word_observes : ℕ → Bool
word_observes word = has_any word observing_rights

-- it modifies the region: it may unlink, or open and change
abbrev pub word_modifies : ℕ → Bool
word_modifies word =
    has_bit word path_unlink_file || (has_bit word path_open && has_any word changing_rights)

-- a program does so by its word in the region
abbrev pub program_observes : Program → List ℕ → Bool
program_observes program region = word_observes (word_in region program.grants)

abbrev pub program_modifies : Program → List ℕ → Bool
program_modifies program region = word_modifies (word_in region program.grants)

-- ---- pipelines

-- whether a path is among paths
abbrev pub is_among : List (List ℕ) → List ℕ → Bool
is_among paths path = list_any (bytes_eq path) paths

-- the programs of the policy that a pipeline runs, in either branch of an if too
abbrev pub programs_run : PolicyData → PipeTree → List Program
programs_run policy pipeline =
    filter (λ program. is_among (programs_of pipeline) program.name) policy.programs

-- a pipeline observes its programs' own regions and those of its tests, whose names are these
-- paths, and all that its programs observe
abbrev pub pipeline_observes : PolicyData → PipeTree → List ℕ → Bool
pipeline_observes policy pipeline region =
    is_among (programs_of pipeline) region || (is_among (tests_of pipeline) region
    || list_any (λ program. program_observes program region) (programs_run policy pipeline))

-- a pipeline modifies what its programs modify
abbrev pub pipeline_modifies : PolicyData → PipeTree → List ℕ → Bool
pipeline_modifies policy pipeline region =
    list_any (λ program. program_modifies program region) (programs_run policy pipeline)

-- ---- identities

-- whether an identity may execute each program of a pipeline
abbrev pub may_run : Identity → PipeTree → Bool
may_run identity pipeline = list_all (may_execute identity.grants) (programs_of pipeline)

-- the pipelines that an identity may execute
abbrev pub executable : CheckedData → Identity → List Tree
executable checked identity = filter (λ pipe. may_run identity (pipe_tree pipe)) checked.pipes

-- an identity with a word in a region observes it: it may read, or append, or write where a
-- quota tells what others wrote
abbrev pub caller_observes : ℕ → Bool → Bool
caller_observes word has_quota =
    has_bit word fd_read
    || ((has_bit word fd_seek && has_bit word fd_write) || (has_bit word fd_write && has_quota))

-- an identity observes a region by its own word, or by a pipeline that it may execute
abbrev pub identity_observes : CheckedData → Identity → List ℕ → Bool
identity_observes checked identity region =
    let has_quota = is_some (quota_of region checked.policy.quotas) in
    let observes = λ (pipe : Tree). pipeline_observes checked.policy (pipe_tree pipe) region in
    caller_observes (word_in region identity.grants) has_quota
    || list_any observes (executable checked identity)

-- an identity modifies a region where it may write, or by a pipeline that it may execute
abbrev pub identity_modifies : CheckedData → Identity → List ℕ → Bool
identity_modifies checked identity region =
    let modifies = λ (pipe : Tree). pipeline_modifies checked.policy (pipe_tree pipe) region in
    has_bit (word_in region identity.grants) fd_write
    || list_any modifies (executable checked identity)
