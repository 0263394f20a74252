-- The names of a policy, as they are collected list by list.
use Rattle.std.proofs.Common.{◌≡◌, ℕ, ◌+◌, ◌<◌, List, [], ◌∷◌, ◌++◌, length, map, take, slice_get, Some, get_or, append_assoc, sym, ◌∙◌, ap}
use Rattle.std.specs.List.{flat_map}
use Rattle.std.proofs.lemmas.List.{take_more, flat_map_more}
use Rattle.std.proofs.lemmas.Option.{get_or_from_slice_get}
use Rattle.vr_pipe.specs.declared.trees.Tree.{Tree}
use Rattle.vr_pipe.specs.Trees.{pipe_tree, programs_of, tests_of}
use Rattle.vr_policy_read.specs.declared.entries.Pipeline.{Pipeline}
use Rattle.vr_policy_read.specs.PolicyData.{PolicyData}
use Rattle.vr_policy_check.specs.Checked.{IsChecked}
use Rattle.vr_policy_check.specs.Rules.{CheckedData, grant_names, program_names, pin_paths}
use Rattle.vr_rights.specs.Tables.{names_of, names_of_pipes}
use Rattle.vr_rights.proofs.ZipLemmas.{zip_length}

-- a tree for each pipeline that is listed
pub tree_each : (checked : CheckedData) (policy : PolicyData) (listed : List Pipeline) → IsChecked checked → policy ≡ checked.policy → listed ≡ policy.pipelines → length listed ≡ length checked.pipes
tree_each checked policy listed h same is = ap length is ∙ ap (λ (p : PolicyData). length p.pipelines) same ∙ zip_length _ _ _ h.trees

-- one more pipeline
pub one_more_pipe : (old n₀ n₁ n₂ : List (List ℕ)) (pipes : List Tree) (place : ℕ) (pipe : Tree) → place < length pipes → slice_get pipes place ≡ Some pipe
    → n₀ ≡ old ++ names_of_pipes (take place pipes) → n₁ ≡ n₀ ++ programs_of (pipe_tree pipe) → n₂ ≡ n₁ ++ tests_of (pipe_tree pipe)
    → n₂ ≡ old ++ names_of_pipes (take (place + 1) pipes)
one_more_pipe old n₀ n₁ n₂ pipes place pipe within found e₀ e₁ e₂ =
    let written = λ (p : Tree). programs_of (pipe_tree p) ++ tests_of (pipe_tree p) in
    let is : get_or pipes place pipe ≡ pipe = get_or_from_slice_get pipes place pipe pipe found in
    let more : take (place + 1) pipes ≡ take place pipes ++ pipe ∷ [] = take_more pipes place pipe within ∙ ap (λ p. take place pipes ++ p ∷ []) is in
    e₂ ∙ ap (λ n. n ++ tests_of (pipe_tree pipe)) e₁ ∙ append_assoc n₀ (programs_of (pipe_tree pipe)) (tests_of (pipe_tree pipe)) ∙ ap (λ n. n ++ written pipe) e₀
    ∙ flat_map_more written old (take place pipes) pipe ∙ ap (λ ps. old ++ names_of_pipes ps) (sym more)

-- the lists one after the other
pub all_names : (checked : CheckedData) (n₀ n₁ n₂ n₃ n₄ n₅ n₆ : List (List ℕ)) → n₀ ≡ []
    → n₁ ≡ n₀ ++ flat_map (λ identity. grant_names identity.grants) checked.policy.identities
    → n₂ ≡ n₁ ++ flat_map (λ program. grant_names program.grants) checked.policy.programs
    → n₃ ≡ n₂ ++ program_names checked.policy
    → n₄ ≡ n₃ ++ pin_paths checked.policy
    → n₅ ≡ n₄ ++ names_of_pipes checked.pipes
    → n₆ ≡ n₅ ++ map (λ quota. quota.name) checked.policy.quotas
    → n₆ ≡ names_of checked
all_names checked n₀ n₁ n₂ n₃ n₄ n₅ n₆ e₀ e₁ e₂ e₃ e₄ e₅ e₆ = rw (e₆, e₅, e₄, e₃, e₂, e₁, e₀) (simp append_assoc)
