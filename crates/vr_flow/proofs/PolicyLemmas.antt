-- What a policy says of its regions, as the tables are filled.
use Rattle.std.proofs.Common.{◌≡◌, ℕ, ◌+◌, ◌<◌, ◌≤◌, Bool, true, false, not, cond, ◌||◌, ◌&&◌, List, [], ◌∷◌, ◌++◌, length, map, get_or, Option, Some, None, All, Contains, slice_get, is_none, is_some, is_ok, refl, sym, ◌∙◌, ap, subst, ◌⊎◌, inl, inr, arith}
use Rattle.std.specs.List.{list_any, list_all, position_from, flat_map}
use Rattle.std.proofs.lemmas.Iterator.Adapters.{position_from-zero}
use Rattle.std.proofs.lemmas.Option.{slice_get_cases, slice_get_within, slice_get-get_or, get_or_from_slice_get}
use Rattle.std.proofs.Math.Bool.{or_assoc}
use Rattle.vr_base.specs.Rights.{has_bit, fd_write}
use Rattle.vr_pipe.specs.declared.trees.Tree.{Tree}
use Rattle.vr_pipe.specs.Trees.{pipe_tree, programs_of, tests_of}
use Rattle.vr_policy_read.specs.declared.entries.Identity.{Identity}
use Rattle.vr_policy_read.specs.declared.entries.Program.{Program}
use Rattle.vr_policy_read.specs.declared.entries.Quota.{Quota}
use Rattle.vr_policy_read.specs.PolicyData.{PolicyData}
use Rattle.vr_policy_check.specs.Rules.{CheckedData, grant_names, program_names, pin_paths}
use Rattle.vr_rights.specs.Calls.{word_of, run_answer}
use Rattle.vr_rights.specs.Flows as rights
use Rattle.vr_rights.specs.Quotas.{quota_of}
use Rattle.vr_rights.specs.Tables.{RegionsData, IsRegionsOf, names_of_pipes, entry_of}
use Rattle.vr_rights.specs.Words.{word_in, may_execute, missing_program}
use Rattle.vr_rights.specs.declared.regions.Holder.TheVariants as holders
use Rattle.vr_rights.proofs.CallLemmas.{word_of_identity, word_of_program, missing_of, quota_of_region}
use Rattle.vr_rights.proofs.ZipLemmas.{All-left, All-right, All-flat}
use Rattle.vr_flow.specs.Flows.{at_place, is_executable, flows_of}
use Rattle.vr_flow.specs.Holders.{observed_by_words, modified_by_words}
use Rattle.vr_flow.proofs.TableLemmas.{any_same, any_filter, at_some, at_none, at_same, at_or, at_and, at_any, below_at}

-- ---- the names that pipelines write

pub pipe_names : (checked : CheckedData) (regions : RegionsData) → IsRegionsOf checked regions → All (λ (pipe : Tree). All (Contains regions.names) (programs_of (pipe_tree pipe) ++ tests_of (pipe_tree pipe))) checked.pipes
pipe_names checked regions h =
    let P = Contains regions.names in
    let quotas = map (λ (quota : Quota). quota.name) checked.policy.quotas in
    let pipes = names_of_pipes checked.pipes in
    let pins = pin_paths checked.policy in
    let programs = program_names checked.policy in
    let of_programs = flat_map (λ (program : Program). grant_names program.grants) checked.policy.programs in
    let of_identities = flat_map (λ (identity : Identity). grant_names identity.grants) checked.policy.identities in
    All-flat P (λ (pipe : Tree). programs_of (pipe_tree pipe) ++ tests_of (pipe_tree pipe)) checked.pipes
    (All-left P pipes quotas
    (All-right P pins (pipes ++ quotas)
    (All-right P programs (pins ++ (pipes ++ quotas))
    (All-right P of_programs (programs ++ (pins ++ (pipes ++ quotas)))
    (All-right P of_identities (of_programs ++ (programs ++ (pins ++ (pipes ++ quotas)))) h.all)))))

pub pipe_names_at : (checked : CheckedData) (regions : RegionsData) → IsRegionsOf checked regions → (place : ℕ) (pipe : Tree) → slice_get checked.pipes place ≡ Some pipe
    → All (Contains regions.names) (programs_of (pipe_tree pipe)) × All (Contains regions.names) (tests_of (pipe_tree pipe))
pipe_names_at checked regions h place pipe e =
    let P = Contains regions.names in
    let is : get_or checked.pipes place pipe ≡ pipe = get_or_from_slice_get checked.pipes place pipe pipe e in
    let here : All P (programs_of (pipe_tree pipe) ++ tests_of (pipe_tree pipe)) =
    subst (λ (p : Tree). All P (programs_of (pipe_tree p) ++ tests_of (pipe_tree p))) is (pipe_names checked regions h place pipe (slice_get_within checked.pipes place pipe e)) in
    (All-left P (programs_of (pipe_tree pipe)) (tests_of (pipe_tree pipe)) here, All-right P (programs_of (pipe_tree pipe)) (tests_of (pipe_tree pipe)) here)

-- ---- what is at a place

-- a pipeline is there
pub pipe_there : (checked : CheckedData) (place : ℕ) → place < length checked.pipes → (pipe : Tree) × (slice_get checked.pipes place ≡ Some pipe)
pipe_there checked place l = by_cases ((slice_get_cases checked.pipes place).1)
  where
    by_cases : ((pipe : Tree) × (place < length checked.pipes) × (slice_get checked.pipes place ≡ Some pipe) × (get_or checked.pipes place pipe ≡ pipe)) ⊎ ((length checked.pipes ≤ place) × (slice_get checked.pipes place ≡ None))
        → (pipe : Tree) × (slice_get checked.pipes place ≡ Some pipe)
    by_cases (inl (pipe, within, e, same)) = (pipe, e)
    by_cases (inr (past, none)) = absurd (omega arith)

-- the identity at a place
abbrev pub identity_at : CheckedData → ℕ → Identity
identity_at checked place = get_or checked.policy.identities place (record { id = 0; grants = [] })

pub identity_there : (checked : CheckedData) (place : ℕ) → place < length checked.policy.identities → slice_get checked.policy.identities place ≡ Some (identity_at checked place)
identity_there checked place l = slice_get-get_or checked.policy.identities place (record { id = 0; grants = [] }) l

-- a policy's list, as it is counted
pub identity_count : (checked : CheckedData) (policy : PolicyData) (listed : List Identity) → policy ≡ checked.policy → listed ≡ policy.identities → length listed ≡ length checked.policy.identities
identity_count checked policy listed same is = ap length is ∙ ap (λ (p : PolicyData). length p.identities) same

pub program_list : (checked : CheckedData) (policy : PolicyData) (listed : List Program) → policy ≡ checked.policy → listed ≡ policy.programs → listed ≡ checked.policy.programs
program_list checked policy listed same is = is ∙ ap (λ (p : PolicyData). p.programs) same

-- ---- who may execute what

none_missing : {X : Type 0} (t : X → Bool) (n : ℕ) (xs : List X) → is_none (position_from (λ x. not (t x)) n xs) ≡ list_all t xs
none_missing t n [] = refl
none_missing {X} t n (x ∷ xs) = by_test (t x) (none_missing t (n + 1) xs)
  where
    by_test : (b : Bool) → is_none (position_from (λ y. not (t y)) (n + 1) xs) ≡ list_all t xs → is_none (cond (not b) (Some n) (position_from (λ y. not (t y)) (n + 1) xs)) ≡ (b && list_all t xs)
    by_test true rest = rest
    by_test false rest = refl

answer_is_ok : (missing : Option ℕ) → is_ok (run_answer missing) ≡ is_none missing
answer_is_ok None = refl
answer_is_ok (Some program) = refl

-- an identity observes a region by its own word
abbrev pub own_observes : CheckedData → Identity → List ℕ → Bool
own_observes checked identity name = rights.caller_observes (word_in name identity.grants) (is_some (quota_of name checked.policy.quotas))

-- an identity modifies a region by its own word
abbrev pub own_modifies : Identity → List ℕ → Bool
own_modifies identity name = has_bit (word_in name identity.grants) fd_write

module _ (checked : CheckedData) (regions : RegionsData) (h : IsRegionsOf checked regions) where
  pub runs : (identity pipeline : ℕ) (listed : Identity) (pipe : Tree) → slice_get checked.policy.identities identity ≡ Some listed → slice_get checked.pipes pipeline ≡ Some pipe
      → is_ok (run_answer (entry_of regions.missing identity pipeline None)) ≡ rights.may_run listed (pipe_tree pipe)
  runs identity pipeline listed pipe e f =
      ap (λ o. is_ok (run_answer o)) (missing_of checked regions h identity pipeline listed pipe e f)
      ∙ answer_is_ok (missing_program listed.grants (pipe_tree pipe))
      ∙ ap is_none (position_from-zero (λ path. not (may_execute listed.grants path)) (programs_of (pipe_tree pipe)))
      ∙ none_missing (may_execute listed.grants) 0 (programs_of (pipe_tree pipe))

  -- ---- what holders observe and modify by their words

  pub program_observed : (place : ℕ) (program : Program) → slice_get checked.policy.programs place ≡ Some program → (region : ℕ)
      → observed_by_words regions (holders.Program place) region ≡ at_place (rights.program_observes program) regions.names region
  program_observed place program e = below_at regions.names [] _ (rights.program_observes program) (λ region l. ap rights.word_observes (word_of_program checked regions h place region program e l))

  pub program_modified : (place : ℕ) (program : Program) → slice_get checked.policy.programs place ≡ Some program → (region : ℕ)
      → modified_by_words regions (holders.Program place) region ≡ at_place (rights.program_modifies program) regions.names region
  program_modified place program e = below_at regions.names [] _ (rights.program_modifies program) (λ region l. ap rights.word_modifies (word_of_program checked regions h place region program e l))

  pub identity_observed : (place : ℕ) (identity : Identity) → slice_get checked.policy.identities place ≡ Some identity → (region : ℕ)
      → observed_by_words regions (holders.Identity place) region ≡ at_place (own_observes checked identity) regions.names region
  identity_observed place identity e = below_at regions.names [] _ (own_observes checked identity)
      (λ region l. ap (λ w. rights.caller_observes w (is_some (get_or regions.quotas region None))) (word_of_identity checked regions h place region identity e l)
      ∙ ap (λ q. rights.caller_observes (word_in (get_or regions.names region []) identity.grants) (is_some q)) (quota_of_region checked regions h region l))

  pub identity_modified : (place : ℕ) (identity : Identity) → slice_get checked.policy.identities place ≡ Some identity → (region : ℕ)
      → modified_by_words regions (holders.Identity place) region ≡ at_place (own_modifies identity) regions.names region
  identity_modified place identity e = below_at regions.names [] _ (own_modifies identity) (λ region l. ap (λ w. has_bit w fd_write) (word_of_identity checked regions h place region identity e l))

-- a program's word in a region, as a pipeline that runs it observes by it
pub observes_here : (checked : CheckedData) (regions : RegionsData) → IsRegionsOf checked regions → (place region : ℕ) (program : Program) → slice_get checked.policy.programs place ≡ Some program → region < length regions.names
    → rights.word_observes (word_of regions (holders.Program place) region) ≡ at_place (rights.program_observes program) regions.names region
observes_here checked regions h place region program e l =
    ap rights.word_observes (word_of_program checked regions h place region program e l)
    ∙ sym (at_some (rights.program_observes program) regions.names region (get_or regions.names region []) (slice_get-get_or regions.names region [] l))

-- ---- what pipelines and identities observe and modify, part by part

module _ (checked : CheckedData) (names : List (List ℕ)) where
  -- one that is run by a pipeline, and what it does
  abbrev pub run_does : (Program → List ℕ → Bool) → Tree → Program → ℕ → Bool
  run_does does pipe program region = rights.is_among (programs_of (pipe_tree pipe)) program.name && at_place (does program) names region

  -- what a pipeline names
  abbrev pub names_it : Tree → ℕ → Bool
  names_it pipe region = at_place (rights.is_among (programs_of (pipe_tree pipe))) names region || at_place (rights.is_among (tests_of (pipe_tree pipe))) names region

  pub names_here : (pipe : Tree) (region : ℕ) → region < length names
      → (rights.is_among (programs_of (pipe_tree pipe)) (get_or names region []) || rights.is_among (tests_of (pipe_tree pipe)) (get_or names region [])) ≡ names_it pipe region
  names_here pipe region l =
      let here = slice_get-get_or names region [] l in
      ap (λ t. t || rights.is_among (tests_of (pipe_tree pipe)) (get_or names region [])) (sym (at_some (rights.is_among (programs_of (pipe_tree pipe))) names region (get_or names region []) here))
      ∙ ap (λ t. at_place (rights.is_among (programs_of (pipe_tree pipe))) names region || t) (sym (at_some (rights.is_among (tests_of (pipe_tree pipe))) names region (get_or names region []) here))

  any_run : (does : Program → List ℕ → Bool) (pipe : Tree) (region : ℕ)
      → list_any (λ program. run_does does pipe program region) checked.policy.programs
      ≡ at_place (λ name. list_any (λ program. does program name) (rights.programs_run checked.policy (pipe_tree pipe))) names region
  any_run does pipe region =
      any_same (λ program. run_does does pipe program region) (λ program. at_place (λ name. rights.is_among (programs_of (pipe_tree pipe)) program.name && does program name) names region)
      (λ program. at_and (rights.is_among (programs_of (pipe_tree pipe)) program.name) (does program) names region) checked.policy.programs
      ∙ at_any (λ program name. rights.is_among (programs_of (pipe_tree pipe)) program.name && does program name) checked.policy.programs names region
      ∙ at_same _ _ (λ name. any_filter (λ (program : Program). rights.is_among (programs_of (pipe_tree pipe)) program.name) (λ program. does program name) checked.policy.programs) names region

  pub pipeline_observed : (place : ℕ) (pipe : Tree) → slice_get checked.pipes place ≡ Some pipe → (region : ℕ)
      → (names_it pipe region || list_any (λ program. run_does rights.program_observes pipe program region) checked.policy.programs) ≡ (flows_of checked names).pipeline_observes place region
  unfolding flows_of
  pipeline_observed place pipe e region =
      let programs = rights.is_among (programs_of (pipe_tree pipe)) in
      let tests = rights.is_among (tests_of (pipe_tree pipe)) in
      let run : List ℕ → Bool = λ name. list_any (λ program. rights.program_observes program name) (rights.programs_run checked.policy (pipe_tree pipe)) in
      ap (λ t. names_it pipe region || t) (any_run rights.program_observes pipe region)
      ∙ ap (λ t. t || at_place run names region) (at_or programs tests names region)
      ∙ at_or (λ name. programs name || tests name) run names region
      ∙ at_same (λ name. (programs name || tests name) || run name) (λ name. programs name || (tests name || run name)) (λ name. or_assoc (programs name) (tests name) (run name)) names region
      ∙ sym (at_some (λ (p : Tree). at_place (rights.pipeline_observes checked.policy (pipe_tree p)) names region) checked.pipes place pipe e)

  pub pipeline_modified : (place : ℕ) (pipe : Tree) → slice_get checked.pipes place ≡ Some pipe → (region : ℕ)
      → list_any (λ program. run_does rights.program_modifies pipe program region) checked.policy.programs ≡ (flows_of checked names).pipeline_modifies place region
  unfolding flows_of
  pipeline_modified place pipe e region =
      any_run rights.program_modifies pipe region
      ∙ sym (at_some (λ (p : Tree). at_place (rights.pipeline_modifies checked.policy (pipe_tree p)) names region) checked.pipes place pipe e)

  -- a pipeline that an identity may execute, and what it does
  abbrev pub piped : (Tree → List ℕ → Bool) → Identity → Tree → ℕ → Bool
  piped does identity pipe region = rights.may_run identity (pipe_tree pipe) && at_place (does pipe) names region

  any_piped : (does : Tree → List ℕ → Bool) (identity : Identity) (region : ℕ)
      → list_any (λ pipe. piped does identity pipe region) checked.pipes ≡ at_place (λ name. list_any (λ pipe. does pipe name) (rights.executable checked identity)) names region
  any_piped does identity region =
      any_same (λ pipe. piped does identity pipe region) (λ pipe. at_place (λ name. rights.may_run identity (pipe_tree pipe) && does pipe name) names region)
      (λ pipe. at_and (rights.may_run identity (pipe_tree pipe)) (does pipe) names region) checked.pipes
      ∙ at_any (λ pipe name. rights.may_run identity (pipe_tree pipe) && does pipe name) checked.pipes names region
      ∙ at_same _ _ (λ name. any_filter (λ (pipe : Tree). rights.may_run identity (pipe_tree pipe)) (λ pipe. does pipe name) checked.pipes) names region

  abbrev pub pipe_observes : Tree → List ℕ → Bool
  pipe_observes pipe = rights.pipeline_observes checked.policy (pipe_tree pipe)

  abbrev pub pipe_modifies : Tree → List ℕ → Bool
  pipe_modifies pipe = rights.pipeline_modifies checked.policy (pipe_tree pipe)

  pub identity_sees : (place : ℕ) (identity : Identity) → slice_get checked.policy.identities place ≡ Some identity → (region : ℕ)
      → (at_place (own_observes checked identity) names region || list_any (λ pipe. piped pipe_observes identity pipe region) checked.pipes) ≡ (flows_of checked names).identity_observes place region
  unfolding flows_of
  identity_sees place identity e region =
      let by_pipes : List ℕ → Bool = λ name. list_any (λ pipe. pipe_observes pipe name) (rights.executable checked identity) in
      ap (λ t. at_place (own_observes checked identity) names region || t) (any_piped pipe_observes identity region)
      ∙ at_or (own_observes checked identity) by_pipes names region
      ∙ sym (at_some (λ (i : Identity). at_place (rights.identity_observes checked i) names region) checked.policy.identities place identity e)

  pub identity_changes : (place : ℕ) (identity : Identity) → slice_get checked.policy.identities place ≡ Some identity → (region : ℕ)
      → (at_place (own_modifies identity) names region || list_any (λ pipe. piped pipe_modifies identity pipe region) checked.pipes) ≡ (flows_of checked names).identity_modifies place region
  unfolding flows_of
  identity_changes place identity e region =
      let by_pipes : List ℕ → Bool = λ name. list_any (λ pipe. pipe_modifies pipe name) (rights.executable checked identity) in
      ap (λ t. at_place (own_modifies identity) names region || t) (any_piped pipe_modifies identity region)
      ∙ at_or (own_modifies identity) by_pipes names region
      ∙ sym (at_some (λ (i : Identity). at_place (rights.identity_modifies checked i) names region) checked.policy.identities place identity e)

  -- what a pipeline at a place does
  pub pipe_observes_at : (place : ℕ) (pipe : Tree) → slice_get checked.pipes place ≡ Some pipe → (region : ℕ) → (flows_of checked names).pipeline_observes place region ≡ at_place (pipe_observes pipe) names region
  unfolding flows_of
  pipe_observes_at place pipe e region = at_some (λ (p : Tree). at_place (rights.pipeline_observes checked.policy (pipe_tree p)) names region) checked.pipes place pipe e

  pub pipe_modifies_at : (place : ℕ) (pipe : Tree) → slice_get checked.pipes place ≡ Some pipe → (region : ℕ) → (flows_of checked names).pipeline_modifies place region ≡ at_place (pipe_modifies pipe) names region
  unfolding flows_of
  pipe_modifies_at place pipe e region = at_some (λ (p : Tree). at_place (rights.pipeline_modifies checked.policy (pipe_tree p)) names region) checked.pipes place pipe e

  pub executable_at : (place : ℕ) (pipe : Tree) → slice_get checked.pipes place ≡ Some pipe → list_any (λ identity. rights.may_run identity (pipe_tree pipe)) checked.policy.identities ≡ (flows_of checked names).is_executable place
  unfolding flows_of
  executable_at place pipe e = sym (at_some (is_executable checked) checked.pipes place pipe e)

  -- past the end is nothing
  pub never_executable : (place : ℕ) → length checked.pipes ≤ place → (flows_of checked names).is_executable place ≡ false
  unfolding flows_of
  never_executable place g = at_none (is_executable checked) checked.pipes place g

  pub identity_sees_none : (place region : ℕ) → length checked.policy.identities ≤ place → (flows_of checked names).identity_observes place region ≡ false
  unfolding flows_of
  identity_sees_none place region g = at_none (λ (i : Identity). at_place (rights.identity_observes checked i) names region) checked.policy.identities place g

  pub identity_changes_none : (place region : ℕ) → length checked.policy.identities ≤ place → (flows_of checked names).identity_modifies place region ≡ false
  unfolding flows_of
  identity_changes_none place region g = at_none (λ (i : Identity). at_place (rights.identity_modifies checked i) names region) checked.policy.identities place g

  pub pipeline_sees_none : (place region : ℕ) → length checked.pipes ≤ place → (flows_of checked names).pipeline_observes place region ≡ false
  unfolding flows_of
  pipeline_sees_none place region g = at_none (λ (p : Tree). at_place (rights.pipeline_observes checked.policy (pipe_tree p)) names region) checked.pipes place g

  pub pipeline_changes_none : (place region : ℕ) → length checked.pipes ≤ place → (flows_of checked names).pipeline_modifies place region ≡ false
  unfolding flows_of
  pipeline_changes_none place region g = at_none (λ (p : Tree). at_place (rights.pipeline_modifies checked.policy (pipe_tree p)) names region) checked.pipes place g
