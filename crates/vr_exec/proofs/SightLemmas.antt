-- What a program may learn of is what its pipeline observes, and what it may change is what the pipeline modifies.
use Rattle.std.proofs.Common.{◌≡◌, ℕ, Bool, true, false, ◌||◌, ◌&&◌, List, [], Option, None, Some, option_map, All, Contains, refl, sym, ap, ◌∙◌, subst, get_or}
use Rattle.std.specs.Prelude.{bytes_eq, find, unwrap_or}
use Rattle.std.specs.Cmp.Lexicographic.{bytes_decides}
use Rattle.std.specs.List.{list_any}
use Rattle.std.specs.Option.{option_map_or}
use Rattle.std.proofs.lemmas.List.Elements.{All-contains, All-contains_itself}
use Rattle.vr_base.specs.Rights.{word_on, has_bit, fd_write, path_create_file, path_filestat_get, path_filestat_set_size, fd_filestat_set_size, path_open, path_unlink_file}
use Rattle.vr_pipe.specs.Trees.{PipeTree, programs_of, tests_of}
use Rattle.vr_policy_check.specs.Rules.{CheckedData}
use Rattle.vr_policy_read.specs.declared.entries.Program.{Program}
use Rattle.vr_rights.specs.Flows.{is_among, programs_run, program_observes, program_modifies, pipeline_observes, pipeline_modifies, word_observes, word_modifies}
use Rattle.vr_rights.specs.Regions.{region_of}
use Rattle.vr_rights.specs.Tables.{names_of}
use Rattle.vr_rights.specs.Words.{word_in}
use Rattle.vr_rights.proofs.FlowLemmas.{observes_what_it_modifies, pipeline_observes_what_it_modifies}
use Rattle.vr_rights.proofs.LongestLemmas.{Contains-filter}
use Rattle.vr_rights.proofs.MakingLemmas.{known_names_of}
use Rattle.vr_rights.proofs.PrefixLemmas.{prefix_length}
use Rattle.vr_rights.proofs.RegionLemmas.{region_is, covers_itself, covers_prefix}
use Rattle.vr_rights.proofs.WordLemmas.{law_inside, law_outside}
use Rattle.vr_wasi_fs.specs.Agreement.{is_observing, is_modifying}
use Rattle.vr_exec.specs.Outcomes.{modifies_path}
use Rattle.vr_exec.specs.Runs.{grants_at}
use Rattle.vr_exec.specs.Starts.{observes_path}
use Rattle.vr_exec.proofs.ListLemmas.{any_among, find_has}
use Rattle.vr_exec.proofs.PathLemmas.{NoDirectory}

-- ---- words

three_ways : (a b c : Bool) → ((a || b) || c) ≡ (a || (b || (c || false)))
three_ways true b c = refl
three_ways false true c = refl
three_ways false false true = refl
three_ways false false false = refl

four_ways : (a b c d : Bool) → (((a || b) || c) || d) ≡ (a || (b || (c || (d || false))))
four_ways true b c d = refl
four_ways false true c d = refl
four_ways false false c d = three_ways false c d

observing_word : (word : ℕ) → is_observing word ≡ word_observes word
observing_word word = three_ways (has_bit word path_open) (has_bit word path_filestat_get) (has_bit word path_unlink_file)

modifying_word : (word : ℕ) → is_modifying word ≡ word_modifies word
modifying_word word =
    ap (λ b. has_bit word path_unlink_file || (has_bit word path_open && b))
    (four_ways (has_bit word fd_write) (has_bit word path_create_file) (has_bit word path_filestat_set_size) (has_bit word fd_filestat_set_size))

-- what a program may change it may learn of
pub modifying_observes : (word : ℕ) → is_modifying word ≡ true → is_observing word ≡ true
modifying_observes word h = observing_word word ∙ observes_what_it_modifies word (sym (modifying_word word) ∙ h)

-- ---- lists

among : (paths : List (List ℕ)) (path : List ℕ) → Contains paths path → is_among paths path ≡ true
among paths path h = any_among (bytes_eq path) paths path h ((bytes_decides path path).1 refl)

or_left : (a b : Bool) → a ≡ true → (a || b) ≡ true
or_left true b h = refl
or_left false b h = cc

or_right : (a b : Bool) → b ≡ true → (a || b) ≡ true
or_right true b h = refl
or_right false b h = h

-- ---- programs of a pipeline

module _ (checked : CheckedData) (pipe : PipeTree) where
  -- a program does it, so the pipeline does
  some_program : (test : Program → List ℕ → Bool) (program : Program) (region : List ℕ) → Contains checked.policy.programs program → Contains (programs_of pipe) program.name
      → test program region ≡ true → list_any (λ (p : Program). test p region) (programs_run checked.policy pipe) ≡ true
  some_program test program region listed named h =
      any_among (λ (p : Program). test p region) (programs_run checked.policy pipe) program
      (Contains-filter (λ (p : Program). is_among (programs_of pipe) p.name) checked.policy.programs program listed (among (programs_of pipe) program.name named)) h

  pipeline_sees : (program : Program) (region : List ℕ) → Contains checked.policy.programs program → Contains (programs_of pipe) program.name
      → word_observes (word_in region program.grants) ≡ true → pipeline_observes checked.policy pipe region ≡ true
  pipeline_sees program region listed named h =
      or_right (is_among (programs_of pipe) region) _ (or_right (is_among (tests_of pipe) region) _ (some_program program_observes program region listed named h))

  pipeline_changes : (program : Program) (region : List ℕ) → Contains checked.policy.programs program → Contains (programs_of pipe) program.name
      → word_modifies (word_in region program.grants) ≡ true → pipeline_modifies checked.policy pipe region ≡ true
  pipeline_changes program region listed named h = some_program program_modifies program region listed named h

  -- a test of the region, by the word on a path
  by_region : (test : List ℕ → Bool) (word_test : ℕ → Bool) (program : Program) (path : List ℕ) → Contains checked.policy.programs program
      → ((region : List ℕ) → word_test (word_in region program.grants) ≡ true → test region ≡ true)
      → word_test 0 ≡ false → word_test (word_on path program.grants) ≡ true
      → option_map_or test (region_of (names_of checked) path) false ≡ true
  by_region test word_test program path listed inside outside h = by_cases (region_of (names_of checked) path) refl
    where
      known : All (λ (grant : List ℕ × ℕ). Contains (names_of checked) grant.0) program.grants
      known =
          All-contains (λ (p : Program). All (λ (grant : List ℕ × ℕ). Contains (names_of checked) grant.0) p.grants) checked.policy.programs program
          (known_names_of (names_of checked) checked (All-contains_itself (names_of checked))).programs listed

      by_cases : (region : Option (List ℕ)) → region_of (names_of checked) path ≡ region → option_map_or test region false ≡ true
      by_cases None e = let none : word_on path program.grants ≡ 0 = law_outside (names_of checked) path program.grants known e in
          let no : word_test (word_on path program.grants) ≡ false = ap word_test none ∙ outside in cc
      by_cases (Some region) e = inside region (ap word_test (sym (law_inside (names_of checked) path region program.grants known e)) ∙ h)

  -- the grants of a program by its path: a word that passes a test is that of a listed program
  by_grants : (word_test : ℕ → Bool) (test : List ℕ → Bool) (name path : List ℕ) → Contains (programs_of pipe) name → word_test 0 ≡ false
      → ((program : Program) → Contains checked.policy.programs program → Contains (programs_of pipe) program.name
      → (region : List ℕ) → word_test (word_in region program.grants) ≡ true → test region ≡ true)
      → word_test (word_on path (grants_at checked.policy name)) ≡ true
      → option_map_or test (region_of (names_of checked) path) false ≡ true
  by_grants word_test test name path named outside inside h = by_cases (find (λ (listed : Program). bytes_eq listed.name name) checked.policy.programs) refl h
    where
      by_cases : (found : Option Program) → find (λ (listed : Program). bytes_eq listed.name name) checked.policy.programs ≡ found
          → word_test (word_on path (unwrap_or (option_map (λ (listed : Program). listed.grants) found) [])) ≡ true
          → option_map_or test (region_of (names_of checked) path) false ≡ true
      by_cases None e t = let no : word_test 0 ≡ true = t in cc
      by_cases (Some program) e t =
          let has = find_has (λ (listed : Program). bytes_eq listed.name name) checked.policy.programs program e in
          let same : program.name ≡ name = (bytes_decides program.name name).0 has.1 in
          by_region test word_test program path has.0 (inside program has.0 (subst (λ n. Contains (programs_of pipe) n) (sym same) named)) outside t

  -- what a program of the pipeline may learn of, the pipeline observes
  pub program_sees : (name path : List ℕ) → Contains (programs_of pipe) name → is_observing (word_on path (grants_at checked.policy name)) ≡ true → observes_path checked pipe path ≡ true
  program_sees name path named h =
      by_grants is_observing (pipeline_observes checked.policy pipe) name path named refl
      (λ program listed there region t. pipeline_sees program region listed there (sym (observing_word (word_in region program.grants)) ∙ t)) h

  -- what a program of the pipeline may change, the pipeline modifies
  pub program_changes : (name path : List ℕ) → Contains (programs_of pipe) name → is_modifying (word_on path (grants_at checked.policy name)) ≡ true → modifies_path checked pipe path ≡ true
  program_changes name path named h =
      by_grants is_modifying (pipeline_modifies checked.policy pipe) name path named refl
      (λ program listed there region t. pipeline_changes program region listed there (sym (modifying_word (word_in region program.grants)) ∙ t)) h

  -- what a pipeline modifies it observes
  pub modifies_observes : (path : List ℕ) → modifies_path checked pipe path ≡ true → observes_path checked pipe path ≡ true
  modifies_observes path h = by_cases (region_of (names_of checked) path) h
    where
      by_cases : (region : Option (List ℕ)) → option_map_or (pipeline_modifies checked.policy pipe) region false ≡ true → option_map_or (pipeline_observes checked.policy pipe) region false ≡ true
      by_cases None t = cc
      by_cases (Some region) t = pipeline_observes_what_it_modifies checked.policy pipe region t

  -- a path that is a name, and no directory, is its own region
  own_region : (path : List ℕ) → Contains (names_of checked) path → NoDirectory path → region_of (names_of checked) path ≡ Some path
  own_region path there file =
      region_is (names_of checked) path path there (covers_itself path file)
      (λ k d l e. prefix_length (get_or (names_of checked) k d) path (covers_prefix (get_or (names_of checked) k d) path e))

  -- a pipeline observes the files of its programs
  pub sees_program : (path : List ℕ) → Contains (names_of checked) path → NoDirectory path → Contains (programs_of pipe) path → observes_path checked pipe path ≡ true
  sees_program path there file named =
      ap (λ r. option_map_or (pipeline_observes checked.policy pipe) r false) (own_region path there file) ∙ or_left (is_among (programs_of pipe) path) _ (among (programs_of pipe) path named)

  -- and those of its tests
  pub sees_test : (path : List ℕ) → Contains (names_of checked) path → NoDirectory path → Contains (tests_of pipe) path → observes_path checked pipe path ≡ true
  sees_test path there file named =
      ap (λ r. option_map_or (pipeline_observes checked.policy pipe) r false) (own_region path there file)
      ∙ or_right (is_among (programs_of pipe) path) _ (or_left (is_among (tests_of pipe) path) _ (among (tests_of pipe) path named))
