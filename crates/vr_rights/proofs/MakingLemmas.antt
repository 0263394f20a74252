-- The parts that are made of a checked policy keep what they have to, and tell what the policy says.
use Rattle.std.proofs.Common.{◌≡◌, ℕ, ◌<◌, ◌≤◌, false, not, List, [], ◌++◌, length, map, position, Option, None, All, Contains, refl, sym, ◌∙◌, ap, ◌⊎◌, inl, inr, get_or, subst, arith}
use Rattle.std.specs.List.{AllZip, flat_map}
use Rattle.std.proofs.lemmas.Bool.{cases_lt}
use Rattle.std.proofs.Math.Nat.{eq-or-lt_of_le}
use Rattle.std.proofs.lemmas.List.{get_or-map, get_or_default, length-map}
use Rattle.std.proofs.lemmas.List.Elements.{All-contains, All-map, All-weaker, Contains-get_or}
use Rattle.std.proofs.lemmas.List.Sorted.{Contains-permutation, IsPermutation-sym}
use Rattle.vr_base.specs.Names.{names_directory}
use Rattle.vr_base.specs.Rights.{has_bit, execute}
use Rattle.vr_policy_read.specs.declared.entries.Identity.{Identity}
use Rattle.vr_policy_read.specs.declared.entries.Program.{Program}
use Rattle.vr_policy_read.specs.declared.entries.Pipeline.{Pipeline}
use Rattle.vr_policy_read.specs.declared.entries.Quota.{Quota}
use Rattle.vr_pipe.specs.declared.trees.Tree.{Tree}
use Rattle.vr_pipe.specs.Grammar.{Spells}
use Rattle.vr_pipe.specs.Trees.{PipeTree, pipe_tree, programs_of, tests_of}
use Rattle.vr_policy_check.specs.Checked.{IsChecked}
use Rattle.vr_policy_check.specs.Repeats.{IsDistinct}
use Rattle.vr_policy_check.specs.Rules.{CheckedData, grant_names, program_names, pin_paths}
use Rattle.vr_rights.specs.Holders.{HasOneOfEach, grants_at, AreWordsOf}
use Rattle.vr_rights.specs.Kept.{words_over, missing_place, tables_of, KeepsRegions, IsHolder, ArePlaces}
use Rattle.vr_rights.specs.Quotas.{quota_of}
use Rattle.vr_rights.specs.Tables.{RegionsData, HasEntry, names_of, names_of_pipes, tables_over}
use Rattle.vr_rights.specs.Words.{word_in, may_execute, missing_program}
use Rattle.vr_rights.proofs.PositionLemmas.{position_agree, position-map}
use Rattle.vr_rights.proofs.WordLemmas.{word_same, word_on_path}
use Rattle.vr_rights.proofs.ZipLemmas.{zip_all, zip_map, map_same, All-left, All-right, All-mapped, All-flat}

-- ---- the names are known

pub record AreKnown (names : List (List ℕ)) (checked : CheckedData) : Type 0 where
  pub identities : All (λ identity. All (λ grant. Contains names grant.0) identity.grants) checked.policy.identities
  pub programs : All (λ program. All (λ grant. Contains names grant.0) program.grants) checked.policy.programs
  pub pipelines : All (λ pipe. All (Contains names) (programs_of (pipe_tree pipe) ++ tests_of (pipe_tree pipe))) checked.pipes
  pub quotas : All (λ quota. Contains names quota.name) checked.policy.quotas

pub known_names_of : (names : List (List ℕ)) (checked : CheckedData) → All (Contains names) (names_of checked) → AreKnown names checked
known_names_of names checked h =
    let known = Contains names in
    let of_identities = flat_map (λ (i : Identity). grant_names i.grants) checked.policy.identities in
    let of_programs = flat_map (λ (p : Program). grant_names p.grants) checked.policy.programs in
    let of_pipes = names_of_pipes checked.pipes in
    let of_quotas = map (λ (q : Quota). q.name) checked.policy.quotas in
    let from_pipes = of_pipes ++ of_quotas in
    let from_pins = pin_paths checked.policy ++ from_pipes in
    let from_names = program_names checked.policy ++ from_pins in
    let after_identities = All-right known of_identities (of_programs ++ from_names) h in
    let after_pins = All-right known (pin_paths checked.policy) from_pipes (All-right known (program_names checked.policy) from_pins (All-right known of_programs from_names after_identities)) in
    record {
      identities = All-weaker (λ (i : Identity). All known (grant_names i.grants)) (λ (i : Identity). All (λ grant. known grant.0) i.grants) (λ i k. All-mapped known (λ (g : List ℕ × ℕ). g.0) i.grants k) checked.policy.identities
          (All-flat known (λ (i : Identity). grant_names i.grants) checked.policy.identities (All-left known of_identities (of_programs ++ from_names) h));
      programs = All-weaker (λ (p : Program). All known (grant_names p.grants)) (λ (p : Program). All (λ grant. known grant.0) p.grants) (λ p k. All-mapped known (λ (g : List ℕ × ℕ). g.0) p.grants k) checked.policy.programs
          (All-flat known (λ (p : Program). grant_names p.grants) checked.policy.programs (All-left known of_programs from_names after_identities));
      pipelines = All-flat known (λ (p : Tree). programs_of (pipe_tree p) ++ tests_of (pipe_tree p)) checked.pipes (All-left known of_pipes of_quotas after_pins);
      quotas = All-mapped known (λ (q : Quota). q.name) checked.policy.quotas (All-right known of_pipes of_quotas after_pins);
    }

-- those of the programs of the pipelines alone
pub known_programs : (names : List (List ℕ)) (checked : CheckedData) → AreKnown names checked → All (λ pipe. All (Contains names) (programs_of (pipe_tree pipe))) checked.pipes
known_programs names checked known =
    let programs = λ (p : Tree). programs_of (pipe_tree p) in
    let tests = λ (p : Tree). tests_of (pipe_tree p) in
    All-weaker (λ p. All (Contains names) (programs p ++ tests p)) (λ p. All (Contains names) (programs p)) (λ p k. All-left (Contains names) (programs p) (tests p) k) checked.pipes known.pipelines

-- ---- no two grants of a holder have one name

pub one_of_distinct : (grants : List (List ℕ × ℕ)) → IsDistinct (grant_names grants) → HasOneOfEach grants
one_of_distinct grants distinct g h (i, hi, ei) (j, hj, ej) e = by_cases (cases_lt i j)
  where
    read : (k : ℕ) (x : List ℕ × ℕ) → k < length grants → get_or grants k x ≡ x → get_or (grant_names grants) k [] ≡ x.0
    read k x l r = get_or-map (λ (y : List ℕ × ℕ). y.0) grants k x [] l ∙ ap (λ (y : List ℕ × ℕ). y.0) r

    never : (i j : ℕ) (x y : List ℕ × ℕ) → i < j → i < length grants → j < length grants → get_or grants i x ≡ x → get_or grants j y ≡ y → x.0 ≡ y.0 → ⊥
    never i j x y l hi hj ei ej e = distinct i j [] l (rw length-map hj) (read i x hi ei ∙ e ∙ sym (read j y hj ej))

    by_cases : (i < j) ⊎ (j ≤ i) → g ≡ h
    by_cases (inl l) = absurd (never i j g h l hi hj ei ej e)
    by_cases (inr le) = elim (eq-or-lt_of_le le) [
      | inl same ↦ sym ei ∙ get_or_default grants i g h hi ∙ ap (λ k. get_or grants k h) (sym same) ∙ ej
      | inr l ↦ absurd (never j i h g l hj hi ej ei (sym e))
    ]

module _ (checked : CheckedData) (h : IsChecked checked) where
  pub identities_distinct : All (λ identity. HasOneOfEach identity.grants) checked.policy.identities
  identities_distinct = All-weaker (λ (i : Identity). IsDistinct (grant_names i.grants)) (λ (i : Identity). HasOneOfEach i.grants) (λ i d. one_of_distinct i.grants d) checked.policy.identities
      (All-mapped (λ grants. IsDistinct (grant_names grants)) (λ (i : Identity). i.grants) checked.policy.identities (All-left (λ grants. IsDistinct (grant_names grants)) _ _ h.grants))

  pub programs_distinct : All (λ program. HasOneOfEach program.grants) checked.policy.programs
  programs_distinct = All-weaker (λ (p : Program). IsDistinct (grant_names p.grants)) (λ (p : Program). HasOneOfEach p.grants) (λ p d. one_of_distinct p.grants d) checked.policy.programs
      (All-mapped (λ grants. IsDistinct (grant_names grants)) (λ (p : Program). p.grants) checked.policy.programs (All-right (λ grants. IsDistinct (grant_names grants)) _ _ h.grants))

  files : All (λ name. names_directory name ≡ false) (program_names checked.policy)
  files = All-map (λ name. names_directory name ≡ false) (λ (p : Program). p.name) checked.policy.programs h.no_directory

  pub programs_are_files : All (λ pipe. All (λ path. names_directory path ≡ false) (programs_of (pipe_tree pipe))) checked.pipes
  programs_are_files = λ k d l. λ j e m. All-contains (λ name. names_directory name ≡ false) (program_names checked.policy) (get_or (programs_of (pipe_tree (get_or checked.pipes k d))) j e) files (h.listed k d l j e m)

  pub few_programs : All (λ pipe. length (programs_of (pipe_tree pipe)) ≤ 64) checked.pipes
  few_programs = zip_all (λ (pipeline : Pipeline) (pipe : Tree). Spells pipeline.text (pipe_tree pipe)) (λ pipeline. Unit {0}) (λ pipe. length (programs_of (pipe_tree pipe)) ≤ 64) (λ pipeline pipe u s. s.programs) checked.policy.pipelines checked.pipes (λ k d l. tt) h.trees

-- ---- one holder

module _ (names : List (List ℕ)) (grants : List (List ℕ × ℕ)) (words : List (ℕ × ℕ)) (one : HasOneOfEach grants) (holder : IsHolder names grants words) where
  back : (g : List ℕ × ℕ) → Contains (grants_at names words) g → Contains grants g
  back g there = Contains-permutation (grants_at names words) grants g (IsPermutation-sym grants (grants_at names words) holder.same) there

  pub words_of_holder : AreWordsOf names words
  words_of_holder = record { known = holder.known; one_of_each = λ g h there here e. one g h (back g there) (back h here) e }

  pub word_of_holder : (region : List ℕ) → word_in region grants ≡ word_in region (grants_at names words)
  word_of_holder region = word_same region grants (grants_at names words) one words_of_holder.one_of_each
      (λ k d l. Contains-permutation grants (grants_at names words) (get_or grants k d) holder.same (Contains-get_or grants k d l))
      (λ k d l. back (get_or (grants_at names words) k d) (Contains-get_or (grants_at names words) k d l))

  pub missing_of_holder : (pipeline : PipeTree) (places : List ℕ) → ArePlaces names (programs_of pipeline) places → All (λ path. names_directory path ≡ false) (programs_of pipeline)
      → missing_program grants pipeline ≡ missing_place names words places
  missing_of_holder pipeline places are files =
      ap (position (λ path. not (may_execute grants path))) (sym are.same) ∙ position-map (λ path. not (may_execute grants path)) (λ place. get_or names place []) places
      ∙ position_agree (λ place. not (may_execute grants (get_or names place []))) (λ place. not (has_bit (word_in (get_or names place []) (grants_at names words)) execute)) places
      (λ k d l. ap (λ w. not (has_bit w execute)) (word_on_path (get_or names (get_or places k d) []) grants (file (get_or places k d) (Contains-get_or places k d l)) ∙ word_of_holder (get_or names (get_or places k d) [])))
    where
      paths_files : All (λ path. names_directory path ≡ false) (map (λ place. get_or names place []) places)
      paths_files = subst (All (λ path. names_directory path ≡ false)) (sym are.same) files

      file : (place : ℕ) → Contains places place → names_directory (get_or names place []) ≡ false
      file place there = All-contains (λ p. names_directory (get_or names p []) ≡ false) places place (All-mapped (λ path. names_directory path ≡ false) (λ p. get_or names p []) places paths_files) there

-- ---- all of them

pub record AreParts (checked : CheckedData) (names : List (List ℕ)) (identities programs : List (List (ℕ × ℕ))) (pipelines : List (List ℕ)) (quotas : List (Option ℕ)) : Type 0 where
  pub identities_are : AllZip (λ identity words. IsHolder names identity.grants words) checked.policy.identities identities
  pub programs_are : AllZip (λ program words. IsHolder names program.grants words) checked.policy.programs programs
  pub pipelines_are : AllZip (λ pipe places. ArePlaces names (programs_of (pipe_tree pipe)) places) checked.pipes pipelines
  pub quotas_are : quotas ≡ map (λ name. quota_of name checked.policy.quotas) names

module _ (checked : CheckedData) (h : IsChecked checked) (names : List (List ℕ)) (identities programs : List (List (ℕ × ℕ))) (pipelines : List (List ℕ)) (quotas : List (Option ℕ))
    (parts : AreParts checked names identities programs pipelines quotas) where
  pub parts_keep : KeepsRegions names identities programs pipelines quotas
  parts_keep = record {
    identities_are = zip_all (λ (i : Identity) (words : List (ℕ × ℕ)). IsHolder names i.grants words) (λ i. HasOneOfEach i.grants) (AreWordsOf names) (λ i words one holder. words_of_holder names i.grants words one holder) checked.policy.identities identities (identities_distinct checked h) parts.identities_are;
    programs_are = zip_all (λ (p : Program) (words : List (ℕ × ℕ)). IsHolder names p.grants words) (λ p. HasOneOfEach p.grants) (AreWordsOf names) (λ p words one holder. words_of_holder names p.grants words one holder) checked.policy.programs programs (programs_distinct checked h) parts.programs_are;
    pipelines_are = zip_all (λ (pipe : Tree) (places : List ℕ). ArePlaces names (programs_of (pipe_tree pipe)) places) (λ pipe. Unit {0}) (λ places. All (λ place. place < length names) places) (λ pipe places u are. are.known) checked.pipes pipelines (λ k d l. tt) parts.pipelines_are;
    few_programs = zip_all (λ (pipe : Tree) (places : List ℕ). ArePlaces names (programs_of (pipe_tree pipe)) places) (λ pipe. length (programs_of (pipe_tree pipe)) ≤ 64) (λ places. length places ≤ 64)
        (λ pipe places few are. (let same : length places ≡ length (programs_of (pipe_tree pipe)) = sym (length-map places (λ place. get_or names place [])) ∙ ap length are.same in omega arith)) checked.pipes pipelines (few_programs checked h) parts.pipelines_are;
    quotas_are = ap length parts.quotas_are ∙ length-map names (λ name. quota_of name checked.policy.quotas);
  }

  pub parts_tell : tables_of names identities programs pipelines quotas ≡ tables_over names checked
  parts_tell = rw (← of_identities, ← of_programs, ← of_missing, parts.quotas_are) refl
    where
      of_identities : map (λ identity. map (λ name. word_in name identity.grants) names) checked.policy.identities ≡ map (words_over names) identities
      of_identities = zip_map (λ (i : Identity) (words : List (ℕ × ℕ)). IsHolder names i.grants words) (λ i. HasOneOfEach i.grants) (λ i. map (λ name. word_in name i.grants) names) (words_over names)
          (λ i words one holder. map_same (λ name. word_in name i.grants) (λ name. word_in name (grants_at names words)) names (word_of_holder names i.grants words one holder)) checked.policy.identities identities (identities_distinct checked h) parts.identities_are

      of_programs : map (λ program. map (λ name. word_in name program.grants) names) checked.policy.programs ≡ map (words_over names) programs
      of_programs = zip_map (λ (p : Program) (words : List (ℕ × ℕ)). IsHolder names p.grants words) (λ p. HasOneOfEach p.grants) (λ p. map (λ name. word_in name p.grants) names) (words_over names)
          (λ p words one holder. map_same (λ name. word_in name p.grants) (λ name. word_in name (grants_at names words)) names (word_of_holder names p.grants words one holder)) checked.policy.programs programs (programs_distinct checked h) parts.programs_are

      of_missing : map (λ identity. map (λ pipe. missing_program identity.grants (pipe_tree pipe)) checked.pipes) checked.policy.identities ≡ map (λ words. map (missing_place names words) pipelines) identities
      of_missing = zip_map (λ (i : Identity) (words : List (ℕ × ℕ)). IsHolder names i.grants words) (λ i. HasOneOfEach i.grants) (λ i. map (λ pipe. missing_program i.grants (pipe_tree pipe)) checked.pipes) (λ words. map (missing_place names words) pipelines)
          (λ i words one holder. zip_map (λ (pipe : Tree) (places : List ℕ). ArePlaces names (programs_of (pipe_tree pipe)) places) (λ pipe. All (λ path. names_directory path ≡ false) (programs_of (pipe_tree pipe)))
          (λ pipe. missing_program i.grants (pipe_tree pipe)) (missing_place names words) (λ pipe places files are. missing_of_holder names i.grants words one holder (pipe_tree pipe) places are files) checked.pipes pipelines (programs_are_files checked h) parts.pipelines_are)
          checked.policy.identities identities (identities_distinct checked h) parts.identities_are

-- ---- an entry of the table of missing programs

pub missing_entry : (names : List (List ℕ)) (identities : List (List (ℕ × ℕ))) (pipelines : List (List ℕ)) (identity pipeline : ℕ) (words : List (ℕ × ℕ)) (places : List ℕ)
    → identity < length identities → words ≡ get_or identities identity words → pipeline < length pipelines → places ≡ get_or pipelines pipeline places
    → get_or (get_or (map (λ w. map (missing_place names w) pipelines) identities) identity []) pipeline None ≡ missing_place names words places
missing_entry names identities pipelines identity pipeline words places hi wi hp wp =
    let row : get_or (map (λ w. map (missing_place names w) pipelines) identities) identity [] ≡ map (missing_place names words) pipelines =
    get_or-map (λ w. map (missing_place names w) pipelines) identities identity words [] hi ∙ ap (λ w. map (missing_place names w) pipelines) (sym wi) in
    ap (λ r. get_or r pipeline None) row ∙ get_or-map (missing_place names words) pipelines pipeline places None hp ∙ ap (missing_place names words) (sym wp)

-- the holder and the pipeline of an entry are there
pub entry_within : (names : List (List ℕ)) (identities programs : List (List (ℕ × ℕ))) (pipelines : List (List ℕ)) (quotas : List (Option ℕ)) (regions : RegionsData) (identity pipeline : ℕ)
    → tables_of names identities programs pipelines quotas ≡ regions → HasEntry regions.missing identity pipeline → (identity < length identities) × (pipeline < length pipelines)
entry_within names identities programs pipelines quotas regions identity pipeline view h =
    let table : map (λ w. map (missing_place names w) pipelines) identities ≡ regions.missing = ap (λ (d : RegionsData). d.missing) view in
    let there : identity < length identities = rw length-map at (subst (λ t. identity < length t) (sym table) h.in_table) in
    let row : get_or (map (λ w. map (missing_place names w) pipelines) identities) identity [] ≡ map (missing_place names (get_or identities identity [])) pipelines =
    get_or-map (λ w. map (missing_place names w) pipelines) identities identity [] [] there in
    let in_row : pipeline < length (get_or (map (λ w. map (missing_place names w) pipelines) identities) identity []) = subst (λ t. pipeline < length (get_or t identity [])) (sym table) h.in_row in
    (there, rw (row, length-map) at in_row)
