-- A policy that the rules let pass is what they say.
use Rattle.std.proofs.Common.{◌≡◌, ℕ, ◌<◌, Bool, true, false, not, cond, eqb, List, [], ◌∷◌, length, map, get_or, Option, None, Some, is_some, Result, Ok, Err, All, ap, sym, ◌∙◌, subst, refl, arith, bytes_eq, nat_eq, eq-eqb, length-append, ◌^◌}
use Rattle.std.specs.Prelude.{position, Contains}
use Rattle.std.specs.List.{list_any}
use Rattle.std.proofs.lemmas.List.Folds.{list_any_at, Any-from_list_any}
use Rattle.std.proofs.lemmas.List.Sums.{AllPass-from_list_all}
use Rattle.std.proofs.lemmas.List.{length-map}
use Rattle.std.proofs.lemmas.Slice.Eq.{bytes_eq-Decides}
use Rattle.std.proofs.lemmas.Slice.Zip.{AllZip-long}
use Rattle.std.proofs.lemmas.List.Elements.{All-append, All-map}
use Rattle.vr_base.specs.Checks.{◌>>=◌, ◌>>◌}
use Rattle.vr_base.specs.Names.{names_directory}
use Rattle.vr_policy_read.specs.PolicyData.{PolicyData, IsWithinLimits, IsShort}
use Rattle.vr_policy_read.specs.declared.entries.Identity.{Identity}
use Rattle.vr_policy_read.specs.declared.entries.Program.{Program}
use Rattle.vr_pipe.specs.declared.trees.Tree.{Tree}
use Rattle.vr_pipe.specs.Trees.{pipe_tree, programs_of}
use Rattle.vr_policy_check.specs.declared.faults.CheckKind.{CheckKind}
use Rattle.vr_policy_check.specs.declared.faults.CheckKind.TheVariants as kinds
use Rattle.vr_policy_check.specs.declared.faults.CheckFault.{CheckFault}
use Rattle.vr_policy_check.specs.Checked.{IsChecked}
use Rattle.vr_policy_check.specs.Repeats.{first_repeat, IsDistinct}
use Rattle.vr_policy_check.specs.Rules.{CheckedData, checked_data, rule, no_identity, same_identity, same_program, same_pipeline, same_pin, grant_twice, directory_as_program, has_programs, unlisted_among, unlisted_program, trees_from, check_of, program_names, grant_lists, grant_names}
use Rattle.vr_policy_check.proofs.PlaceLemmas.{is_some-position}
use Rattle.vr_policy_check.proofs.RepeatLemmas.{distinct}
use Rattle.vr_policy_check.proofs.TreeLemmas.{trees_spelled}

-- ---- a rule that holds

holds : (kind : CheckKind) (failing : Option ℕ) {u : Unit {0}} → rule kind failing ≡ Ok u → failing ≡ None
holds kind None h = refl
holds kind (Some at) h = cc

-- a rule and what comes after it were passed
pub record Both {B : Type 0} (kind : CheckKind) (failing : Option ℕ) (rest : Result B CheckFault) (x : B) : Type 0 where
  pub first : failing ≡ None
  pub others : rest ≡ Ok x

both : {B : Type 0} (kind : CheckKind) (failing : Option ℕ) (rest : Result B CheckFault) (x : B) → (rule kind failing >> rest) ≡ Ok x → Both kind failing rest x
both kind None rest x h = record { first = refl; others = h }
both kind (Some at) rest x h = cc

-- ---- what each of them says

distinct_ids : (ids : List ℕ) → first_repeat nat_eq ids ≡ None → IsDistinct ids
distinct_ids ids h = distinct nat_eq (λ x y e. eq-eqb y x (sym e)) ids h

distinct_names : (names : List (List ℕ)) → first_repeat bytes_eq names ≡ None → IsDistinct names
distinct_names names h = distinct bytes_eq (λ x y e. (bytes_eq-Decides y x).1 (sym e)) names h

none_passes : {X : Type 0} (p : X → Bool) (xs : List X) → position p xs ≡ None → All (λ x. p x ≡ false) xs
none_passes p xs h k d within = by_case (p (get_or xs k d)) refl
  where
    by_case : (b : Bool) → p (get_or xs k d) ≡ b → b ≡ false
    by_case true passes =
        let found = list_any_at p xs k d within passes in
        let none = sym (is_some-position p xs) ∙ ap is_some h in
        cc
    by_case false passes = refl

none_some : (names : List (List ℕ)) (o : Option ℕ) → first_repeat bytes_eq names ≡ o → is_some o ≡ false → IsDistinct names
none_some names None is h = distinct_names names is
none_some names (Some at) is h = cc

some_entry : {A : Type 0} (entries : List A) → cond {A = Option ℕ} (eqb (length entries) 0) (Some 0) None ≡ None → 0 < length entries
some_entry [] h = cc
some_entry (entry ∷ entries) h = omega arith

negated : (b : Bool) → not b ≡ false → b ≡ true
negated true h = refl
negated false h = cc

contained : (names : List (List ℕ)) (path : List ℕ) → list_any (bytes_eq path) names ≡ true → Contains names path
contained names path h =
    let found = Any-from_list_any (bytes_eq path) names h in
    let same : path ≡ found.1 = (bytes_eq-Decides path found.1).0 found.4 in
    let P : List ℕ → Type 0 = λ name. get_or names found.0 name ≡ name in
    (found.0, found.2, subst P (sym same) found.3)

listed : (names : List (List ℕ)) (trees : List Tree) → unlisted_among names trees ≡ None
    → All (λ tree. All (Contains names) (programs_of (pipe_tree tree))) trees
listed names trees h k d within =
    let all = negated _ (none_passes (λ tree. not (has_programs names tree)) trees h k d within) in
    λ i e inside. contained names _ (AllPass-from_list_all (λ path. list_any (bytes_eq path) names) _ all i e inside)

-- ---- all of them

bound : {A B : Type 0} (r : Result A CheckFault) (rest : A → Result B CheckFault) (x : B) → (r >>= rest) ≡ Ok x → (a : A) × (r ≡ Ok a) × (rest a ≡ Ok x)
bound (Ok a) rest x h = (a, refl, h)
bound (Err e) rest x h = cc

-- what the definition lets pass meets every rule
pub checked_of : (policy : PolicyData) (checked : CheckedData) → IsWithinLimits policy → check_of policy ≡ Ok checked → IsChecked checked
unfolding check_of
checked_of policy checked limits h =
    let a = both kinds.NoIdentity (no_identity policy) _ checked h in
    let b = both kinds.SameIdentity (same_identity policy) _ checked a.others in
    let c = both kinds.SameProgram (same_program policy) _ checked b.others in
    let d = both kinds.SamePipeline (same_pipeline policy) _ checked c.others in
    let e = both kinds.SamePin (same_pin policy) _ checked d.others in
    let f = both kinds.GrantTwice (grant_twice policy) _ checked e.others in
    let g = both kinds.DirectoryAsProgram (directory_as_program policy) _ checked f.others in
    let trees = bound (trees_from 0 policy.pipelines) _ checked g.others in
    let i = both kinds.UnlistedProgram (unlisted_program policy trees.0) (Ok (checked_data policy trees.0)) checked trees.2 in
    let same : checked_data policy trees.0 ≡ checked = cc in
    let whole : IsChecked (checked_data policy trees.0) = record {
      limits = limits;
      some_identity = some_entry policy.identities a.first;
      identities = distinct_ids _ b.first;
      programs = distinct_names _ c.first;
      pipelines = distinct_ids _ d.first;
      pins = distinct_names _ e.first;
      grants = λ k x within. none_some _ _ refl (none_passes (λ grants. is_some (first_repeat bytes_eq (grant_names grants))) (grant_lists policy) f.first k x within);
      no_directory = none_passes (λ program. names_directory program.name) policy.programs g.first;
      trees = trees_spelled 0 policy.pipelines trees.0 trees.1;
      listed = listed (program_names policy) trees.0 i.first;
    } in
    subst IsChecked same whole

-- within the limits no list of grants is long
pub grants_short : (policy : PolicyData) → IsWithinLimits policy → All IsShort (grant_lists policy)
grants_short policy limits =
    All-append IsShort _ _ (All-map IsShort (λ (identity : Identity). identity.grants) policy.identities limits.grants_of_identities)
    (All-map IsShort (λ (program : Program). program.grants) policy.programs limits.grants_of_programs)

-- there is a tree for each pipeline
pub as_many_trees : (checked : CheckedData) → IsChecked checked → length checked.pipes ≡ length checked.policy.pipelines
as_many_trees checked h = AllZip-long _ checked.policy.pipelines checked.pipes h.trees

pub lists_few : (policy : PolicyData) → IsWithinLimits policy → length (grant_lists policy) < 2 ^ 32
lists_few policy limits =
    let both_lists = length-append (map (λ (identity : Identity). identity.grants) policy.identities) (map (λ (program : Program). program.grants) policy.programs) in
    let first = length-map policy.identities (λ (identity : Identity). identity.grants) in
    let second = length-map policy.programs (λ (program : Program). program.grants) in
    omega (arith, both_lists, first, second, limits.identities, limits.programs)

-- there are no more trees than pipelines
pub few_trees : (policy : PolicyData) (trees : List Tree) → IsWithinLimits policy → trees_from 0 policy.pipelines ≡ Ok trees → IsShort trees
few_trees policy trees limits is = omega (arith, limits.pipelines, AllZip-long _ policy.pipelines trees (trees_spelled 0 policy.pipelines trees is))
