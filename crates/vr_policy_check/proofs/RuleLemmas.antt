-- The answer of all rules, by those that were passed.
use Rattle.std.proofs.Common.{◌≡◌, ℕ, List, Option, Result, Ok, ap, sym, ◌∙◌, subst, refl}
use Rattle.vr_base.specs.Checks.{Told, Tells, ◌>>=◌, ◌>>◌}
use Rattle.vr_policy_read.specs.PolicyData.{PolicyData}
use Rattle.vr_pipe.specs.declared.trees.Tree.{Tree}
use Rattle.vr_policy_check.specs.declared.faults.CheckKind.{CheckKind}
use Rattle.vr_policy_check.specs.declared.faults.CheckKind.TheVariants.{NoIdentity, SameIdentity, SameProgram, SamePipeline, SamePin, GrantTwice, DirectoryAsProgram, UnlistedProgram}
use Rattle.vr_policy_check.specs.declared.faults.CheckFault.{CheckFault}
use Rattle.vr_policy_check.specs.Rules.{CheckedData, checked_data, rule, no_identity, same_identity, same_program, same_pipeline, same_pin, grant_twice, directory_as_program, unlisted_program, trees_from, check_of}
use Rattle.vr_policy_check.proofs.TellLemmas.{tells_then, tells_bind}

abbrev pub Checked : Type 0
Checked = Result (Unit {0}) CheckFault

-- ---- what is left after each rule

abbrev rest_8 : PolicyData → List Tree → Result CheckedData CheckFault
rest_8 policy trees = rule UnlistedProgram (unlisted_program policy trees) >> Ok (checked_data policy trees)

abbrev rest_7 : PolicyData → Result CheckedData CheckFault
rest_7 policy = trees_from 0 policy.pipelines >>= rest_8 policy

abbrev rest_6 : PolicyData → Result CheckedData CheckFault
rest_6 policy = rule DirectoryAsProgram (directory_as_program policy) >> rest_7 policy

abbrev rest_5 : PolicyData → Result CheckedData CheckFault
rest_5 policy = rule GrantTwice (grant_twice policy) >> rest_6 policy

abbrev rest_4 : PolicyData → Result CheckedData CheckFault
rest_4 policy = rule SamePin (same_pin policy) >> rest_5 policy

abbrev rest_3 : PolicyData → Result CheckedData CheckFault
rest_3 policy = rule SamePipeline (same_pipeline policy) >> rest_4 policy

abbrev rest_2 : PolicyData → Result CheckedData CheckFault
rest_2 policy = rule SameProgram (same_program policy) >> rest_3 policy

abbrev rest_1 : PolicyData → Result CheckedData CheckFault
rest_1 policy = rule SameIdentity (same_identity policy) >> rest_2 policy

module _ (policy : PolicyData) where
  -- the rules before the rest were passed
  pub record Past (rest : Result CheckedData CheckFault) : Type 0 where
    pub is : check_of policy ≡ rest

  passed : (kind : CheckKind) (failing : Option ℕ) (rest : Result CheckedData CheckFault) → Past (rule kind failing >> rest) → rule kind failing ≡ Ok tt → Past rest
  passed kind failing rest past holds = record { is = past.is ∙ ap (λ r. r >> rest) holds }

  abbrev Holds : CheckKind → Option ℕ → Type 0
  Holds kind failing = rule kind failing ≡ Ok tt

  pub past_1 : Holds NoIdentity (no_identity policy) → Past (rest_1 policy)
  unfolding check_of
  past_1 a = passed NoIdentity (no_identity policy) (rest_1 policy) (record { is = refl }) a

  pub past_2 : Holds NoIdentity (no_identity policy) → Holds SameIdentity (same_identity policy) → Past (rest_2 policy)
  past_2 a b = passed SameIdentity (same_identity policy) (rest_2 policy) (past_1 a) b

  pub past_3 : Holds NoIdentity (no_identity policy) → Holds SameIdentity (same_identity policy) → Holds SameProgram (same_program policy) → Past (rest_3 policy)
  past_3 a b c = passed SameProgram (same_program policy) (rest_3 policy) (past_2 a b) c

  pub past_4 : Holds NoIdentity (no_identity policy) → Holds SameIdentity (same_identity policy) → Holds SameProgram (same_program policy)
      → Holds SamePipeline (same_pipeline policy) → Past (rest_4 policy)
  past_4 a b c d = passed SamePipeline (same_pipeline policy) (rest_4 policy) (past_3 a b c) d

  pub past_5 : Holds NoIdentity (no_identity policy) → Holds SameIdentity (same_identity policy) → Holds SameProgram (same_program policy)
      → Holds SamePipeline (same_pipeline policy) → Holds SamePin (same_pin policy) → Past (rest_5 policy)
  past_5 a b c d e = passed SamePin (same_pin policy) (rest_5 policy) (past_4 a b c d) e

  pub past_6 : Holds NoIdentity (no_identity policy) → Holds SameIdentity (same_identity policy) → Holds SameProgram (same_program policy)
      → Holds SamePipeline (same_pipeline policy) → Holds SamePin (same_pin policy) → Holds GrantTwice (grant_twice policy) → Past (rest_6 policy)
  past_6 a b c d e f = passed GrantTwice (grant_twice policy) (rest_6 policy) (past_5 a b c d e) f

  pub past_7 : Holds NoIdentity (no_identity policy) → Holds SameIdentity (same_identity policy) → Holds SameProgram (same_program policy)
      → Holds SamePipeline (same_pipeline policy) → Holds SamePin (same_pin policy) → Holds GrantTwice (grant_twice policy) → Holds DirectoryAsProgram (directory_as_program policy) → Past (rest_7 policy)
  past_7 a b c d e f g = passed DirectoryAsProgram (directory_as_program policy) (rest_7 policy) (past_6 a b c d e f) g

  -- and the trees are had
  pub past_8 : Past (rest_7 policy) → (trees : List Tree) → trees_from 0 policy.pipelines ≡ Ok trees → Past (rest_8 policy trees)
  past_8 past trees h = record { is = past.is ∙ ap (λ x. x >>= rest_8 policy) h }

  pub past_9 : (trees : List Tree) → Past (rest_8 policy trees) → Holds UnlistedProgram (unlisted_program policy trees)
      → check_of policy ≡ Ok (checked_data policy trees)
  past_9 trees past holds = (passed UnlistedProgram (unlisted_program policy trees) (Ok (checked_data policy trees)) past holds).is

  told_of : (t : Told CheckFault) (rest : Result CheckedData CheckFault) → check_of policy ≡ rest → Tells t rest → Tells t (check_of policy)
  told_of t rest is h = subst (Tells t) (sym is) h

  -- what is told of the first rule, or of the next after those that were passed
  pub told_first : (t : Told CheckFault) → Tells t (rule NoIdentity (no_identity policy)) → Tells t (check_of policy)
  unfolding check_of
  told_first t h = tells_then t (rule NoIdentity (no_identity policy)) (rest_1 policy) h

  pub told_next : (t : Told CheckFault) (next : Checked) (rest : Result CheckedData CheckFault) → Past (next >> rest) → Tells t next → Tells t (check_of policy)
  told_next t next rest p h = told_of t (next >> rest) p.is (tells_then t next rest h)

  pub told_trees : (t : Told CheckFault) → Past (rest_7 policy) → Tells t (trees_from 0 policy.pipelines) → Tells t (check_of policy)
  told_trees t p h = told_of t (rest_7 policy) p.is (tells_bind t (trees_from 0 policy.pipelines) (rest_8 policy) h)
