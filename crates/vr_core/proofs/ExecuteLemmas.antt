-- Who may execute the programs of a pipeline: the first that is missing is the one at which the check fails.
use Rattle.std.proofs.Common.{◌≡◌, ℕ, suc, ◌+◌, ◌<◌, Bool, true, false, not, ◌&&◌, cond, List, [], ◌∷◌, length, slice_get, get_or, Option, None, Some, Ok, Err, refl, sym, ap, ◌∙◌, arith}
use Rattle.std.specs.List.{list_all, position_from}
use Rattle.std.proofs.lemmas.Iterator.Adapters.{position_from-zero}
use Rattle.std.proofs.lemmas.Option.{get_or_from_slice_get, slice_get-get_or}
use Rattle.vr_base.specs.Checks.{◌>>◌}
use Rattle.vr_base.specs.Rights.{execute, execute_rights}
use Rattle.vr_base.specs.declared.calls.Reply.TheVariants.{Denied}
use Rattle.vr_pipe.specs.Trees.{PipeTree, pipe_tree, programs_of}
use Rattle.vr_policy_read.specs.declared.entries.Identity.{Identity}
use Rattle.vr_rights.specs.Calls.{run_answer}
use Rattle.vr_rights.specs.Tables.{IsRegionsOf, RegionsData, entry_of}
use Rattle.vr_rights.specs.Words.{may_execute, missing_program}
use Rattle.vr_rights.specs.declared.regions.Missing.{Missing}
use Rattle.vr_rights.proofs.CallLemmas.{missing_of}
use Rattle.vr_policy_check.specs.Rules.{CheckedData}
use Rattle.vr_pipe.specs.declared.trees.Tree.{Tree}
use Rattle.vr_core.specs.Machine.{Checked, execute_check, rights_check}

module _ (identity : Identity) where
  pub may_pass : (path : List ℕ) → may_execute identity.grants path ≡ true → rights_check identity path execute_rights ≡ Ok tt
  may_pass path e = rw e refl

  pub may_not : (path : List ℕ) → may_execute identity.grants path ≡ false → rights_check identity path execute_rights ≡ Err (Denied path execute)
  may_not path e = rw e refl

  abbrev lacks : List ℕ → Bool
  lacks path = not (may_execute identity.grants path)

  passes : (n : ℕ) (paths : List (List ℕ)) → position_from lacks n paths ≡ None → execute_check identity paths ≡ Ok tt
  passes n [] h = refl
  passes n (path ∷ paths) h = by_test (may_execute identity.grants path) refl h (passes (n + 1) paths)
    where
      by_test : (b : Bool) → may_execute identity.grants path ≡ b → cond (not b) (Some n) (position_from lacks (n + 1) paths) ≡ None
          → (position_from lacks (n + 1) paths ≡ None → execute_check identity paths ≡ Ok tt) → execute_check identity (path ∷ paths) ≡ Ok tt
      by_test true e k rest = ap (λ (first : Checked (Unit {0})). first >> execute_check identity paths) (may_pass path e) ∙ rest k
      by_test false e k rest = cc

  -- the check fails at the program that is missing, as it does for that one alone
  record Fails (n place : ℕ) (paths : List (List ℕ)) : Type 0 where
    after : ℕ
    place_is : place ≡ n + after
    within : after < length paths
    same : execute_check identity paths ≡ rights_check identity (get_or paths after []) execute_rights

  fails : (n place : ℕ) (paths : List (List ℕ)) → position_from lacks n paths ≡ Some place → Fails n place paths
  fails n place [] h = cc
  fails n place (path ∷ paths) h = by_test (may_execute identity.grants path) refl h (fails (n + 1) place paths)
    where
      by_test : (b : Bool) → may_execute identity.grants path ≡ b → cond (not b) (Some n) (position_from lacks (n + 1) paths) ≡ Some place
          → (position_from lacks (n + 1) paths ≡ Some place → Fails (n + 1) place paths) → Fails n place (path ∷ paths)
      by_test true e k rest =
          let r = rest k in
          record {
            after = suc r.after;
            place_is = omega (arith, r.place_is);
            within = omega (arith, r.within);
            same = ap (λ (first : Checked (Unit {0})). first >> execute_check identity paths) (may_pass path e) ∙ r.same;
          }
      by_test false e k rest =
          let here : n ≡ place = cc in
          let refused : rights_check identity path execute_rights ≡ Err (Denied path execute) = may_not path e in
          record {
            after = 0;
            place_is = omega (arith, here);
            within = omega arith;
            same = ap (λ (first : Checked (Unit {0})). first >> execute_check identity paths) refused ∙ sym refused;
          }

  pub all_pass : (pipe : PipeTree) → missing_program identity.grants pipe ≡ None → execute_check identity (programs_of pipe) ≡ Ok tt
  all_pass pipe h = passes 0 (programs_of pipe) (sym (position_from-zero lacks (programs_of pipe)) ∙ h)

  pub fails_at : (pipe : PipeTree) (place : ℕ) → missing_program identity.grants pipe ≡ Some place
      → (place < length (programs_of pipe)) × (execute_check identity (programs_of pipe) ≡ rights_check identity (get_or (programs_of pipe) place []) execute_rights)
  fails_at pipe place h =
      let r = fails 0 place (programs_of pipe) (sym (position_from-zero lacks (programs_of pipe)) ∙ h) in
      let at : place ≡ r.after = omega (arith, r.place_is) in
      (omega (arith, at, r.within), r.same ∙ ap (λ p. rights_check identity (get_or (programs_of pipe) p []) execute_rights) (sym at))

  -- where the check passes, the identity may execute each of the programs
  pub may_all : (paths : List (List ℕ)) → execute_check identity paths ≡ Ok tt → list_all (may_execute identity.grants) paths ≡ true
  may_all [] h = refl
  may_all (path ∷ paths) h = by_bit (may_execute identity.grants path) refl (may_all paths)
    where
      by_bit : (b : Bool) → may_execute identity.grants path ≡ b → (execute_check identity paths ≡ Ok tt → list_all (may_execute identity.grants) paths ≡ true)
          → (b && list_all (may_execute identity.grants) paths) ≡ true
      by_bit true e rest = rest (sym (ap (λ (first : Checked (Unit {0})). first >> execute_check identity paths) (may_pass path e)) ∙ h)
      by_bit false e rest =
          let refused : execute_check identity (path ∷ paths) ≡ Err (Denied path execute) = ap (λ (first : Checked (Unit {0})). first >> execute_check identity paths) (may_not path e) in
          cc

-- ---- by places

no_missing : (missing : Option ℕ) (done : Unit {0}) → run_answer missing ≡ Ok done → missing ≡ None
no_missing None done h = refl
no_missing (Some program) done h = cc

some_missing : (missing : Option ℕ) (refusal : Missing) → run_answer missing ≡ Err refusal → missing ≡ Some refusal.program
some_missing None refusal h = cc
some_missing (Some program) refusal h = let same : record { program = program } ≡ refusal = cc in ap (λ (m : Missing). Some m.program) same

module _ (policy : CheckedData) (table : RegionsData) (are : IsRegionsOf policy table) (caller place : ℕ) (i : Identity) (tree : Tree)
    (e : slice_get policy.policy.identities caller ≡ Some i) (f : slice_get policy.pipes place ≡ Some tree) where
  -- each program may be executed
  pub passes_here : (done : Unit {0}) → run_answer (entry_of table.missing caller place None) ≡ Ok done → execute_check i (programs_of (pipe_tree tree)) ≡ Ok tt
  passes_here done h = all_pass i (pipe_tree tree) (sym (missing_of policy table are caller place i tree e f) ∙ no_missing (entry_of table.missing caller place None) done h)

  -- a program is missing
  pub fails_here : (refusal : Missing) → run_answer (entry_of table.missing caller place None) ≡ Err refusal
      → (refusal.program < length (programs_of (pipe_tree tree)))
      × (execute_check i (programs_of (pipe_tree tree)) ≡ rights_check i (get_or (programs_of (pipe_tree tree)) refusal.program []) execute_rights)
  fails_here refusal h =
      fails_at i (pipe_tree tree) refusal.program
      (sym (missing_of policy table are caller place i tree e f) ∙ some_missing (entry_of table.missing caller place None) refusal h)

-- an element, whatever stands in for one that is absent
pub any_default : {A : Type 0} (xs : List A) (k : ℕ) (d e : A) → k < length xs → get_or xs k d ≡ get_or xs k e
any_default xs k d e l = get_or_from_slice_get xs k (get_or xs k e) d (slice_get-get_or xs k e l)
