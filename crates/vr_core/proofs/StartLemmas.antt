-- The checks of a run, which the code makes by places, are those by which the machine finds the place.
use Rattle.std.proofs.Common.{◌≡◌, ℕ, Option, None, Some, Result, Ok, Err, refl, sym, ap, ◌∙◌}
use Rattle.std.specs.Prelude.{option_map, slice_get}
use Rattle.vr_base.specs.Checks.{◌>>=◌, ◌>>◌, Told, nothing, exactly, never, Tells, result_map, result_map_err, unless_fault}
use Rattle.vr_base.specs.declared.calls.Reply.{Reply}
use Rattle.vr_exec.proofs.StartLemmas.{may_start}
use Rattle.vr_exec.specs.Loaded.{HasProgramFiles}
use Rattle.vr_exec.specs.Starts.{MayStart, first_pin_fault, missing_file, ready_answer}
use Rattle.vr_exec.specs.declared.starts.NotReady.{NotReady}
use Rattle.vr_files.specs.FileMaps.{FileMap}
use Rattle.vr_pipe.specs.declared.trees.Tree.{Tree}
use Rattle.vr_pipe.specs.Trees.{PipeTree, pipe_tree, programs_of}
use Rattle.vr_policy_check.specs.Rules.{CheckedData}
use Rattle.vr_policy_read.specs.declared.entries.Identity.{Identity}
use Rattle.vr_core.specs.Machine.{Checked, Listed, execute_check, identity_at, identity_of, listed_at, pipeline_of, run_place, start_check, start_refusal}
use Rattle.vr_core.specs.Starts.{MayExecute, MayStartAt}

-- ---- what is told of the first check that fails is told of all

told_bind : {A B : Type 0} (what : Told Reply) (first : Checked A) (rest : A → Checked B) → Tells what first → Tells what (first >>= rest)
told_bind nothing first rest h = tt
told_bind (exactly refusal) first rest h = rw h refl
told_bind never first rest h = h

told_then : {A B : Type 0} (what : Told Reply) (first : Checked A) (rest : Checked B) → Tells what first → Tells what (first >> rest)
told_then nothing first rest h = tt
told_then (exactly refusal) first rest h = rw h refl
told_then never first rest h = h

none_refused : {A : Type 0} (answer : Checked A) (refusal : Reply) → result_map (λ x. Some x) answer ≡ Err refusal → answer ≡ Err refusal
none_refused (Ok x) refusal h = cc
none_refused (Err e) refusal h = let same : e ≡ refusal = cc in ap Err same

told_some : {A : Type 0} (what : Told Reply) (answer : Checked A) → Tells what (result_map (λ x. Some x) answer) → Tells what answer
told_some nothing answer h = tt
told_some (exactly refusal) answer h = none_refused answer refusal h
told_some never answer h = h

-- what a check let pass, where it is found at a place
record Passed {A : Type 0} (answer : Checked A) (found : Option A) : Type 0 where
  value : A
  answer_is : answer ≡ Ok value
  found_is : found ≡ Some value

passed : {A : Type 0} (answer : Checked A) (found : Option A) → result_map (λ x. Some x) answer ≡ Ok found → Passed answer found
passed (Ok x) found h = record { value = x; answer_is = refl; found_is = let same : Some x ≡ found = cc in sym same }
passed (Err e) found h = cc

-- the tree of a pipeline that stands at a place
pub record HasTree (policy : CheckedData) (place : ℕ) (listed : Listed) : Type 0 where
  pub tree : Tree
  pub at : slice_get policy.pipes place ≡ Some tree
  pub is : listed ≡ record { place = place; pipe = pipe_tree tree }

pub has_tree : (policy : CheckedData) (place : ℕ) (listed : Listed) → listed_at policy place ≡ Some listed → HasTree policy place listed
has_tree policy place listed h = by_cases (slice_get policy.pipes place) refl h
  where
    by_cases : (found : Option Tree) → slice_get policy.pipes place ≡ found
        → option_map (λ (t : Tree). let l : Listed = record { place = place; pipe = pipe_tree t } in l) found ≡ Some listed → HasTree policy place listed
    by_cases None e k = cc
    by_cases (Some tree) e k =
        let same : listed ≡ record { place = place; pipe = pipe_tree tree } = cc in record { tree = tree; at = e; is = same }

module _ (policy : CheckedData) (files : FileMap) (who id : ℕ) where
  -- the caller is refused
  pub caller_refused : (what : Told Reply) → Tells what (result_map (λ x. Some x) (identity_of policy who)) → Tells what (run_place policy files who id)
  caller_refused what h = told_bind what (identity_of policy who) _ (told_some what (identity_of policy who) h)

  module _ (caller : ℕ) (c : result_map (λ x. Some x) (identity_of policy who) ≡ Ok (identity_at policy caller)) where
    identity : Passed (identity_of policy who) (identity_at policy caller)
    identity = passed (identity_of policy who) (identity_at policy caller) c

    -- the pipeline is refused
    pub pipeline_refused : (what : Told Reply) → Tells what (result_map (λ x. Some x) (pipeline_of policy id)) → Tells what (run_place policy files who id)
    pipeline_refused what h =
        rw identity.answer_is (told_bind what (pipeline_of policy id) _ (told_some what (pipeline_of policy id) h))

    module _ (place : ℕ) (p : result_map (λ x. Some x) (pipeline_of policy id) ≡ Ok (listed_at policy place)) where
      pipeline : Passed (pipeline_of policy id) (listed_at policy place)
      pipeline = passed (pipeline_of policy id) (listed_at policy place) p

      there : HasTree policy place pipeline.value
      there = has_tree policy place pipeline.value pipeline.found_is

      -- what is left of the checks
      rest_is : run_place policy files who id
          ≡ (execute_check identity.value (programs_of (pipe_tree there.tree)) >> (start_check policy (pipe_tree there.tree) files >> Ok place))
      rest_is = rw (identity.answer_is, pipeline.answer_is, there.is) refl

      -- a program is refused
      pub programs_refused : (what : Told Reply)
          → ((i : Identity) (tree : Tree) → identity_at policy caller ≡ Some i → slice_get policy.pipes place ≡ Some tree → Tells what (execute_check i (programs_of (pipe_tree tree))))
          → Tells what (run_place policy files who id)
      programs_refused what h =
          rw rest_is (told_then what (execute_check identity.value (programs_of (pipe_tree there.tree))) _ (h identity.value there.tree identity.found_is there.at))

      module _ (executes : MayExecute policy caller place (Ok tt)) where
        -- the run may not start
        pub start_refused : (what : Told Reply) → ((tree : Tree) → slice_get policy.pipes place ≡ Some tree → Tells what (start_check policy (pipe_tree tree) files))
            → Tells what (run_place policy files who id)
        start_refused what h =
            rw (rest_is, executes identity.value there.tree identity.found_is there.at)
            (told_then what (start_check policy (pipe_tree there.tree) files) (Ok place) (h there.tree there.at))

        -- it may
        pub run_passes : MayStartAt policy place files (Ok tt) → run_place policy files who id ≡ Ok place
        run_passes h =
            rest_is ∙ ap (λ (first : Checked (Unit {0})). first >> (start_check policy (pipe_tree there.tree) files >> Ok place)) (executes identity.value there.tree identity.found_is there.at)
            ∙ ap (λ (first : Checked (Unit {0})). first >> Ok place) (h there.tree there.at)

ready_passes : (answer : Result (Unit {0}) NotReady) → result_map_err start_refusal answer ≡ Ok tt → answer ≡ Ok tt
ready_passes (Ok done) h = refl
ready_passes (Err fault) h = cc

both_pass : (first rest : Option NotReady) → (unless_fault first (tt {0}) >> unless_fault rest (tt {0})) ≡ Ok tt → (unless_fault first (tt {0}) ≡ Ok tt) × (rest ≡ None)
both_pass None None h = (refl, refl)
both_pass None (Some fault) h = cc
both_pass (Some fault) rest h = cc

-- the check lets a run pass that may start
pub check_passes : (policy : CheckedData) (pipe : PipeTree) (files : FileMap) → start_check policy pipe files ≡ Ok tt → MayStart policy pipe files
check_passes policy pipe files h =
    let parts = both_pass (missing_file (programs_of pipe) files) (first_pin_fault policy pipe files policy.policy.pins) (ready_passes (ready_answer policy pipe files) h) in
    may_start policy pipe files parts.0 parts.1

-- then its program files are there
pub program_files : (policy : CheckedData) (place : ℕ) (files : FileMap) → MayStartAt policy place files (Ok tt) → HasProgramFiles policy place files
program_files policy place files h tree e = (check_passes policy (pipe_tree tree) files (h tree e)).programs
