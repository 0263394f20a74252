-- The outcome of a run depends on no file that the pipeline doesn't observe, and changes only what the pipeline modifies.
use Rattle.std.proofs.Common.{◌≡◌, ℕ, Bool, true, false, List, [], ◌∷◌, ◌++◌, get_or, Option, Some, None, All, Contains, refl, sym, ap, ◌∙◌, subst}
use Rattle.std.specs.Prelude.{slice_get, IsSomeAnd, IsTrue, MatchOption}
use Rattle.std.specs.FinMap.{get}
use Rattle.std.proofs.lemmas.Option.{get_or_from_slice_get, slice_get_within}
use Rattle.std.proofs.lemmas.List.Elements.{All-cons, All-nil, All-head, All-tail, All-contains_itself, Contains-get_or}
use Rattle.std.proofs.lemmas.Slice.Zip.{AllZip-right}
use Rattle.vr_base.specs.declared.calls.Why.{Why}
use Rattle.vr_base.specs.Rights.{word_on}
use Rattle.vr_files.specs.Changes.{Change, AreDifferences, difference}
use Rattle.vr_files.specs.FileMaps.{FileMap}
use Rattle.vr_pipe.specs.declared.trees.Tree.{Tree}
use Rattle.vr_pipe.specs.Grammar.{Spells}
use Rattle.vr_pipe.specs.Trees.{PipeTree, pipe_tree, programs_of, tests_of}
use Rattle.vr_policy_check.specs.Checked.{IsChecked}
use Rattle.vr_policy_check.specs.Rules.{CheckedData}
use Rattle.vr_policy_read.specs.declared.entries.Pipeline.{Pipeline}
use Rattle.vr_rights.specs.Tables.{names_of}
use Rattle.vr_rights.proofs.MakingLemmas.{known_names_of}
use Rattle.vr_rights.proofs.ZipLemmas.{All-left, All-right}
use Rattle.vr_wasi_calls.specs.Replies.{reply}
use Rattle.vr_wasi_calls.specs.Worlds.{World, IsWorld, first_descriptors, word_at}
use Rattle.vr_wasi_calls.proofs.WorldLemmas.{first_is_world}
use Rattle.vr_wasi_fs.specs.Agreement.{Agree, AreAlike, Keeps, is_modifying, is_observing}
use Rattle.vr_wasm_in_step.specs.InStep.{KeepInStep, StayInStep}
use Rattle.vr_wasm_in_step.specs.Kept.{StayKept}
use Rattle.vr_wasm_in_step.proofs.InStepLemmas.{stays_in_step}
use Rattle.vr_wasm_in_step.proofs.KeptLemmas.{stays_kept}
use Rattle.vr_wasi_fs.specs.Isolation.{replies_agree_each, replies_keep_each}
use Rattle.std.specs.Prelude.{IfOk, Result}
use Rattle.std.proofs.lemmas.Result.{IfOk-weaker}
use Rattle.vr_base.specs.declared.memory.NoMemory.{NoMemory}
use Rattle.vr_exec.specs.declared.outcome.Outcome.{Outcome}
use Rattle.vr_exec.specs.declared.outcome.Outcome.TheVariants.{Ended, BadProgram, Trapped, OutOfFuel}
use Rattle.vr_exec.specs.Outcomes.{HasSomeProgram, HavePrograms, IsFirstBad, RunsFrom, ComesTo, AgreeFor, modifies_path, ChangesWithin, PipelineComesTo, PipelineIsIsolated}
use Rattle.vr_exec.specs.Programs.{Executable, HasProgram}
use Rattle.vr_exec.specs.Runs.{Setting, End, ended, trapped, exhausted, EndsAs, RunsProgram, Runs, machine_of, start_at, world_at}
use Rattle.vr_exec.specs.Starts.{observes_path}
use Rattle.vr_exec.proofs.DifferLemmas.{differences_from, listed_differs, no_difference}
use Rattle.vr_exec.proofs.PathLemmas.{AreFiles, spelled_files}
use Rattle.vr_exec.proofs.SightLemmas.{modifying_observes, program_sees, program_changes, modifies_observes, sees_program, sees_test}
use Rattle.vr_exec.proofs.TwinLemmas.{AreTwins, EndAlike, GoAlike, parts_alike}

by_test : {A : Type 0} (b : Bool) → (b ≡ true → A) → (b ≡ false → A) → A
by_test true h k = h refl
by_test false h k = k refl

-- ---- one program

module _ (checked : CheckedData) (pipe : PipeTree) (opening others : FileMap) (agree : AgreeFor checked pipe opening others)
    (in_step : StayInStep AreAlike reply reply) (kept : (first : World) → StayKept (Keeps first) reply) where
  -- a program that the pipeline runs, whose file it observes
  pub record IsSeen (path : List ℕ) : Type 0 where
    pub named : Contains (programs_of pipe) path
    pub observed : observes_path checked pipe path ≡ true

  abbrev here : Setting
  here = record { policy = checked.policy; opening = opening }

  abbrev there : Setting
  there = record { policy = checked.policy; opening = others }

  keeps_itself : (w : World) → Keeps w w
  keeps_itself w = record { grants = refl; fits = λ is. is; changes = λ is. record { files = λ path fixed. refl } }

  module _ (path : List ℕ) (seen : IsSeen path) (files twin : FileMap) (input : List ℕ) (fuel : ℕ) (t : AreTwins checked pipe opening others files twin) (plan : Executable) where
    is_world : (setting : Setting) (now : FileMap) → IsWorld (world_at setting path now input)
    is_world setting now = first_is_world path (world_at setting path now input).grants (record { base = setting.opening; files = now }) input [] first_descriptors refl

    agreeing : Agree (world_at here path files input) (world_at there path twin input)
    agreeing = record {
      path = refl;
      grants = refl;
      input = refl;
      taken = refl;
      output = refl;
      descriptors = refl;
      files = λ q sees. t.seen q (program_sees checked pipe path q seen.named sees);
    }

    keep : KeepInStep AreAlike (machine_of plan) (machine_of plan) (start_at here plan path files input) (start_at there plan path twin input)
    keep = in_step plan.tree.types plan.opening.functions (start_at here plan path files input) (start_at there plan path twin input)
        (record { store = refl; term = refl; calls = refl; worlds = record { fits = is_world here files; agree = agreeing } })

    -- what may not be changed is not
    fixed : (q : List ℕ) → modifies_path checked pipe q ≡ false → is_modifying (word_at (world_at here path files input) q) ≡ false
    fixed q h =
        by_test (is_modifying (word_at (world_at here path files input) q))
        (λ may. let clash : true ≡ false = sym (program_changes checked pipe path q seen.named may) ∙ h in absurd (let none : ⊥ = cc in none))
        (λ fixed_. fixed_)

    unseen : (q : List ℕ) → is_observing (word_at (world_at here path files input) q) ≡ false → is_modifying (word_at (world_at here path files input) q) ≡ false
    unseen q h =
        by_test (is_modifying (word_at (world_at here path files input) q))
        (λ may. let clash : true ≡ false = sym (modifying_observes (word_at (world_at here path files input) q) may) ∙ h in absurd (let none : ⊥ = cc in none))
        (λ fixed_. fixed_)

    -- the files after two programs that ended alike
    twins_after : (v w : World) → Keeps (world_at here path files input) v → Keeps (world_at there path twin input) w → Agree v w → AreTwins checked pipe opening others v.files.files w.files.files
    twins_after v w one other alike = record {
      seen = λ q observed. by_test (is_observing (word_at (world_at here path files input) q))
          (λ sees. alike.files q (subst (λ (g : List (List ℕ × ℕ)). IsTrue (is_observing (word_on q g))) (sym one.grants) sees))
          (λ blind.
          (other.changes (is_world there twin)).files q (unseen q blind) ∙ t.seen q observed ∙ sym ((one.changes (is_world here files)).files q (unseen q blind)));
      here = λ q unchanged. (one.changes (is_world here files)).files q (fixed q unchanged) ∙ t.here q unchanged;
      there = λ q unchanged. (other.changes (is_world there twin)).files q (fixed q unchanged) ∙ t.there q unchanged;
    }

    ends_alike : HasProgram checked.policy.pages others path plan → (a : End) → EndsAs path (machine_of plan) (start_at here plan path files input) fuel a
        → (b : End) × RunsProgram there path twin input fuel b × EndAlike checked pipe opening others a b
    ends_alike loaded (ended code output after left) r =
        let m = keep.there.ends r.used code r.world r.ends in
        let one = (kept (world_at here path files input) plan.tree.types plan.opening.functions (start_at here plan path files input) (keeps_itself (world_at here path files input))).ended r.used code r.world r.ends in
        let other = (kept (world_at there path twin input) plan.tree.types plan.opening.functions (start_at there plan path twin input) (keeps_itself (world_at there path twin input))).ended r.used code m.0 m.1 in
        let twins = twins_after r.world m.0 one other m.2.agree in (
          ended code output m.0.files.files left,
          record {
            executable = plan;
            loaded = loaded;
            run = record { used = r.used; world = m.0; within = r.within; ends = m.1; output_is = r.output_is ∙ sym m.2.agree.output; files_are = refl; left_is = r.left_is };
          },
          (m.0.files.files, refl, subst (λ (f : FileMap). AreTwins checked pipe opening others f m.0.files.files) (sym r.files_are) twins),
        )
    ends_alike loaded (trapped at kind) r = (
      trapped at kind,
      record { executable = plan; loaded = loaded; run = (r.0, record { used = r.1.used; within = r.1.within; traps = keep.there.traps r.1.used kind r.1.traps }) },
      refl,
    )
    ends_alike loaded (exhausted at) r = (exhausted at, record { executable = plan; loaded = loaded; run = (r.0, keep.there.runs fuel r.1) }, refl)

  program_alike : (path : List ℕ) → IsSeen path → GoAlike checked pipe opening others (RunsProgram here path) (RunsProgram there path)
  program_alike path seen files twin input fuel a t h =
      ends_alike path seen files twin input fuel t h.executable
      (record { bytes = h.loaded.bytes; there = agree path seen.observed ∙ h.loaded.there; is_program = h.loaded.is_program }) a h.run

  -- ---- the pipeline

  module _ (programs : All IsSeen (programs_of pipe)) (tests : All (λ path. observes_path checked pipe path ≡ true) (tests_of pipe)) where
    first_twins : AreTwins checked pipe opening others opening others
    first_twins = record { seen = agree; here = λ q unchanged. refl; there = λ q unchanged. refl }

    runs_alike : (fuel : ℕ) (a : End) → Runs here pipe opening [] fuel a → (b : End) × Runs there pipe others [] fuel b × EndAlike checked pipe opening others a b
    runs_alike fuel a h = parts_alike checked pipe opening others here there IsSeen program_alike pipe programs tests opening others [] fuel a first_twins h

    program_there : (path : List ℕ) → IsSeen path → HasSomeProgram checked.policy.pages opening path → HasSomeProgram checked.policy.pages others path
    program_there path seen (plan, has) = (plan, record { bytes = has.bytes; there = agree path seen.observed ∙ has.there; is_program = has.is_program })

    -- of paths that are seen those that have programs have them in the other files
    programs_there : (paths : List (List ℕ)) → All IsSeen paths → HavePrograms checked.policy.pages opening paths → HavePrograms checked.policy.pages others paths
    programs_there [] seen has = All-nil (HasSomeProgram checked.policy.pages others)
    programs_there (path ∷ paths) seen has =
        All-cons (HasSomeProgram checked.policy.pages others) path paths
        (program_there path (All-head IsSeen path paths seen) (All-head (HasSomeProgram checked.policy.pages opening) path paths has))
        (programs_there paths (All-tail IsSeen path paths seen) (All-tail (HasSomeProgram checked.policy.pages opening) path paths has))

    seen_before : (before after : List (List ℕ)) (path : List ℕ) → All IsSeen (before ++ path ∷ after) → All IsSeen before × IsSeen path
    seen_before [] after path h = (All-nil IsSeen, All-head IsSeen path after h)
    seen_before (p ∷ before) after path h =
        let rest = seen_before before after path (All-tail IsSeen p (before ++ path ∷ after) h) in
        (All-cons IsSeen p before (All-head IsSeen p (before ++ path ∷ after) h) rest.0, rest.1)

    bad_there : (path : List ℕ) (why : Why) → IsFirstBad checked.policy.pages opening (programs_of pipe) path why → IsFirstBad checked.policy.pages others (programs_of pipe) path why
    bad_there path why h =
        let seen = seen_before h.before h.after path (subst (λ ps. All IsSeen ps) h.place programs) in
        record {
          before = h.before;
          after = h.after;
          place = h.place;
          fine = programs_there h.before seen.0 h.fine;
          bad = record { bytes = h.bad.bytes; there = agree path seen.1.observed ∙ h.bad.there; is_none = h.bad.is_none };
        }

    runs_there : (fuel : ℕ) (a : End) → RunsFrom checked.policy pipe opening fuel a → (b : End) × RunsFrom checked.policy pipe others fuel b × EndAlike checked pipe opening others a b
    runs_there fuel a h =
        let r = runs_alike fuel a h.1 in
        (r.0, (programs_there (programs_of pipe) programs h.0, r.1), r.2)

    unobserved : (path : List ℕ) → observes_path checked pipe path ≡ false → modifies_path checked pipe path ≡ false
    unobserved path h =
        by_test (modifies_path checked pipe path)
        (λ m. let clash : true ≡ false = sym (modifies_observes checked pipe path m) ∙ h in absurd (let none : ⊥ = cc in none))
        (λ unchanged. unchanged)

    same_difference : (after twin : FileMap) (path : List ℕ) → AreTwins checked pipe opening others after twin → difference (get opening path) (get after path) ≡ difference (get others path) (get twin path)
    same_difference after twin path t =
        by_test (observes_path checked pipe path)
        (λ o. ap (λ old. difference old (get after path)) (sym (agree path o)) ∙ ap (difference (get others path)) (sym (t.seen path o)))
        (λ blind.
        no_difference (get opening path) (get after path) (t.here path (unobserved path blind)) ∙ sym (no_difference (get others path) (get twin path) (t.there path (unobserved path blind))))

    differences_there : (after twin : FileMap) (changes : List Change) → AreTwins checked pipe opening others after twin → AreDifferences opening after changes → AreDifferences others twin changes
    differences_there after twin changes t h = differences_from others twin changes h.in_order (λ path. h.exact path ∙ same_difference after twin path t)

    comes_there : (fuel : ℕ) (outcome : Outcome) → ComesTo checked.policy pipe opening fuel outcome → ComesTo checked.policy pipe others fuel outcome
    comes_there fuel (BadProgram path why) h = bad_there path why h
    comes_there fuel (Trapped path kind) h =
        let r = runs_there fuel (trapped path kind) h in subst (λ e. RunsFrom checked.policy pipe others fuel e) r.2 r.1
    comes_there fuel (OutOfFuel path) h =
        let r = runs_there fuel (exhausted path) h in subst (λ e. RunsFrom checked.policy pipe others fuel e) r.2 r.1
    comes_there fuel (Ended code output changes) h =
        let r = runs_there fuel (ended code output h.0 h.1) h.2 in
        (r.2.0, h.1, subst (λ e. RunsFrom checked.policy pipe others fuel e) r.2.1 r.1, differences_there h.0 r.2.0 changes r.2.2 h.3)

    changes_within : (fuel : ℕ) (outcome : Outcome) → ComesTo checked.policy pipe opening fuel outcome → ChangesWithin checked pipe outcome
    changes_within fuel (BadProgram path why) h = tt
    changes_within fuel (Trapped path kind) h = tt
    changes_within fuel (OutOfFuel path) h = tt
    changes_within fuel (Ended code output changes) h =
        let r = runs_there fuel (ended code output h.0 h.1) h.2 in
        λ k d l. by_test (modifies_path checked pipe (get_or changes k d).0) (λ m. m)
        (λ unchanged. absurd (listed_differs opening h.0 changes (get_or changes k d) h.3 (Contains-get_or changes k d l) (r.2.2.here (get_or changes k d).0 unchanged)))

-- ---- a pipeline of the policy

-- the paths in a pipeline of the policy are names of the policy
named_paths : (checked : CheckedData) (place : ℕ) (tree : Tree) → slice_get checked.pipes place ≡ Some tree → All (Contains (names_of checked)) (programs_of (pipe_tree tree) ++ tests_of (pipe_tree tree))
named_paths checked place tree e =
    let names = names_of checked in
    let known = known_names_of names checked (All-contains_itself names) in
    subst (λ (p : Tree). All (Contains names) (programs_of (pipe_tree p) ++ tests_of (pipe_tree p))) (get_or_from_slice_get checked.pipes place tree tree e)
    (known.pipelines place tree (slice_get_within checked.pipes place tree e))

-- its text spells it
pub spelled_text : (checked : CheckedData) (place : ℕ) (tree : Tree) → IsChecked checked → slice_get checked.pipes place ≡ Some tree → AreFiles (pipe_tree tree)
spelled_text checked place tree is e =
    by_text (slice_get checked.policy.pipelines place)
    (subst (λ o. MatchOption o (Unit {0}) (λ (t : Tree). IsSomeAnd (slice_get checked.policy.pipelines place) (λ (p : Pipeline). Spells p.text (pipe_tree t)))) e
    (AllZip-right (λ (p : Pipeline) (t : Tree). Spells p.text (pipe_tree t)) checked.policy.pipelines checked.pipes is.trees place))
  where
    by_text : (found : Option Pipeline) → IsSomeAnd found (λ (p : Pipeline). Spells p.text (pipe_tree tree)) → AreFiles (pipe_tree tree)
    by_text None h = absurd h
    by_text (Some p) h = spelled_files p.text (pipe_tree tree) h

-- an outcome of a pipeline of the policy is isolated
pub outcome_isolated : (checked : CheckedData) (place : ℕ) (files : FileMap) (fuel : ℕ) (outcome : Outcome) → IsChecked checked
    → StayInStep AreAlike reply reply → ((first : World) → StayKept (Keeps first) reply)
    → PipelineComesTo checked place files fuel outcome → PipelineIsIsolated checked place files fuel outcome
outcome_isolated checked place files fuel outcome is in_step kept (listed, at, comes) tree e = record {
  same = λ others agree. comes_there checked pipe files others agree in_step kept (seen others agree) tests fuel outcome comes_here;
  within = changes_within checked pipe files files (λ path o. refl) in_step kept (seen files (λ path o. refl)) tests fuel outcome comes_here;
}
  where
    pipe : PipeTree
    pipe = pipe_tree tree

    paths : AreFiles (pipe_tree tree)
    paths = spelled_text checked place tree is e

    names : All (Contains (names_of checked)) (programs_of (pipe_tree tree) ++ tests_of (pipe_tree tree))
    names = named_paths checked place tree e

    program_names_ : All (Contains (names_of checked)) (programs_of (pipe_tree tree))
    program_names_ = All-left (Contains (names_of checked)) (programs_of (pipe_tree tree)) (tests_of (pipe_tree tree)) names

    test_names : All (Contains (names_of checked)) (tests_of (pipe_tree tree))
    test_names = All-right (Contains (names_of checked)) (programs_of (pipe_tree tree)) (tests_of (pipe_tree tree)) names

    tests : All (λ path. observes_path checked (pipe_tree tree) path ≡ true) (tests_of (pipe_tree tree))
    tests = λ k d l. sees_test checked (pipe_tree tree) (get_or (tests_of (pipe_tree tree)) k d) (test_names k d l) (paths.tests k d l) (Contains-get_or (tests_of (pipe_tree tree)) k d l)

    seen : (others : FileMap) (agree : AgreeFor checked (pipe_tree tree) files others) → All (IsSeen checked (pipe_tree tree) files others agree in_step kept) (programs_of (pipe_tree tree))
    seen others agree = λ k d l. record {
      named = Contains-get_or (programs_of (pipe_tree tree)) k d l;
      observed = sees_program checked (pipe_tree tree) (get_or (programs_of (pipe_tree tree)) k d) (program_names_ k d l) (paths.programs k d l) (Contains-get_or (programs_of (pipe_tree tree)) k d l);
    }

    same_tree : listed ≡ tree
    same_tree = let both : ◌≡◌ {A = Option Tree} (Some listed) (Some tree) = sym at ∙ e in cc

    comes_here : ComesTo checked.policy (pipe_tree tree) files fuel outcome
    comes_here = subst (λ (t : Tree). ComesTo checked.policy (pipe_tree t) files fuel outcome) same_tree comes

-- so is what a call answers that comes to it
pub isolated_too : (checked : CheckedData) (place : ℕ) (files : FileMap) (fuel : ℕ) (r : Result Outcome NoMemory) → IsChecked checked
    → IfOk r (PipelineComesTo checked place files fuel) → IfOk r (PipelineIsIsolated checked place files fuel)
isolated_too checked place files fuel r is h =
    IfOk-weaker r (PipelineComesTo checked place files fuel) (PipelineIsIsolated checked place files fuel)
    (λ outcome comes. outcome_isolated checked place files fuel outcome is (stays_in_step AreAlike reply reply replies_agree_each)
    (λ first. stays_kept (Keeps first) reply (replies_keep_each first)) comes) h
