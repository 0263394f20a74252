-- The run of a pipeline comes to one outcome at most.
use Rattle.std.proofs.Common.{◌≡◌, ◌-◌, ℕ, zero, suc, Bool, true, false, T, List, [], ◌∷◌, ◌++◌, Option, Some, None, All, sym, ap, ◌∙◌, subst}
use Rattle.std.specs.Prelude.{MatchOption}
use Rattle.std.specs.FinMap.{get}
use Rattle.std.specs.FinMap.Entries.{same_entries}
use Rattle.std.proofs.lemmas.List.Elements.{All-head, All-tail}
use Rattle.vr_base.specs.declared.calls.Why.{Why}
use Rattle.vr_files.specs.FileMaps.{FileMap, path_cmp}
use Rattle.vr_files.specs.Changes.{Change, AreDifferences, difference}
use Rattle.vr_files.proofs.EntryLemmas.{paths_total, one_path}
use Rattle.vr_pipe.specs.declared.trees.Tree.{Tree}
use Rattle.vr_pipe.specs.Trees.{PipeTree, program, if_then, if_else, feed, sequence, pipe_tree, programs_of}
use Rattle.vr_policy_check.specs.Rules.{CheckedData}
use Rattle.vr_policy_read.specs.PolicyData.{PolicyData}
use Rattle.vr_wasi_calls.specs.Worlds.{World}
use Rattle.vr_wasm_steps.specs.Rows.{Config, Program}
use Rattle.vr_wasm_run.proofs.RunLemmas.{one_end, one_trap, ends_or_traps}
use Rattle.vr_exec.specs.declared.outcome.Outcome.{Outcome}
use Rattle.vr_exec.specs.declared.outcome.Outcome.TheVariants.{Ended, BadProgram, Trapped, OutOfFuel}
use Rattle.vr_exec.specs.Outcomes.{HasSomeProgram, HavePrograms, IsFirstBad, RunsFrom, ComesTo, PipelineComesTo}
use Rattle.vr_exec.specs.Programs.{Executable, HasNoProgram}
use Rattle.vr_exec.specs.Runs.{Setting, End, ended, trapped, exhausted, Part, EndsAs, RunsProgram, RunsNothing, RunsIf, FeedsOn, Feeds, after_output, GoesOn, Follows, Runs, machine_of, start_at}
use Rattle.vr_exec.proofs.ProgramLemmas.{has_one_program, has_program_or_not, has_one_reason}
use Rattle.vr_exec.proofs.ListLemmas.{first_failing}

-- ---- programs

ends_once : (path : List ℕ) (p : Program World) (k : Config World) (fuel : ℕ) (a b : End) → EndsAs path p k fuel a → EndsAs path p k fuel b → a ≡ b
ends_once path p k fuel (ended code output after left) (ended code' output' after' left') h g =
    let one : (h.used ≡ g.used) × (code ≡ code') × (h.world ≡ g.world) = one_end p k h.used g.used code code' h.world g.world h.ends g.ends in
    let outputs : output ≡ output' = h.output_is ∙ ap (λ (w : World). w.output) one.2 ∙ sym g.output_is in
    let files : after ≡ after' = h.files_are ∙ ap (λ (w : World). w.files.files) one.2 ∙ sym g.files_are in
    let steps : left ≡ left' = h.left_is ∙ ap (λ n. fuel - n) one.0 ∙ sym g.left_is in
    let codes : code ≡ code' = one.1 in
    cc
ends_once path p k fuel (ended code output after left) (trapped at kind) h g = absurd (ends_or_traps p k h.used g.1.used code kind h.world h.ends g.1.traps)
ends_once path p k fuel (ended code output after left) (exhausted at) h g = absurd (g.1.no_end h.used code h.world h.within h.ends)
ends_once path p k fuel (trapped at kind) (ended code output after left) h g = absurd (ends_or_traps p k g.used h.1.used code kind g.world g.ends h.1.traps)
ends_once path p k fuel (trapped at kind) (trapped at' kind') h g =
    let kinds : kind ≡ kind' = (one_trap p k h.1.used g.1.used kind kind' h.1.traps g.1.traps).1 in
    let paths : at ≡ at' = h.0 ∙ sym g.0 in
    cc
ends_once path p k fuel (trapped at kind) (exhausted at') h g = absurd (g.1.no_trap h.1.used kind h.1.within h.1.traps)
ends_once path p k fuel (exhausted at) (ended code output after left) h g = absurd (h.1.no_end g.used code g.world g.within g.ends)
ends_once path p k fuel (exhausted at) (trapped at' kind) h g = absurd (h.1.no_trap g.1.used kind g.1.within g.1.traps)
ends_once path p k fuel (exhausted at) (exhausted at') h g = ap exhausted (h.0 ∙ sym g.0)

-- ---- parts

-- a part runs in one way at most
abbrev EndsOnce : Part → Type 0
EndsOnce part = (files : FileMap) (input : List ℕ) (fuel : ℕ) (a b : End) → part files input fuel a → part files input fuel b → a ≡ b

program_once : (setting : Setting) (path : List ℕ) → EndsOnce (RunsProgram setting path)
program_once setting path files input fuel a b h k =
    let same : h.executable ≡ k.executable = has_one_program setting.policy.pages setting.opening path h.executable k.executable h.loaded k.loaded in
    let P : Executable → Type 0 = λ (x : Executable). EndsAs path (machine_of x) (start_at setting x path files input) fuel a in
    ends_once path (machine_of k.executable) (start_at setting k.executable path files input) fuel a b (subst P same h.run) k.run

nothing_once : EndsOnce RunsNothing
nothing_once files input fuel a b h k = h ∙ sym k

if_once : (path : List ℕ) (there absent : Part) → EndsOnce there → EndsOnce absent → EndsOnce (RunsIf path there absent)
if_once path there absent one other files input fuel a b h k = by_file (get files path) h k
  where
    by_file : (found : Option (List ℕ)) → MatchOption found (absent files input fuel a) (λ _. there files input fuel a)
        → MatchOption found (absent files input fuel b) (λ _. there files input fuel b) → a ≡ b
    by_file None h k = other files input fuel a b h k
    by_file (Some body) h k = one files input fuel a b h k

feeds_once : (first second : Part) → EndsOnce first → EndsOnce second → EndsOnce (Feeds first second)
feeds_once first second one other files input fuel a b h k =
    after h.0 h.2 (subst (λ e. FeedsOn second e b) (sym (one files input fuel h.0 k.0 h.1 k.1)) k.2)
  where
    after : (between : End) → FeedsOn second between a → FeedsOn second between b → a ≡ b
    after (ended zero output now left) h k = other now output left a b h k
    after (ended (suc code) output now left) h k = h ∙ sym k
    after (trapped at kind) h k = h ∙ sym k
    after (exhausted at) h k = h ∙ sym k

follows_once : (first second : Part) → EndsOnce first → EndsOnce second → EndsOnce (Follows first second)
follows_once first second one other files input fuel a b h k =
    after h.0 h.2 (subst (λ e. GoesOn second e b) (sym (one files input fuel h.0 k.0 h.1 k.1)) k.2)
  where
    after : (between : End) → GoesOn second between a → GoesOn second between b → a ≡ b
    after (ended zero output now left) h k = h.2 ∙ ap (after_output output) (other now [] left h.0 k.0 h.1 k.1) ∙ sym k.2
    after (ended (suc code) output now left) h k = h ∙ sym k
    after (trapped at kind) h k = h ∙ sym k
    after (exhausted at) h k = h ∙ sym k

runs_once : (setting : Setting) (pipe : PipeTree) → EndsOnce (Runs setting pipe)
runs_once setting (program path) = program_once setting path
runs_once setting (if_then path taken) = if_once path (Runs setting taken) RunsNothing (runs_once setting taken) nothing_once
runs_once setting (if_else path taken other) = if_once path (Runs setting taken) (Runs setting other) (runs_once setting taken) (runs_once setting other)
runs_once setting (feed first second) = feeds_once (Runs setting first) (Runs setting second) (runs_once setting first) (runs_once setting second)
runs_once setting (sequence first second) = follows_once (Runs setting first) (Runs setting second) (runs_once setting first) (runs_once setting second)

-- ---- bad programs

bad_has_none : (pages : ℕ) (files : FileMap) (path : List ℕ) (why : Why) → HasNoProgram pages files path why → HasSomeProgram pages files path → ⊥
bad_has_none pages files path why bad (plan, has) = has_program_or_not pages files path plan why has bad

bad_once : (pages : ℕ) (files : FileMap) (paths : List (List ℕ)) (at at' : List ℕ) (why why' : Why) → IsFirstBad pages files paths at why → IsFirstBad pages files paths at' why'
    → BadProgram at why ≡ BadProgram at' why'
bad_once pages files paths at at' why why' h k =
    let same : at ≡ at' = first_failing (HasSomeProgram pages files) h.before k.before h.after k.after at at' (sym h.place ∙ k.place) h.fine k.fine
    (bad_has_none pages files at why h.bad) (bad_has_none pages files at' why' k.bad) in
    let reasons : why ≡ why' = has_one_reason pages files at' why why' (subst (λ p. HasNoProgram pages files p why) same h.bad) k.bad in
    cc

in_middle : (before after : List (List ℕ)) (P : List ℕ → Type 0) (at : List ℕ) → All P (before ++ at ∷ after) → P at
in_middle [] after P at h = All-head P at after h
in_middle (x ∷ before) after P at h = in_middle before after P at (All-tail P x (before ++ at ∷ after) h)

bad_or_fine : (pages : ℕ) (files : FileMap) (paths : List (List ℕ)) (at : List ℕ) (why : Why) → IsFirstBad pages files paths at why → HavePrograms pages files paths → ⊥
bad_or_fine pages files paths at why h fine =
    bad_has_none pages files at why h.bad (in_middle h.before h.after (HasSomeProgram pages files) at (subst (λ ps. HavePrograms pages files ps) h.place fine))

-- ---- whole runs

passes : (b : Bool) → b ≡ true → T b
passes true h = tt
passes false h = cc

differences_once : (old new new' : FileMap) (a b : List Change) → new ≡ new' → AreDifferences old new a → AreDifferences old new' b → a ≡ b
differences_once old new new' a b same h k =
    same_entries path_cmp paths_total one_path a b (passes _ h.in_order) (passes _ k.in_order)
    (λ q. h.exact q ∙ ap (λ (m : FileMap). difference (get old q) (get m q)) same ∙ sym (k.exact q))

module _ (policy : PolicyData) (pipe : PipeTree) (files : FileMap) (fuel : ℕ) where
  one_way : (a b : End) → RunsFrom policy pipe files fuel a → RunsFrom policy pipe files fuel b → a ≡ b
  one_way a b h k = runs_once (record { policy = policy; opening = files }) pipe files [] fuel a b h.1 k.1

  one_bad : (at : List ℕ) (why : Why) (end : End) → IsFirstBad policy.pages files (programs_of pipe) at why → RunsFrom policy pipe files fuel end → ⊥
  one_bad at why end h k = bad_or_fine policy.pages files (programs_of pipe) at why h k.0

  pub comes_to_one : (a b : Outcome) → ComesTo policy pipe files fuel a → ComesTo policy pipe files fuel b → a ≡ b
  comes_to_one (BadProgram at why) (BadProgram at' why') h k = bad_once policy.pages files (programs_of pipe) at at' why why' h k
  comes_to_one (BadProgram at why) (Trapped at' kind) h k = absurd (one_bad at why (trapped at' kind) h k)
  comes_to_one (BadProgram at why) (OutOfFuel at') h k = absurd (one_bad at why (exhausted at') h k)
  comes_to_one (BadProgram at why) (Ended code output changes) h k = absurd (one_bad at why (ended code output k.0 k.1) h k.2)
  comes_to_one (Trapped at kind) (BadProgram at' why) h k = absurd (one_bad at' why (trapped at kind) k h)
  comes_to_one (Trapped at kind) (Trapped at' kind') h k = let same : trapped at kind ≡ trapped at' kind' = one_way (trapped at kind) (trapped at' kind') h k in cc
  comes_to_one (Trapped at kind) (OutOfFuel at') h k = let same : trapped at kind ≡ exhausted at' = one_way (trapped at kind) (exhausted at') h k in cc
  comes_to_one (Trapped at kind) (Ended code output changes) h k = let same : trapped at kind ≡ ended code output k.0 k.1 = one_way (trapped at kind) (ended code output k.0 k.1) h k.2 in cc
  comes_to_one (OutOfFuel at) (BadProgram at' why) h k = absurd (one_bad at' why (exhausted at) k h)
  comes_to_one (OutOfFuel at) (Trapped at' kind) h k = let same : exhausted at ≡ trapped at' kind = one_way (exhausted at) (trapped at' kind) h k in cc
  comes_to_one (OutOfFuel at) (OutOfFuel at') h k = let same : exhausted at ≡ exhausted at' = one_way (exhausted at) (exhausted at') h k in cc
  comes_to_one (OutOfFuel at) (Ended code output changes) h k = let same : exhausted at ≡ ended code output k.0 k.1 = one_way (exhausted at) (ended code output k.0 k.1) h k.2 in cc
  comes_to_one (Ended code output changes) (BadProgram at why) h k = absurd (one_bad at why (ended code output h.0 h.1) k h.2)
  comes_to_one (Ended code output changes) (Trapped at kind) h k = let same : ended code output h.0 h.1 ≡ trapped at kind = one_way (ended code output h.0 h.1) (trapped at kind) h.2 k in cc
  comes_to_one (Ended code output changes) (OutOfFuel at) h k = let same : ended code output h.0 h.1 ≡ exhausted at = one_way (ended code output h.0 h.1) (exhausted at) h.2 k in cc
  comes_to_one (Ended code output changes) (Ended code' output' changes') h k =
      let same : ended code output h.0 h.1 ≡ ended code' output' k.0 k.1 = one_way (ended code output h.0 h.1) (ended code' output' k.0 k.1) h.2 k.2 in
      let after : h.0 ≡ k.0 = cc in
      let codes : code ≡ code' = cc in
      let outputs : output ≡ output' = cc in
      let edits : changes ≡ changes' = differences_once files h.0 k.0 changes changes' after h.3 k.3 in
      cc

-- the same of the pipeline at a place of the policy
pub pipeline_comes_to_one : (checked : CheckedData) (place : ℕ) (files : FileMap) (fuel : ℕ) (a b : Outcome) → PipelineComesTo checked place files fuel a → PipelineComesTo checked place files fuel b → a ≡ b
pipeline_comes_to_one checked place files fuel a b h k =
    let same : ◌≡◌ {A = Option Tree} (Some h.0) (Some k.0) = sym h.1 ∙ k.1 in
    let tree : h.0 ≡ k.0 = cc in
    comes_to_one checked.policy (pipe_tree k.0) files fuel a b (subst (λ (t : Tree). ComesTo checked.policy (pipe_tree t) files fuel a) tree h.2) k.2
