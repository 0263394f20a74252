-- What the code's answers tell of a step of the machine.
use Rattle.std.proofs.Common.{◌≡◌, ℕ, List, Result, Ok, Err, refl, sym, ap, subst}
use Rattle.std.specs.Prelude.{IsTrue}
use Rattle.std.specs.Result.{result_unwrap_or}
use Rattle.vr_base.specs.Causes.{Rose}
use Rattle.vr_base.specs.Checks.{Told, nothing, exactly, never, Tells}
use Rattle.vr_base.specs.declared.calls.Reply.{Reply}
use Rattle.vr_base.specs.declared.calls.Reply.TheVariants.{Stored, Ended, Unavailable, OutOfMemory}
use Rattle.vr_exec.specs.Outcomes.{PipelineComesTo}
use Rattle.vr_exec.specs.declared.outcome.Outcome.{Outcome}
use Rattle.vr_exec.specs.declared.outcome.Outcome.TheVariants as runs
use Rattle.vr_files.specs.Changes.{Change, applied}
use Rattle.vr_files.specs.FileMaps.{FileMap}
use Rattle.vr_policy_check.specs.Rules.{CheckedData}
use Rattle.vr_core.specs.Machine.{Checked, Effect, IsRunStep, Origin, effect, effect_of, outcome_effect}
use Rattle.vr_core.specs.Plans.{AsksRightly, HasDifferences, plan_effect}
use Rattle.vr_base.specs.Calls.{is_made}
use Rattle.vr_core.specs.Replies.{Gives, GivesStep, IfRefused, IsKept, IsUnkept, KeepsChanges, told}
use Rattle.vr_core.specs.declared.book.Plan.{Plan}
use Rattle.vr_core.specs.declared.book.Plan.TheVariants.{Keep}

refused_step : (files : FileMap) (answer : Checked Effect) (what : Told Reply) → Tells what answer → IfRefused what (λ reply. effect reply files ≡ effect_of files answer)
refused_step files answer nothing h = tt
refused_step files answer (exactly refusal) h = sym (ap (effect_of files) h)
refused_step files answer never h = h

-- an answer that is computed is a step where the step is
pub gives_step : (files : FileMap) (result answer : Checked Effect) → Gives result answer → GivesStep (λ next. next ≡ effect_of files answer) files result
gives_step files (Ok next) answer h = sym (ap (effect_of files) h)
gives_step files (Err refusal) answer h = refused_step files answer (told refusal) h

-- a refusal with which a call was made is a step
pub refusal_step : (files : FileMap) (IsNext : Effect → Type 0) (refusal : Reply) → IfRefused (told refusal) (λ reply. IsNext (effect reply files)) → IsTrue (is_made refusal)
    → IsNext (effect refusal files)
refusal_step files IsNext OutOfMemory h made = cc
refusal_step files IsNext Unavailable h made = absurd h
refusal_step files IsNext Stored h made = absurd h
refusal_step files IsNext (Ended code out) h made = absurd h
refusal_step files IsNext refusal h made = h

-- no refusal says that the keeper failed
pub refusal_available : (P : Reply → Type 0) (refusal : Reply) → IfRefused (told refusal) P → refusal ≡ Unavailable → ⊥
refusal_available P refusal h e = let fact : IfRefused (told Unavailable) P = rw e at h in fact

-- and the keeper is asked for none
pub refusal_unasked : (P : Reply → Type 0) (files : FileMap) (refusal : Reply) → IfRefused (told refusal) P → IsKept files (effect refusal files) → ⊥
refusal_unasked P files Stored h kept = h
refusal_unasked P files (Ended code out) h kept = h
refusal_unasked P files refusal h kept = kept

-- a call is made whose changes are kept
pub kept_is_made : (reply : Reply) (has_changes : Type 0) → KeepsChanges reply has_changes → IsTrue (is_made reply)
kept_is_made Stored has_changes h = refl
kept_is_made (Ended code out) has_changes h = refl
kept_is_made reply has_changes h = absurd h

-- ---- runs

run_refused : (origin : Origin) (files : FileMap) (place : Checked ℕ) (what : Told Reply) → Tells what place
    → IfRefused what (λ reply. IsRunStep origin files place (effect reply files))
run_refused origin files place nothing h = tt
run_refused origin files place (exactly refusal) h = rw h refl
run_refused origin files place never h = h

-- a run that a check refuses
pub refused_run : (origin : Origin) (files : FileMap) (place : Checked ℕ) (refusal : Reply) → Tells (told refusal) place
    → GivesStep (IsRunStep origin files place) files (Err refusal)
refused_run origin files place refusal h = run_refused origin files place (told refusal) h

-- a run of which an outcome came, by what the outcome comes to
pub outcome_run : (origin : Origin) (files : FileMap) (place : Checked ℕ) (at : ℕ) (outcome shown : Outcome) → outcome ≡ shown → place ≡ Ok at
    → PipelineComesTo origin.policy at files origin.fuel outcome → (result : Checked Effect) → Gives result (outcome_effect origin.policy files shown)
    → GivesStep (IsRunStep origin files place) files result
outcome_run origin files place at outcome shown same e comes result h = by_result result h
  where
    here : PipelineComesTo origin.policy at files origin.fuel shown
    here = subst (λ (o : Outcome). PipelineComesTo origin.policy at files origin.fuel o) same comes

    by_told : (what : Told Reply) → Tells what (outcome_effect origin.policy files shown) → IfRefused what (λ reply. IsRunStep origin files place (effect reply files))
    by_told nothing t = tt
    by_told (exactly reply) t = rw e (record { outcome = shown; comes = here; next_is = sym (ap (effect_of files) t) })
    by_told never t = t

    by_result : (r : Checked Effect) → Gives r (outcome_effect origin.policy files shown) → GivesStep (IsRunStep origin files place) files r
    by_result (Ok next) t = rw e (record { outcome = shown; comes = here; next_is = sym (ap (effect_of files) t) })
    by_result (Err refusal) t = by_told (told refusal) t

-- the changes of a run are differences
pub run_differences : (policy : CheckedData) (at : ℕ) (files : FileMap) (fuel : ℕ) (outcome : Outcome) (code : ℕ) (out : List ℕ) (changes : List Change)
    → outcome ≡ runs.Ended code out changes → PipelineComesTo policy at files fuel outcome → HasDifferences files changes
run_differences policy at files fuel outcome code out changes e comes =
    let ended : PipelineComesTo policy at files fuel (runs.Ended code out changes) = subst (λ (o : Outcome). PipelineComesTo policy at files fuel o) e comes in
    (ended.2.0, ended.2.3)

-- ---- where the keeper failed

-- where the changes were not kept, the keeper said so
pub unavailable_kept : {E : Type 0} (kept : Result Reply E) → result_unwrap_or kept OutOfMemory ≡ Unavailable → kept ≡ Ok Unavailable
unavailable_kept (Ok reply) h = ap Ok h
unavailable_kept (Err e) h = cc

-- a plan whose changes were not kept, in a call in which the count of faults rose
pub unkept_plan : (IsNext : Effect → Type 0) (files : FileMap) (plan : Plan) (reply : Reply) (changes : List Change) (before now : ℕ) → plan ≡ Keep reply changes
    → IsNext (plan_effect files plan) → AsksRightly files plan → Rose before now → IsUnkept IsNext files before now
unkept_plan IsNext files plan reply changes before now e next asks rose = record {
  next = effect reply (applied files changes);
  is_next = subst (λ (p : Plan). IsNext (plan_effect files p)) e next;
  asked = subst (λ (p : Plan). AsksRightly files p) e asks;
  rose = rose;
}

-- the count of faults rose where a call was answered that the keeper failed
pub rose_unavailable : (IsNext : Effect → Type 0) (files : FileMap) (before now : ℕ) (reply : Reply) → (reply ≡ Unavailable → IsUnkept IsNext files before now) → reply ≡ Unavailable → Rose before now
rose_unavailable IsNext files before now reply cause e = (cause e).rose
