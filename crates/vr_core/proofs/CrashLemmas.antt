-- What a crash leaves of a call that changed no file, or whose changes the keeper was asked to keep.
use Rattle.std.proofs.Common.{arith, ◌≡◌, ◌≢◌, ℕ, ◌⊎◌, inl, inr, List, Option, None, Some, Ok, Err, Result, refl, sym, ap, subst}
use Rattle.std.specs.Prelude.{IsSome, IfSome, option_map}
use Rattle.std.specs.Option.{ForSome}
use Rattle.vr_base.specs.declared.calls.Reply.{Reply}
use Rattle.vr_base.specs.declared.calls.Reply.TheVariants.{Unavailable, OutOfMemory}
use Rattle.vr_files.specs.FileMaps.{FileMap}
use Rattle.vr_files.specs.Changes.{Change, applied}
use Rattle.vr_keeper.specs.Crashes.{ApplyLeaves, LeftByChanges}
use Rattle.vr_keeper.specs.declared.keepers.KeepFault.{KeepFault}
use Rattle.vr_keeper.specs.declared.keepers.KeepFault.TheVariants as faults
use Rattle.vr_core.specs.Crashes.{LeavesOnly, StepsSafely}
use Rattle.vr_core.specs.Machine.{effect}
use Rattle.vr_core.specs.Replies.{IsKept, KeepsChanges}

-- the keeper was not asked
pub safely_unasked : (leaves : ℕ → FileMap → Type 0) (now : ℕ) (before : FileMap) (IsNext : FileMap → Type 0) (reply : Reply) → (IsKept before (effect reply before) → ⊥)
    → StepsSafely leaves leaves now now before IsNext before reply
safely_unasked leaves now before IsNext reply unkept = record {
  later = omega arith;
  during = λ only left h. inl (only left h);
  clean = λ only _ left h. only left h;
  failed = λ _ left h. inl h;
  kept = λ is. absurd (unkept is);
  other = λ _ _ left. (λ h. h, λ h. h);
}

module _ (old new : ℕ → FileMap → Type 0) (start now : ℕ) (changes : List Change) (before : FileMap) (IsNext : FileMap → Type 0) (is_next : IsNext (applied before changes))
    (reply : Reply) (asked : IsKept before (effect reply (applied before changes))) where
  pending : (left : FileMap) → LeftByChanges (old start) before changes left → old start left ⊎ ((left ≡ before) ⊎ IsNext left)
  pending left (inl h) = inl h
  pending left (inr (inl e)) = inr (inl e)
  pending left (inr (inr e)) = inr (inr (subst IsNext (sym e) is_next))

  one_of_two : (left : FileMap) → LeavesOnly old start before → old start left ⊎ ((left ≡ before) ⊎ IsNext left) → (left ≡ before) ⊎ IsNext left
  one_of_two left only (inl h) = inl (only left h)
  one_of_two left only (inr h) = h

  available : reply ≡ Unavailable → ⊥
  available e = subst (λ r. KeepsChanges r (applied before changes ≢ before)) e asked

  wanting_unavailable : OutOfMemory ≡ Unavailable → ⊥
  wanting_unavailable e = cc

  kept_here : ApplyLeaves start now old new before changes (Ok tt) → StepsSafely old new start now before IsNext (applied before changes) reply
  kept_here leaves =
      let alone : LeavesOnly new now (applied before changes) = λ left h. (leaves.done left).0 h in
      record {
        later = leaves.later;
        during = λ only left h. one_of_two left only (pending left (leaves.since left h));
        clean = λ _ _. alone;
        failed = λ e. absurd (available e);
        kept = λ _. alone;
        other = λ _ apart. absurd (apart asked);
      }

  failed_here : ApplyLeaves start now old new before changes (Err faults.Failed) → StepsSafely old new start now before IsNext before Unavailable
  failed_here leaves = record {
    later = leaves.later;
    during = λ only left h. one_of_two left only (pending left (leaves.since left h));
    clean = λ _ apart. absurd (apart refl);
    failed = λ _ left h. pending left (leaves.failed refl left h);
    kept = λ k. absurd k;
    other = λ apart. absurd (apart refl);
  }

  wanting_here : ApplyLeaves start now old new before changes (Err faults.OutOfMemory) → StepsSafely old new start now before IsNext before OutOfMemory
  wanting_here leaves =
      let still : now ≡ start = (leaves.no_memory refl).0 in
      let same = (leaves.no_memory refl).1 in
      record {
        later = leaves.later;
        during = λ only left h. one_of_two left only (pending left (leaves.since left h));
        clean = λ only _ left h. only left (subst (λ t. old t left) still ((same now left).0 h));
        failed = λ e. absurd (wanting_unavailable e);
        kept = λ k. absurd k;
        other = λ _ _ left. (λ h. subst (λ t. old t left) still ((same now left).0 h), λ h. (same now left).1 (subst (λ t. old t left) (sym still) h));
      }

  -- the reply by what the keeper answered
  abbrev pub kept_reply : Result (Unit {0}) KeepFault → Reply
  kept_reply (Ok done) = reply
  kept_reply (Err faults.Failed) = Unavailable
  kept_reply (Err faults.OutOfMemory) = OutOfMemory

  -- the files by what the keeper answered
  abbrev pub kept_files : Result (Unit {0}) KeepFault → FileMap
  kept_files (Ok done) = applied before changes
  kept_files (Err fault) = before

  by_answer : (result : Result (Unit {0}) KeepFault) → ApplyLeaves start now old new before changes result
      → StepsSafely old new start now before IsNext (kept_files result) (kept_reply result)
  by_answer (Ok tt') leaves = kept_here leaves
  by_answer (Err faults.Failed) leaves = failed_here leaves
  by_answer (Err faults.OutOfMemory) leaves = wanting_here leaves

  -- the keeper was asked, whose rows are told
  pub safely_asked : (rows : Option FileMap) (result : Result (Unit {0}) KeepFault) → ForSome rows (λ kept. kept ≡ before) → IsSome rows
      → IfSome rows (λ kept. ApplyLeaves start now old new kept changes result)
      → StepsSafely old new start now before IsNext (kept_files result) (kept_reply result)
  safely_asked None result are some leaves = absurd (let h : ⊥ = cc in h)
  safely_asked (Some kept) result are some leaves =
      let same : kept ≡ before = are kept refl in
      by_answer result (subst (λ (m : FileMap). ApplyLeaves start now old new m changes result) same leaves)

-- the rows after the changes are the files after them
pub kept_after : (old new : Option FileMap) (changes : List Change) (before next : FileMap) → ForSome old (λ kept. kept ≡ before)
    → applied before changes ≡ next → new ≡ option_map (λ kept. applied kept changes) old → ForSome new (λ kept. kept ≡ next)
kept_after None new changes before next are done e = λ x is. absurd (let h : ⊥ = cc in h)
kept_after (Some kept) new changes before next are done e = λ x is.
    let same : kept ≡ before = are kept refl in
    let changed : applied kept changes ≡ applied before changes = ap (λ (m : FileMap). applied m changes) same in
    cc
