-- A history is isolated, since each of its steps is.
use Rattle.std.proofs.Common.{◌≡◌, ℕ, Bool, true, false, cond, List, [], ◌∷◌, Option, refl, sym, ap, ◌∙◌, arith}
use Rattle.std.specs.Prelude.{◌==◌, IsTrue}
use Rattle.std.proofs.lemmas.Bool.Decides.{nat_tests}
use Rattle.vr_base.specs.declared.calls.Call.{Call}
use Rattle.vr_base.specs.declared.calls.Entry.{Entry}
use Rattle.vr_base.specs.declared.calls.Reply.{Reply}
use Rattle.vr_files.specs.FileMaps.{FileMap}
use Rattle.vr_policy_check.specs.Rules.{CheckedData}
use Rattle.vr_policy_check.specs.Checked.{IsChecked}
use Rattle.vr_core.specs.History.{BookState, IsBook, IsCurrent, calls_of, replies_of}
use Rattle.vr_core.specs.Isolation.{AgreeIn, IsClosedFor, IsIsolated, IsIsolatedHistory, heard, purged}
use Rattle.vr_core.specs.Machine.{Effect, IsStep, Origin, Replay, Replays, after_reply, effect}
use Rattle.vr_base.specs.Calls.{is_made}
use Rattle.vr_core.proofs.StepIsolation.{step_isolated}

-- files that a step stayed out of agree with those with which the files before it did
still_agree : (policy : CheckedData) (regions : ℕ → Bool) (files after others : FileMap) → AgreeIn policy regions files after → AgreeIn policy regions files others
    → AgreeIn policy regions after others
still_agree policy regions files after others out agree = record {
  same = λ path region e g. agree.same path region e g ∙ sym (out.same path region e g);
}

module _ (origin : Origin) (steps : (files : FileMap) (who : ℕ) (call : Call) (next : Effect) → IsStep origin files who call next → IsIsolated origin files who call next)
    (caller : ℕ) (ids regions : ℕ → Bool) (closed : IsClosedFor origin.policy caller ids regions) where
  -- the reply of a call, where it is the caller's, before others
  abbrev told_to : ℕ → Reply → List Reply → List Reply
  told_to who reply rest = cond (who == caller) (reply ∷ rest) rest

  same_told : (who : ℕ) (reply other : Reply) (rest more : List Reply) → (who ≡ caller → other ≡ reply) → more ≡ rest → told_to who other more ≡ told_to who reply rest
  same_told who reply other rest more answered same = by_test (who == caller) refl
    where
      by_test : (b : Bool) → (who == caller) ≡ b → cond b (other ∷ more) more ≡ cond b (reply ∷ rest) rest
      by_test true e =
          let is : who ≡ caller = grind (arith, nat_tests, e) in
          ap (λ (r : Reply). r ∷ more) (answered is) ∙ ap (λ rs. reply ∷ rs) same
      by_test false e = same

  not_told : (who : ℕ) (reply : Reply) (rest : List Reply) → ids who ≡ false → told_to who reply rest ≡ rest
  not_told who reply rest out = by_test (who == caller) refl
    where
      by_test : (b : Bool) → (who == caller) ≡ b → cond b (reply ∷ rest) rest ≡ rest
      by_test true e =
          let is : who ≡ caller = grind (arith, nat_tests, e) in
          let clash : true ≡ false = sym closed.itself ∙ ap ids (sym is) ∙ out in
          absurd (let none : ⊥ = cc in none)
      by_test false e = refl

  heard-after : (asked : ℕ × Call) (calls : List (ℕ × Call)) (reply : Reply) (rest replay : Replay) → replay ≡ after_reply reply rest
      → heard caller (asked ∷ calls) replay.replies ≡ told_to asked.0 reply (heard caller calls rest.replies)
  heard-after asked calls reply rest replay is = ap (λ (r : Replay). heard caller (asked ∷ calls) r.replies) is

  pub replays_isolated : (calls : List (ℕ × Call)) (files others : FileMap) (replay twin : Replay) → AgreeIn origin.policy regions files others
      → Replays origin files calls replay → Replays origin others (purged ids calls) twin
      → heard caller (purged ids calls) twin.replies ≡ heard caller calls replay.replies
  replays_isolated [] files others replay twin agree h k = refl
  replays_isolated (asked ∷ calls) files others replay twin agree (next, step, rest, replays, is) k =
      by_test (ids asked.0) refl k (replays_isolated calls)
    where
      isolated : IsIsolated origin files asked.0 asked.1 next
      isolated = steps files asked.0 asked.1 next step

      by_test : (b : Bool) → ids asked.0 ≡ b → Replays origin others (cond b (asked ∷ purged ids calls) (purged ids calls)) twin
          → ((files others : FileMap) (replay twin : Replay) → AgreeIn origin.policy regions files others → Replays origin files calls replay → Replays origin others (purged ids calls) twin
          → heard caller (purged ids calls) twin.replies ≡ heard caller calls replay.replies)
          → heard caller (cond b (asked ∷ purged ids calls) (purged ids calls)) twin.replies ≡ heard caller (asked ∷ calls) replay.replies
      by_test true e (next', step', rest', replays', is') further =
          let both = isolated.alike caller ids regions closed others next' agree step' in
          heard-after asked (purged ids calls) next'.reply rest' twin is'
          ∙ same_told asked.0 next.reply next'.reply _ _ both.answered (further next.files next'.files rest rest' (both.agree e) replays replays')
          ∙ sym (heard-after asked calls next.reply rest replay is)
      by_test false e h further =
          let out = isolated.out caller ids regions closed e in
          further next.files others rest twin (still_agree origin.policy regions files next.files others out agree) replays h
          ∙ sym (not_told asked.0 next.reply (heard caller calls rest.replies) e)
          ∙ sym (heard-after asked calls next.reply rest replay is)

-- the history of current files is isolated
pub history_isolated : (origin : Origin) → ((files : FileMap) (who : ℕ) (call : Call) (next : Effect) → IsStep origin files who call next → IsIsolated origin files who call next)
    → (journal : List Entry) (files : FileMap) → IsCurrent origin journal files → IsIsolatedHistory origin journal
history_isolated origin steps journal files is caller ids regions closed opening replay agree h =
    replays_isolated origin steps caller ids regions closed (calls_of journal) origin.opening opening (record { replies = replies_of journal; files = files }) replay agree is.replayed h

-- so the history of a book is
pub book_isolated : {K : Type 0} (rows : K → Option FileMap) (is_loaded : K → Bool) (book : BookState K) → IsBook rows is_loaded book → IsIsolatedHistory book.origin book.journal
book_isolated rows is_loaded book is = history_isolated book.origin (step_isolated book.origin is.checked) book.journal book.files is.history

-- and a call that was made
pub made_isolated : (origin : Origin) → IsChecked origin.policy → (files : FileMap) (who : ℕ) (call : Call) (reply : Reply) (after : FileMap)
    → (IsTrue (is_made reply) → IsStep origin files who call (effect reply after)) → IsTrue (is_made reply) → IsIsolated origin files who call (effect reply after)
made_isolated origin is files who call reply after outcome made = step_isolated origin is files who call (effect reply after) (outcome made)
