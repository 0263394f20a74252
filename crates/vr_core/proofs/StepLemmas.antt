-- A call comes to one step of the machine at most, and calls to one replay; a replay with one call more.
use Rattle.std.proofs.Common.{◌≡◌, ℕ, List, [], ◌∷◌, ◌++◌, Ok, Err, refl, sym, ap, ◌∙◌, subst}
use Rattle.vr_base.specs.declared.calls.Call.{Call}
use Rattle.vr_base.specs.declared.calls.Call.TheVariants as calls
use Rattle.vr_exec.proofs.OnceLemmas.{pipeline_comes_to_one}
use Rattle.vr_exec.specs.declared.outcome.Outcome.{Outcome}
use Rattle.vr_files.specs.FileMaps.{FileMap}
use Rattle.vr_core.specs.Machine.{Checked, Effect, IsRunStep, IsStep, Origin, Replay, Replays, after_reply, effect_of, no_calls, outcome_effect, run_place}

-- a replay with one step more
abbrev pub with_step : Replay → Effect → Replay
with_step before next = record { replies = before.replies ++ next.reply ∷ []; files = next.files }

module _ (origin : Origin) where
  run_once : (files : FileMap) (place : Checked ℕ) (a b : Effect) → IsRunStep origin files place a → IsRunStep origin files place b → a ≡ b
  run_once files (Ok place) a b h k =
      let same : h.outcome ≡ k.outcome = pipeline_comes_to_one origin.policy place files origin.fuel h.outcome k.outcome h.comes k.comes in
      h.next_is ∙ ap (λ (o : Outcome). effect_of files (outcome_effect origin.policy files o)) same ∙ sym k.next_is
  run_once files (Err refusal) a b h k = h ∙ sym k

  -- a call comes to one step at most
  pub step_once : (files : FileMap) (who : ℕ) (call : Call) (a b : Effect) → IsStep origin files who call a → IsStep origin files who call b → a ≡ b
  step_once files who (calls.Read name) a b h k = h ∙ sym k
  step_once files who (calls.Write name body) a b h k = h ∙ sym k
  step_once files who (calls.Append name piece) a b h k = h ∙ sym k
  step_once files who (calls.Run id) a b h k = run_once files (run_place origin.policy files who id) a b h k
  step_once files who calls.Hash a b h k = h ∙ sym k

  -- calls come to one replay at most
  pub replays_once : (files : FileMap) (asked : List (ℕ × Call)) (a b : Replay) → Replays origin files asked a → Replays origin files asked b → a ≡ b
  replays_once files [] a b h k = h ∙ sym k
  replays_once files (one ∷ others) a b (next, step, rest, replays, is) (next', step', rest', replays', is') =
      let same : next ≡ next' = step_once files one.0 one.1 next next' step step' in
      let moved : Replays origin next'.files others rest = subst (λ (e : Effect). Replays origin e.files others rest) same replays in
      let rests : rest ≡ rest' = replays_once next'.files others rest rest' moved replays' in
      is ∙ ap (λ (e : Effect). after_reply e.reply rest) same ∙ ap (after_reply next'.reply) rests ∙ sym is'

  -- one call more
  pub replays_push : (files : FileMap) (asked : List (ℕ × Call)) (one : ℕ × Call) (before : Replay) (next : Effect)
      → Replays origin files asked before → IsStep origin before.files one.0 one.1 next → Replays origin files (asked ++ one ∷ []) (with_step before next)
  replays_push files [] one before next h step =
      (next, subst (λ (r : Replay). IsStep origin r.files one.0 one.1 next) h step, no_calls next.files, refl, ap (λ (r : Replay). with_step r next) h)
  replays_push files (first ∷ others) one before next (after, begun, rest, replays, is) step = (
    after,
    begun,
    with_step rest next,
    replays_push after.files others one rest next replays (subst (λ (r : Replay). IsStep origin r.files one.0 one.1 next) is step),
    ap (λ (r : Replay). with_step r next) is,
  )
