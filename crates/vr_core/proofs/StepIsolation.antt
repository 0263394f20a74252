-- Each step of the machine under a checked policy is isolated.
use Rattle.std.proofs.Common.{◌≡◌, ℕ, Bool, false, List, Ok, Err, refl, sym, ap, ◌∙◌, subst}
use Rattle.std.specs.FinMap.{get}
use Rattle.vr_base.specs.Checks.{◌>>◌}
use Rattle.vr_base.specs.declared.calls.Call.{Call}
use Rattle.vr_base.specs.declared.calls.Call.TheVariants as calls
use Rattle.vr_base.specs.declared.calls.Reply.TheVariants.{PolicyHash}
use Rattle.vr_files.specs.FileMaps.{FileMap}
use Rattle.vr_policy_check.specs.Checked.{IsChecked}
use Rattle.vr_policy_read.specs.declared.entries.Identity.{Identity}
use Rattle.vr_core.specs.Isolation.{IsClosedFor, IsIsolated}
use Rattle.vr_core.specs.Machine.{Checked, Effect, IsStep, Origin, append_effect, effect, effect_of, hash_effect, identity_of, read_effect, write_effect}
use Rattle.vr_core.proofs.ClosedLemmas.{AgreeWhere, agree_in, agree_where, in_regions}
use Rattle.vr_core.proofs.RunIsolation.{run_agrees, run_answers, run_stays}
use Rattle.vr_core.proofs.StoreIsolation.{append_agrees, append_answers, append_stays, read_answers, read_stays, write_agrees, write_answers, write_stays}

module _ (origin : Origin) (is : IsChecked origin.policy) (caller : ℕ) (ids regions : ℕ → Bool) (closed : IsClosedFor origin.policy caller ids regions) (files : FileMap) (who : ℕ) where
  abbrev inner : List ℕ → Bool
  inner path = in_regions origin.policy regions path

  abbrev Stays : Effect → Type 0
  Stays next = AgreeWhere inner files next.files

  hash_stays : (called : Checked Identity) → Stays (effect_of files (called >> Ok (effect (PolicyHash origin.hash) files)))
  hash_stays (Ok identity) path in_it = refl
  hash_stays (Err refusal) path in_it = refl

  stays : (call : Call) (next : Effect) → IsStep origin files who call next → ids who ≡ false → Stays next
  stays (calls.Read name) next h out = λ path in_it. ap (λ (e : Effect). get e.files path) h ∙ ap (λ (m : FileMap). get m path) (read_stays origin files who name)
  stays (calls.Write name body) next h out = subst Stays (sym h) (write_stays origin caller ids regions closed files who name body out)
  stays (calls.Append name piece) next h out = subst Stays (sym h) (append_stays origin caller ids regions closed files who name piece out)
  stays (calls.Run id) next h out = run_stays origin is caller ids regions closed who id files next h out
  stays calls.Hash next h out = subst Stays (sym h) (hash_stays (identity_of origin.policy who))

  module _ (others : FileMap) (agree : AgreeWhere inner files others) where
    -- Two effects of one call: alike for the caller, and for the identities.
    record BothAlike (next twin : Effect) : Type 0 where
      answered : who ≡ caller → twin.reply ≡ next.reply
      agrees : AgreeWhere inner next.files twin.files

    moved : (a b next twin : Effect) → next ≡ a → twin ≡ b → BothAlike a b → BothAlike next twin
    moved a b next twin h k both = subst (λ (n : Effect). BothAlike n twin) (sym h) (subst (λ (t : Effect). BothAlike a t) (sym k) both)

    hash_alike : (called : Checked Identity) → BothAlike (effect_of files (called >> Ok (effect (PolicyHash origin.hash) files))) (effect_of others (called >> Ok (effect (PolicyHash origin.hash) others)))
    hash_alike (Ok identity) = record { answered = λ same. refl; agrees = agree }
    hash_alike (Err refusal) = record { answered = λ same. refl; agrees = agree }

    both_alike : (call : Call) (next twin : Effect) → IsStep origin files who call next → IsStep origin others who call twin → BothAlike next twin
    both_alike (calls.Read name) next twin h k = moved (effect_of files (read_effect origin files who name)) (effect_of others (read_effect origin others who name)) next twin h k (record {
      answered = read_answers origin caller ids regions closed files who name others agree;
      agrees = λ path in_it. ap (λ (m : FileMap). get m path) (read_stays origin others who name) ∙ agree path in_it ∙ ap (λ (m : FileMap). get m path) (sym (read_stays origin files who name));
    })
    both_alike (calls.Write name body) next twin h k = moved (effect_of files (write_effect origin files who name body)) (effect_of others (write_effect origin others who name body)) next twin h k (record {
      answered = write_answers origin caller ids regions closed files who name others agree body;
      agrees = write_agrees origin caller ids regions closed files who name others agree body;
    })
    both_alike (calls.Append name piece) next twin h k = moved (effect_of files (append_effect origin files who name piece)) (effect_of others (append_effect origin others who name piece)) next twin h k (record {
      answered = append_answers origin caller ids regions closed files who name others agree piece;
      agrees = append_agrees origin caller ids regions closed files who name others agree piece;
    })
    both_alike (calls.Run id) next twin h k = record {
      answered = run_answers origin is caller ids regions closed who id files others agree next twin h k;
      agrees = run_agrees origin is caller ids regions closed who id files others agree next twin h k;
    }
    both_alike calls.Hash next twin h k = moved (effect_of files (hash_effect origin files who)) (effect_of others (hash_effect origin others who)) next twin h k (hash_alike (identity_of origin.policy who))

-- a step under a checked policy is isolated
pub step_isolated : (origin : Origin) → IsChecked origin.policy → (files : FileMap) (who : ℕ) (call : Call) (next : Effect) → IsStep origin files who call next → IsIsolated origin files who call next
step_isolated origin is files who call next step = record {
  out = λ caller ids regions closed out. agree_in origin.policy regions files next.files (stays origin is caller ids regions closed files who call next step out);
  alike = λ caller ids regions closed others twin agree step'.
      let both = both_alike origin is caller ids regions closed files who others (agree_where origin.policy regions files others agree) call next twin step step' in
      record { answered = both.answered; agree = λ one. agree_in origin.policy regions next.files twin.files both.agrees };
}
