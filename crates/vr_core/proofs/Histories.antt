-- A history with one entry more.
use Rattle.std.proofs.Common.{◌≡◌, ℕ, List, [], ◌∷◌, ◌++◌, refl, ap}
use Rattle.std.specs.Prelude.{IsTrue}
use Rattle.std.proofs.lemmas.List.Elements.{All-append, All-cons, All-nil}
use Rattle.vr_base.specs.declared.calls.Call.{Call}
use Rattle.vr_base.specs.declared.calls.Reply.{Reply}
use Rattle.vr_base.specs.declared.calls.Entry.{Entry}
use Rattle.vr_files.specs.FileMaps.{FileMap}
use Rattle.vr_core.specs.History.{IsCurrent, calls_of, entry, replies_of}
use Rattle.vr_core.specs.Machine.{IsStep, Origin, effect}
use Rattle.vr_base.specs.Calls.{is_made}
use Rattle.vr_core.proofs.StepLemmas.{replays_push}

calls_of-push : (h : List Entry) (e : Entry) → calls_of (h ++ e ∷ []) ≡ calls_of h ++ (e.who, e.call) ∷ []
calls_of-push [] e = refl
calls_of-push (d ∷ h) e = ap (λ cs. (d.who, d.call) ∷ cs) (calls_of-push h e)

replies_of-push : (h : List Entry) (e : Entry) → replies_of (h ++ e ∷ []) ≡ replies_of h ++ e.reply ∷ []
replies_of-push [] e = refl
replies_of-push (d ∷ h) e = ap (λ rs. d.reply ∷ rs) (replies_of-push h e)

-- a current history stays so with a call that was made at its end
pub current_push : (origin : Origin) (journal : List Entry) (before : FileMap) (seat who : ℕ) (call : Call) (reply : Reply) (after : FileMap)
    → IsCurrent origin journal before → IsStep origin before who call (effect reply after) → IsTrue (is_made reply)
    → IsCurrent origin (journal ++ entry seat who call reply ∷ []) after
current_push origin journal before seat who call reply after is outcome made =
    let e : Entry = entry seat who call reply in
    let pushed = replays_push origin origin.opening (calls_of journal) (who, call) (record { replies = replies_of journal; files = before }) (effect reply after) is.replayed outcome in
    record {
      replayed = rw (calls_of-push journal e, replies_of-push journal e) pushed;
      made = All-append (λ d. IsTrue (is_made d.reply)) journal (e ∷ []) is.made (All-cons (λ d. IsTrue (is_made d.reply)) e [] made (All-nil _));
    }
