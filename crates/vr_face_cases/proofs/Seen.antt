-- What the one seat of a desk has seen after a call.
use Rattle.std.proofs.Common.{◌≡◌, ◌≢◌, ℕ, true, false, List, [], ◌∷◌, ◌++◌, sym, ap, ◌∙◌, append-nil}
use Rattle.std.proofs.lemmas.List.Elements.{All-nil}
use Rattle.vr_base.specs.Calls.{is_made}
use Rattle.vr_base.specs.Desks.{Sees}
use Rattle.vr_base.specs.declared.calls.Call.{Call}
use Rattle.vr_base.specs.declared.calls.Entry.{Entry}
use Rattle.vr_base.specs.declared.calls.Reply.{Reply}
use Rattle.vr_base.specs.declared.calls.Reply.TheVariants.{OutOfMemory, Unavailable}

pub sees_made : (who : ℕ) (call : Call) (reply : Reply) (old new : List Entry)
    → (new ≡ old ++ record { seat = 0; who = who; call = call; reply = reply } ∷ []) × (is_made reply ≡ true) → Sees 0 who call reply old new
sees_made who call reply old new h = record {
  others = [];
  apart = All-nil (λ (entry : Entry). entry.seat ≢ 0);
  history = rw h.1 h.0;
}

pub sees_none : (who : ℕ) (call : Call) (old new : List Entry) → new ≡ old → Sees 0 who call OutOfMemory old new
sees_none who call old new e = record {
  others = [];
  apart = All-nil (λ (entry : Entry). entry.seat ≢ 0);
  history = e ∙ sym (append-nil old);
}

pub made_calm : (reply : Reply) → is_made reply ≡ true → reply ≢ Unavailable
made_calm reply made e = differ (sym (ap (λ (r : Reply). is_made r) e) ∙ made)
  where
    differ : false ≡ true → ⊥
    differ e = cc
