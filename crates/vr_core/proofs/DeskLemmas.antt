-- What a step adds to the journal of a book, as a desk tells it.
use Rattle.std.proofs.Common.{◌≡◌, ◌≢◌, ℕ, Bool, true, false, ◌==◌, ◌&&◌, List, [], ◌∷◌, ◌++◌, cond, refl, sym, ap, arith, ◌∙◌}
use Rattle.std.proofs.lemmas.List.{append-nil}
use Rattle.std.proofs.lemmas.List.Elements.{All-nil}
use Rattle.std.proofs.lemmas.List.Folds.{list_all-append}
use Rattle.std.specs.List.{list_all}
use Rattle.vr_base.specs.Calls.{is_made}
use Rattle.vr_base.specs.Desks.{Sees, own_entries}
use Rattle.vr_base.specs.declared.calls.Call.{Call}
use Rattle.vr_base.specs.declared.calls.Entry.{Entry}
use Rattle.vr_base.specs.declared.calls.Reply.{Reply}
use Rattle.vr_core.specs.History.{BookState, Steps, entry}
use Rattle.vr_core.specs.PlainDesks.{AreBySeat}

own_by : (made : Bool) (e : Entry) (old new : List Entry) → (made ≡ true → new ≡ old ++ e ∷ []) → (made ≡ false → new ≡ old) → new ≡ old ++ cond made (e ∷ []) []
own_by true e old new grew same = grew refl
own_by false e old new grew same = same refl ∙ sym (append-nil old)

-- what a step adds to the journal
pub steps_own : {K : Type 0} (old new : BookState K) (seat who : ℕ) (call : Call) (reply : Reply) → Steps old new seat who call reply → new.journal ≡ old.journal ++ own_entries seat who call reply
steps_own old new seat who call reply steps = own_by (is_made reply) (entry seat who call reply) old.journal new.journal steps.made steps.journal

-- a seat that has seen the whole journal sees nothing else in the step
pub steps_seen : {K : Type 0} (old new : BookState K) (seat who : ℕ) (call : Call) (reply : Reply) → Steps old new seat who call reply → Sees seat who call reply old.journal new.journal
steps_seen old new seat who call reply steps = record {
  others = [];
  apart = All-nil (λ (e : Entry). e.seat ≢ seat);
  history = steps_own old new seat who call reply steps;
}

own_by_seat : (made : Bool) (seat : ℕ) (e : Entry) → e.seat ≡ seat → AreBySeat seat (cond made (e ∷ []) [])
own_by_seat true seat e same = grind (arith, same)
own_by_seat false seat e same = refl

both : (a b : Bool) → a ≡ true → b ≡ true → (a && b) ≡ true
both true true p q = refl
both true false p q = q
both false b p q = p

grown_by_seat : (seat : ℕ) (old own : List Entry) → AreBySeat seat old → AreBySeat seat own → AreBySeat seat (old ++ own)
grown_by_seat seat old own p q =
    list_all-append (λ (e : Entry). e.seat == seat) old own
    ∙ both (list_all (λ (e : Entry). e.seat == seat) old) (list_all (λ (e : Entry). e.seat == seat) own) p q

-- a journal of one seat stays so after a step from this seat
pub steps_by_seat : {K : Type 0} (old new : BookState K) (seat who : ℕ) (call : Call) (reply : Reply) → Steps old new seat who call reply → AreBySeat seat old.journal → AreBySeat seat new.journal
steps_by_seat old new seat who call reply steps all =
    ap (list_all (λ (e : Entry). e.seat == seat)) (steps_own old new seat who call reply steps)
    ∙ grown_by_seat seat old.journal (own_entries seat who call reply) all (own_by_seat (is_made reply) seat (entry seat who call reply) refl)
