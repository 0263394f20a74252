-- Connections that were served one after the other.
use Rattle.std.proofs.Common.{◌≡◌, ◌⊎◌, inl, inr, ℕ, ◌+◌, ◌||◌, Bool, true, false, List, [], ◌∷◌, ◌++◌, length, map, Option, Some, None, refl, ap, sym, ◌∙◌, subst, arith, append-nil, append_assoc, length-append}
use Rattle.std.specs.Option.{IfSome}
use Rattle.std.specs.Prelude.{option_map}
use Rattle.std.proofs.lemmas.List.{map-append}
use Rattle.std.proofs.lemmas.List.Folds.{list_any-append}
use Rattle.vr_base.specs.Links.{EndedLink, IsFresh, IsGivenBack}
use Rattle.vr_base.specs.declared.calls.Entry.{Entry}
use Rattle.vr_face.specs.Doors.{AreVisits, Attends, DeskState, GivesBack, IsServed, IsVisit, Visit, any_want, desk_state, is_want}
use Rattle.vr_face.specs.Sessions.{HasLinkCause, Serves, ServedWith, moment}
use Rattle.vr_face.specs.declared.keys.Keys.{Keys}
use Rattle.vr_face.specs.declared.sessions.SessionEnd.{SessionEnd}
use Rattle.vr_face.proofs.ServedLemmas.{served_with}

-- ---- one connection

module _ (keys : Keys) (seat : ℕ) (left written : Option (List ℕ)) (seen now : List Entry) (faults risen : ℕ) (end : SessionEnd) where
  -- a fresh connection is served by a whole session
  pub fresh_served : (input old_left old_written : Option (List ℕ)) (before after : ℕ) → IsFresh input old_left old_written before
      → Serves keys seat (moment old_left old_written seen faults) (moment left written now risen) end
      → HasLinkCause before after (Some end) → IsServed input written after end
  fresh_served None old_left old_written before after fresh h cause = tt
  fresh_served (Some input) old_left old_written before after fresh h cause =
      served_with keys seat input left written seen now faults risen after end (rw (fresh.0, fresh.1) at h) (rw fresh.2 at cause)

  -- a served connection that was given back
  pub gives_back : (input old_left old_written : Option (List ℕ)) (before after : ℕ) (old new : Option (List EndedLink))
      → IsFresh input old_left old_written before
      → Serves keys seat (moment old_left old_written seen faults) (moment left written now risen) end
      → HasLinkCause before after (Some end)
      → IsGivenBack old new input written after
      → IfSome new (λ list. GivesBack keys seat old list (desk_state seen faults) (desk_state now risen) (is_want end))
  gives_back input old_left old_written before after old None fresh h cause back = tt
  gives_back input old_left old_written before after old (Some list) fresh h cause back = record {
    first = back.before;
    visit = record { link = back.last; end = end };
    told = back.told;
    grown = back.grown;
    is_visit = visited;
    memory = refl;
  }
    where
      fresh_so : (old_left ≡ Some back.last.input) × (old_written ≡ Some []) × (before ≡ 0)
      fresh_so = rw back.input_told at fresh

      session : Serves keys seat (moment (Some back.last.input) (Some []) seen faults) (moment left (Some back.last.written) now risen) end
      session = rw (fresh_so.0, fresh_so.1, back.written_told) at h

      counted : HasLinkCause 0 back.last.faults (Some end)
      counted = rw (fresh_so.2, back.faults_told) at cause

      served : IsServed (Some back.last.input) (Some back.last.written) back.last.faults end
      served = served_with keys seat back.last.input left (Some back.last.written) seen now faults risen back.last.faults end session counted

      sent : served.0 ≡ back.last.written
      sent = told_one served.0 back.last.written served.1
        where
          told_one : (a b : List ℕ) → Some b ≡ Some a → a ≡ b
          told_one a b e = cc

      visited : IsVisit keys seat (desk_state seen faults) (desk_state now risen) (record { link = back.last; end = end })
      visited = record {
        left = left;
        session = session;
        served = subst (λ (bytes : List ℕ). ServedWith back.last.input bytes back.last.faults end) sent served.2;
      }

-- ---- one connection after the others

are_visits_then : (keys : Keys) (seat : ℕ) (visits : List Visit) (before mid after : DeskState) (visit : Visit)
    → AreVisits keys seat visits before mid → IsVisit keys seat mid after visit → AreVisits keys seat (visits ++ visit ∷ []) before after
are_visits_then keys seat [] before mid after visit e last =
    (after, subst (λ (state : DeskState). IsVisit keys seat state after visit) (sym e) last, refl)
are_visits_then keys seat (v ∷ visits) before mid after visit h last =
    (h.0, h.1, are_visits_then keys seat visits h.0 mid after visit h.2 last)

counted_none : (handed : Option ℕ) → IfSome handed (λ count. handed ≡ Some (count + 0))
counted_none None = tt
counted_none (Some count) = ap (λ (n : ℕ). Some n) (omega arith)

counted_more : (handed mid new : Option ℕ) (visits : List Visit) (visit : Visit) → IfSome handed (λ count. mid ≡ Some (count + length visits))
    → new ≡ option_map (λ count. count + 1) mid → IfSome handed (λ count. new ≡ Some (count + length (visits ++ visit ∷ [])))
counted_more None mid new visits visit h k = tt
counted_more (Some count) mid new visits visit h k =
    k ∙ ap (option_map (λ count. count + 1)) h ∙ ap (λ (n : ℕ). Some n) (omega (arith, length-append visits (visit ∷ [])))

-- before anything was handed out
pub attends_none : (keys : Keys) (seat : ℕ) (old : Option (List EndedLink)) (handed : Option ℕ) (state : DeskState)
    → IfSome old (λ list. Attends keys seat old list handed handed state state false)
attends_none keys seat None handed state = tt
attends_none keys seat (Some list) handed state = record {
  first = list;
  visits = [];
  told = refl;
  grown = sym (append-nil list);
  counted = counted_none handed;
  are_visits = refl;
  memory = refl;
}

or_swap : (a b c d : Bool) → a ≡ c → b ≡ d → (a || (b || false)) ≡ (c || d)
or_swap true b c d e f = rw (← e) refl
or_swap false true c d e f = rw (← e, ← f) refl
or_swap false false c d e f = rw (← e, ← f) refl

module _ (keys : Keys) (seat : ℕ) (old mid : Option (List EndedLink)) (handed counted new_count : Option ℕ) (before between after : DeskState) (wanted more : Bool) where
  more_attended : (first list : List EndedLink) → Attends keys seat old first handed counted before between wanted
      → (given : GivesBack keys seat mid list between after more) → given.first ≡ first
      → new_count ≡ option_map (λ count. count + 1) counted
      → Attends keys seat old list handed new_count before after (wanted || more)
  more_attended first list h given e k = record {
    first = h.first;
    visits = h.visits ++ given.visit ∷ [];
    told = h.told;
    grown = given.grown ∙ ap (λ (links : List EndedLink). links ++ given.visit.link ∷ []) (e ∙ h.grown)
        ∙ append_assoc h.first (map (λ (visit : Visit). visit.link) h.visits) (given.visit.link ∷ [])
        ∙ ap (λ (links : List EndedLink). h.first ++ links) (sym (map-append (λ (visit : Visit). visit.link) h.visits (given.visit ∷ [])));
    counted = counted_more handed counted new_count h.visits given.visit h.counted k;
    are_visits = are_visits_then keys seat h.visits before between after given.visit h.are_visits given.is_visit;
    memory = list_any-append (λ (visit : Visit). is_want visit.end) h.visits (given.visit ∷ [])
        ∙ or_swap (any_want h.visits) (is_want given.visit.end) wanted more h.memory given.memory;
  }

  -- a connection that was handed out, served and given back after the others
  pub attends_more : (new : Option (List EndedLink)) → IfSome mid (λ list. Attends keys seat old list handed counted before between wanted)
      → IfSome new (λ list. GivesBack keys seat mid list between after more)
      → new_count ≡ option_map (λ count. count + 1) counted
      → IfSome new (λ list. Attends keys seat old list handed new_count before after (wanted || more))
  attends_more None h given k = tt
  attends_more (Some list) h given k = more_attended given.first list
      (subst (λ (known : Option (List EndedLink)). IfSome known (λ first. Attends keys seat old first handed counted before between wanted)) given.told h)
      given refl k

-- ---- the end of a door

-- all were handed out, or the door failed
pub all_over : {A : Type 0} (told : Option A) (Over Failed : Type 0) → IfSome told (λ _. Over) → IfSome told (λ _. Over ⊎ Failed)
all_over None Over Failed h = tt
all_over (Some x) Over Failed h = inl h

pub all_failed : {A : Type 0} (told : Option A) (Over Failed : Type 0) → Failed → IfSome told (λ _. Over ⊎ Failed)
all_failed None Over Failed h = tt
all_failed (Some x) Over Failed h = inr h
