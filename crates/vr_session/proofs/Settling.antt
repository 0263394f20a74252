-- What all sessions of a porch came to.
use Rattle.std.proofs.Common.{◌≡◌, ◌≤◌, ◌+◌, ◌∙◌, inl, inr, ⊎_elim, ℕ, Bool, true, false, List, [], Option, None, Some, Result, Ok, Err, refl, sym, ap, arith, get_or, subst}
use Rattle.std.specs.Option.{IfSome}
use Rattle.std.specs.Prelude.{OnOk}
use Rattle.std.proofs.Math.Logic.{∥∥₁_map}
use Rattle.vr_base.specs.Causes.{HasCauseOf, Rose}
use Rattle.vr_base.specs.Links.{EndedLink}
use Rattle.vr_base.specs.declared.calls.Entry.{Entry}
use Rattle.vr_face.specs.Doors.{Attends, desk_state, says_want}
use Rattle.vr_face.specs.Porches.{GrowsServed, IsServedLink, KeepsServed}
use Rattle.vr_face.specs.declared.doors.AttendFault.{AttendFault}
use Rattle.vr_face.specs.declared.doors.AttendFault.TheVariants.{Failed, OutOfMemory}
use Rattle.vr_face.specs.declared.keys.Keys.{Keys}
use Rattle.vr_face.proofs.DoorLemmas.{attends_none}
use Rattle.vr_turn.specs.Seats.{gave, given, longer}
use Rattle.vr_turn.specs.Turns.{IsJoined}
use Rattle.vr_turn.specs.declared.views.Knowledge.{Knowledge}
use Rattle.vr_session.proofs.Seating.{longer_none}
use Rattle.vr_session.specs.Workers.{AttendsAlone, joint_answer}

-- ---- the joint answer

-- a session that wanted memory is told
pub wanted_jointly : (wanted failed : Bool) (last : Result (Unit {0}) AttendFault) → wanted ≡ true → says_want (joint_answer wanted failed last) ≡ true
wanted_jointly true failed last e = refl
wanted_jointly false failed last e = absurd (let none : ⊥ = cc in none)

-- all was handed out where no session and no accept failed
pub jointly_counted : (wanted failed : Bool) (last : Result (Unit {0}) AttendFault) (left handed whole : ℕ) → OnOk last (left ≡ 0) → (failed ≡ false → handed + left ≡ whole)
    → OnOk (joint_answer wanted failed last) (handed ≡ whole)
jointly_counted true failed last left handed whole over together = tt
jointly_counted false failed (Err fault) left handed whole over together = tt
jointly_counted false true (Ok x) left handed whole over together = tt
jointly_counted false false (Ok x) left handed whole over together = let sum : handed + left ≡ whole = together refl in omega (arith, over, sum)

-- an accept failed, first or last
pub jointly_failed : (wanted failed : Bool) (last : Result (Unit {0}) AttendFault) (before now : ℕ) → before ≤ now → (failed ≡ true → Rose before now) → (last ≡ Err Failed → Rose before now)
    → HasCauseOf Failed before now (joint_answer wanted failed last)
jointly_failed wanted failed last before now later first then = record { later = later; failed = by_parts wanted failed last first then }
  where
    by_parts : (wanted failed : Bool) (last : Result (Unit {0}) AttendFault) → (failed ≡ true → Rose before now) → (last ≡ Err Failed → Rose before now)
        → joint_answer wanted failed last ≡ Err Failed → Rose before now
    by_parts true failed last first then e = cc (e)
    by_parts false failed (Err fault) first then e = then e
    by_parts false true (Ok x) first then e = first refl
    by_parts false false (Ok x) first then e = cc (e)

-- a count that rose after it had not fallen
pub rose_since : (opening before now : ℕ) → opening ≤ before → Rose before now → Rose opening now
rose_since opening before now first rose = omega (arith, first, rose)

-- ---- lists of connections

also_served : (w v : Bool) → (w ≡ true → v ≡ true) → (link : EndedLink) → IsServedLink w link → IsServedLink v link
also_served w v also link (inl whole) = inl whole
also_served w v also link (inr part) = inr (part.0, ⊎_elim (λ failed. inl failed) (λ wanted. inr (also wanted)) part.1)

also_grows : (old new : Option (List EndedLink)) (w v : Bool) → (w ≡ true → v ≡ true) → IfSome new (λ list. GrowsServed old list w) → IfSome new (λ list. GrowsServed old list v)
also_grows old None w v also h = tt
also_grows old (Some list) w v also h = record {
  first = h.first;
  more = h.more;
  told = h.told;
  grown = h.grown;
  served = λ k d below. also_served w v also (get_or h.more k d) (h.served k d below);
}

-- more may have wanted memory than is told
pub also_keeps : (old new : Option (List EndedLink)) (w v : Bool) → (w ≡ true → v ≡ true) → KeepsServed old new w → KeepsServed old new v
also_keeps old new w v also h = ∥∥₁_map h (also_grows old new w v also)

-- ---- one worker

-- nothing was served
pub alone_none : (keys : Keys) (told : Option (List EndedLink)) (handed before within : ℕ) (journal : List Entry) (answer : Result (Unit {0}) AttendFault)
    → journal ≡ [] → before ≤ within → IfSome told (λ list. AttendsAlone keys told list handed handed before within journal answer)
alone_none keys None handed before within journal answer e below = tt
alone_none keys (Some list) handed before within journal answer e below = record {
  wanted = false;
  faults = before;
  attends = subst (λ (seen : List Entry). Attends keys 1 (Some list) list (Some handed) (Some handed) (desk_state [] before) (desk_state seen before) false) (sym e)
      (attends_none keys 1 (Some list) (Some handed) (desk_state [] before));
  within = below;
  memory = λ e. absurd (let none : ⊥ = cc in none);
}

wants_memory : (answer : Result (Unit {0}) AttendFault) → says_want answer ≡ true → answer ≡ Err OutOfMemory
wants_memory (Err OutOfMemory) e = refl
wants_memory (Err Failed) e = absurd (let none : ⊥ = cc in none)
wants_memory (Ok x) e = absurd (let none : ⊥ = cc in none)

-- what a seat served, whose calls are the journal
pub alone : (keys : Keys) (old new : Option (List EndedLink)) (handed_old handed_new before within faults : ℕ) (journal : List Entry) (answer : Result (Unit {0}) AttendFault)
    → faults ≤ within
    → IfSome new (λ list. Attends keys 1 old list (Some handed_old) (Some handed_new) (desk_state [] before) (desk_state journal faults) (says_want answer))
    → IfSome new (λ list. AttendsAlone keys old list handed_old handed_new before within journal answer)
alone keys old None handed_old handed_new before within faults journal answer below h = tt
alone keys old (Some list) handed_old handed_new before within faults journal answer below h = record {
  wanted = says_want answer;
  faults = faults;
  attends = h;
  within = below;
  memory = wants_memory answer;
}

-- a greater count of the keeper, and another answer that tells of memory where that one did
pub alone_within : (keys : Keys) (old new : Option (List EndedLink)) (handed_old handed_new before within now : ℕ) (journal : List Entry) (answer other : Result (Unit {0}) AttendFault)
    → within ≤ now → (answer ≡ Err OutOfMemory → other ≡ Err OutOfMemory)
    → IfSome new (λ list. AttendsAlone keys old list handed_old handed_new before within journal answer)
    → IfSome new (λ list. AttendsAlone keys old list handed_old handed_new before now journal other)
alone_within keys old None handed_old handed_new before within now journal answer other below also h = tt
alone_within keys old (Some list) handed_old handed_new before within now journal answer other below also h = record {
  wanted = h.wanted;
  faults = h.faults;
  attends = h.attends;
  within = omega (arith, h.within, below);
  memory = λ e. also (h.memory e);
}

-- what the seat that was split off served, which was taken in then
pub alone_joined : (keys : Keys) (ended_old ended_new : Option (List EndedLink)) (handed_old handed_new : ℕ) (old left own own_back new : Knowledge) (answer : Result (Unit {0}) AttendFault)
    → (old.next ≡ 1) × (old.seen ≡ []) → left ≡ gave old → own ≡ given old → IsJoined left own_back new
    → IfSome ended_new (λ list. Attends keys own.number ended_old list (Some handed_old) (Some handed_new) (desk_state own.seen own.faults) (desk_state own_back.seen own_back.faults) (says_want answer))
    → IfSome ended_new (λ list. AttendsAlone keys ended_old list handed_old handed_new old.faults new.faults new.seen answer)
alone_joined keys ended_old ended_new handed_old handed_new old left own own_back new answer first is_left is_own joins h =
    let grown = ap (λ (k : Knowledge). k.faults) joins.knows in
    let number : own.number ≡ 1 = ap (λ (k : Knowledge). k.number) is_own ∙ first.0 in
    let seen : own.seen ≡ [] = ap (λ (k : Knowledge). k.seen) is_own ∙ first.1 in
    let faults : own.faults ≡ old.faults = ap (λ (k : Knowledge). k.faults) is_own in
    let none : left.seen ≡ [] = ap (λ (k : Knowledge). k.seen) is_left ∙ first.1 in
    let journal : own_back.seen ≡ new.seen =
    sym (ap (λ (k : Knowledge). k.seen) joins.knows ∙ (ap (λ (s : List Entry). longer s own_back.seen) none ∙ longer_none own_back.seen)) in
    alone keys ended_old ended_new handed_old handed_new old.faults new.faults own_back.faults new.seen answer (omega (arith, grown))
    (subst (λ (p : ℕ × List Entry × ℕ × List Entry).
    IfSome ended_new (λ list. Attends keys p.0 ended_old list (Some handed_old) (Some handed_new) (desk_state p.1 p.2) (desk_state p.3 own_back.faults) (says_want answer)))
    (λ i. (number i, seen i, faults i, journal i)) h)
