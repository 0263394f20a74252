-- A list of connections that were served grows by one.
use Rattle.std.proofs.Common.{◌≡◌, ℕ, ◌||◌, inl, inr, Bool, true, false, List, [], ◌∷◌, ◌++◌, get_or, Option, Some, None, refl, ap, sym, ◌∙◌, subst, append-nil, append_assoc}
use Rattle.std.specs.Option.{IfSome}
use Rattle.std.proofs.Math.Logic.{∥∥₁_map}
use Rattle.std.proofs.lemmas.List.Elements.{All-append, All-cons, All-nil}
use Rattle.vr_base.specs.Links.{EndedLink, IsGivenBack}
use Rattle.vr_face.specs.Doors.{IsServed, is_want}
use Rattle.vr_face.specs.Porches.{GrowsServed, IsServedLink, KeepsServed}
use Rattle.vr_face.specs.Sessions.{ServedWith}
use Rattle.vr_face.specs.declared.sessions.SessionEnd.{SessionEnd}
use Rattle.vr_face.specs.declared.sessions.SessionEnd.TheVariants as ends

-- a list that grew by nothing
grows_none : (told : Option (List EndedLink)) (wanted : Bool) → IfSome told (λ list. GrowsServed told list wanted)
grows_none None wanted = tt
grows_none (Some list) wanted = record {
  first = list;
  more = [];
  told = refl;
  grown = sym (append-nil list);
  served = All-nil (IsServedLink wanted);
}

-- nothing was given back yet
pub keeps_none : (old new : Option (List EndedLink)) (wanted : Bool) → new ≡ old → KeepsServed old new wanted
keeps_none old new wanted e = ∣ rw e (grows_none old wanted) ∣₁

or_true : (wanted : Bool) → (wanted || true) ≡ true
or_true true = refl
or_true false = refl

still : (wanted more : Bool) → wanted ≡ true → (wanted || more) ≡ true
still wanted more e = rw e refl

-- a session that wants memory takes nothing from what was said before
still_served : (wanted more : Bool) (link : EndedLink) → IsServedLink wanted link → IsServedLink (wanted || more) link
still_served wanted more link (inl h) = inl h
still_served wanted more link (inr h) = inr (h.0, elim h.1 [ inl failed ↦ inl failed | inr e ↦ inr (still wanted more e) ])

served_link : (wanted : Bool) (link : EndedLink) (end : SessionEnd) → ServedWith link.input link.written link.faults end
    → IsServedLink (wanted || is_want end) link
served_link wanted link ends.ReadFault h = inr (h.0, inl h.1)
served_link wanted link ends.WriteFault h = inr (h.0, inl h.1)
served_link wanted link ends.WantOfMemory h = inr (h, inr (or_true wanted))
served_link wanted link end h = inl (end, h)

told_link : (link : EndedLink) (end : SessionEnd) → IsServed (Some link.input) (Some link.written) link.faults end
    → ServedWith link.input link.written link.faults end
told_link link end h = subst (λ (bytes : List ℕ). ServedWith link.input bytes link.faults end) (same h.0 link.written h.1) h.2
  where
    same : (a b : List ℕ) → Some b ≡ Some a → a ≡ b
    same a b e = cc

grows_more : (old mid new : Option (List EndedLink)) (input written : Option (List ℕ)) (faults : ℕ) (end : SessionEnd) (wanted : Bool)
    → IsServed input written faults end → IsGivenBack mid new input written faults
    → IfSome mid (λ list. GrowsServed old list wanted) → IfSome new (λ list. GrowsServed old list (wanted || is_want end))
grows_more old mid None input written faults end wanted served back h = tt
grows_more old mid (Some list) input written faults end wanted served back h = record {
  first = kept.first;
  more = kept.more ++ back.last ∷ [];
  told = kept.told;
  grown = back.grown ∙ ap (λ (links : List EndedLink). links ++ back.last ∷ []) kept.grown ∙ append_assoc kept.first kept.more (back.last ∷ []);
  served = All-append (IsServedLink (wanted || is_want end)) kept.more (back.last ∷ [])
      (λ k d below. still_served wanted (is_want end) (get_or kept.more k d) (kept.served k d below))
      (All-cons (IsServedLink (wanted || is_want end)) back.last [] last (All-nil (IsServedLink (wanted || is_want end))));
}
  where
    kept : GrowsServed old back.before wanted
    kept = subst (λ (known : Option (List EndedLink)). IfSome known (λ list. GrowsServed old list wanted)) back.told h

    last : IsServedLink (wanted || is_want end) back.last
    last = served_link wanted back.last end (told_link back.last end (rw (back.input_told, back.written_told, back.faults_told) at served))

-- a served connection was given back
pub keeps_more : (old mid new : Option (List EndedLink)) (input written : Option (List ℕ)) (faults : ℕ) (end : SessionEnd) (wanted : Bool)
    → KeepsServed old mid wanted → IsServed input written faults end → IsGivenBack mid new input written faults
    → KeepsServed old new (wanted || is_want end)
keeps_more old mid new input written faults end wanted h served back =
    ∥∥₁_map h (grows_more old mid new input written faults end wanted served back)
