-- What a request's head and body, once they are read, say of the stream.
use Rattle.std.proofs.Common.{◌≡◌, ℕ, ◌<◌, List, ◌++◌, length, drop, refl, sym, ap, subst, ◌∙◌, slice_range}
use Rattle.std.specs.Prelude.{Option, Some, None, Ok, Err, IfSome}
use Rattle.std.specs.Io.KnownBytes.{Consumes}
use Rattle.std.proofs.lemmas.Bool.{false≢true}
use Rattle.std.proofs.lemmas.List.{drop-append-le}
use Rattle.vr_http.specs.Inboxes.{stream, Gathers}
use Rattle.vr_http.specs.Reading.{SpellsBy, Spells, cut_at, IsPlaced, FindsHead, LocatesHead, ReadsBody}
use Rattle.vr_http.specs.Requests.{TakesRequest, TakesFirst}
use Rattle.vr_http.specs.declared.faults.HttpFault.{HttpFault}
use Rattle.vr_http.specs.declared.faults.HttpFault.TheVariants.{BadHead, HeadTooLarge, NoLength, BodyTooLarge, Coding, Expect, CutShort, ReadFault, OutOfMemory}
use Rattle.vr_http.specs.declared.heads.Head.{Head}
use Rattle.vr_http.specs.declared.reading.Place.{Place}
use Rattle.vr_http.proofs.GatherLemmas.{stream_kept}
use Rattle.vr_http.proofs.ReadLemmas.{if_some}
use Rattle.vr_http.proofs.RequestLemmas.{first_refused, first_cut, first_taken, request_with}

if_some_at : {A : Type 0} (known : Option A) (P : A → Type 0) (x : A) → known ≡ Some x → IfSome known P → P x
if_some_at {A = A} known P x is holds = let Q : Option A → Type 0 = λ o. IfSome o P in subst Q is holds

-- a head that is refused
pub takes_refused : (old held : List ℕ) (before left : Option (List ℕ)) (place : Place) (fault : HttpFault)
    → LocatesHead (stream old before) held (Ok (Some place)) → Spells (slice_range held place.start place.end) (Err fault)
    → TakesFirst (stream old before) left (Err fault)
takes_refused old held before left place fault locates spells =
    if_some (stream old before) _ (λ bytes told.
    let found = if_some_at (stream old before) (λ b. FindsHead held b (Ok (Some place))) bytes told locates in
    by_fault bytes found fault spells)
  where
    by_fault : (bytes : List ℕ) → FindsHead held bytes (Ok (Some place)) → (f : HttpFault)
        → Spells (slice_range held place.start place.end) (Err f) → TakesRequest bytes left (Err f)
    by_fault bytes found BadHead says _ = first_refused bytes (cut_at held place bytes) BadHead found says
    by_fault bytes found HeadTooLarge says _ = first_refused bytes (cut_at held place bytes) HeadTooLarge found says
    by_fault bytes found NoLength says _ = first_refused bytes (cut_at held place bytes) NoLength found says
    by_fault bytes found BodyTooLarge says _ = first_refused bytes (cut_at held place bytes) BodyTooLarge found says
    by_fault bytes found Coding says _ = first_refused bytes (cut_at held place bytes) Coding found says
    by_fault bytes found Expect says _ = first_refused bytes (cut_at held place bytes) Expect found says
    by_fault bytes found CutShort says _ = first_refused bytes (cut_at held place bytes) CutShort found says
    by_fault bytes found ReadFault says _ = absurd says
    by_fault bytes found OutOfMemory says by = absurd (false≢true by)

-- no fault of a head is that of a source
pub spells_no_read_fault : (text : List ℕ) (fault : HttpFault) → Spells text (Err fault) → fault ≡ ReadFault → ⊥
spells_no_read_fault text fault spells is =
    let P : HttpFault → Type 0 = λ f. Spells text (Err f) in subst P is spells

-- the bytes after a head are those that are held after it and those that the source has left
after_head : (held rest : List ℕ) (place : Place) (bytes : List ℕ) → IsPlaced held place → bytes ≡ held ++ rest
    → drop place.end bytes ≡ drop place.end held ++ rest
after_head held rest place bytes placed whole =
    ap (drop place.end) whole ∙ drop-append-le place.end held rest placed.within

-- a body that doesn't come whole
pub takes_cut : (old held : List ℕ) (before middle last : Option (List ℕ)) (place : Place) (said : Head) (fault : HttpFault)
    → Gathers old held before middle → LocatesHead (stream old before) held (Ok (Some place)) → IsPlaced held place
    → SpellsBy (slice_range held place.start place.end) (Ok said)
    → ReadsBody said.size (stream (drop place.end held) middle) last (Err fault)
    → TakesFirst (stream old before) last (Err fault)
takes_cut old held before middle last place said fault gathers locates placed spells body =
    if_some (stream old before) _ (λ bytes told.
    let found = if_some_at (stream old before) (λ b. FindsHead held b (Ok (Some place))) bytes told locates in
    by_fault bytes found (stream_kept old held before middle gathers bytes told) fault body)
  where
    by_fault : (bytes : List ℕ) → FindsHead held bytes (Ok (Some place))
        → (rest : List ℕ) × (middle ≡ Some rest) × (bytes ≡ held ++ rest) → (f : HttpFault)
        → ReadsBody said.size (stream (drop place.end held) middle) last (Err f) → TakesRequest bytes last (Err f)
    by_fault bytes found s CutShort short _ =
        let after = drop place.end held in
        let told : stream after middle ≡ Some (after ++ s.0) = ap (stream after) s.1 in
        let few : length (after ++ s.0) < said.size =
        if_some_at (stream after middle) (λ b. length b < said.size) (after ++ s.0) told short in
        let P : List ℕ → Type 0 = λ b. length b < said.size in
        first_cut bytes (cut_at held place bytes) said found spells
        (subst P (sym (after_head held s.0 place bytes placed s.2)) few)
    by_fault bytes found s BadHead short _ = absurd short
    by_fault bytes found s HeadTooLarge short _ = absurd short
    by_fault bytes found s NoLength short _ = absurd short
    by_fault bytes found s BodyTooLarge short _ = absurd short
    by_fault bytes found s Coding short _ = absurd short
    by_fault bytes found s Expect short _ = absurd short
    by_fault bytes found s ReadFault short by = absurd (false≢true by)
    by_fault bytes found s OutOfMemory short by = absurd (false≢true by)

-- known bytes that lose their front are still known
consumed_told : (bytes front : List ℕ) (left : Option (List ℕ)) → Consumes (Some bytes) left front
    → (rest : List ℕ) × (left ≡ Some rest) × (bytes ≡ front ++ rest)
consumed_told bytes front None consumed = absurd consumed
consumed_told bytes front (Some rest) consumed = (rest, refl, consumed)

-- a request that came whole
pub takes_request : (old held : List ℕ) (before middle last : Option (List ℕ)) (place : Place) (said : Head) (body : List ℕ)
    → Gathers old held before middle → LocatesHead (stream old before) held (Ok (Some place)) → IsPlaced held place
    → SpellsBy (slice_range held place.start place.end) (Ok said)
    → ReadsBody said.size (stream (drop place.end held) middle) last (Ok body)
    → TakesFirst (stream old before) last (Ok (Some (request_with said body)))
takes_request old held before middle last place said body gathers locates placed spells taken =
    if_some (stream old before) _ (λ bytes told.
    let found = if_some_at (stream old before) (λ b. FindsHead held b (Ok (Some place))) bytes told locates in
    let s = stream_kept old held before middle gathers bytes told in
    let after = drop place.end held in
    let P : Option (List ℕ) → Type 0 = λ known. Consumes known last body in
    let left = consumed_told (after ++ s.0) body last (subst P (ap (stream after) s.1) taken.0) in (
      left.0,
      left.1,
      first_taken bytes (cut_at held place bytes) said body left.0 found spells
          (after_head held s.0 place bytes placed s.2 ∙ left.2) taken.1,
    ))
