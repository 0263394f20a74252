-- Bytes that move from a source to the inbox leave the stream as it is.
use Rattle.std.proofs.Common.{◌≡◌, ℕ, ◌+◌, ◌-◌, ◌≤◌, ◌<◌, min, true, false, List, [], ◌++◌, length, take, drop, refl, sym, ap, ◌∙◌, arith, append_assoc, length-append, length-take, length-drop, inl, inr}
use Rattle.std.specs.Prelude.{◌⊎◌, Option, Some, None, Result, Ok, Err}
use Rattle.std.specs.Io.KnownBytes.{Consumes, Keeps}
use Rattle.std.proofs.lemmas.Bool.Decides.{leb_tells}
use Rattle.std.proofs.lemmas.List.{append-nil, nil_from_length, take-append-drop}
use Rattle.std.proofs.Math.Dec.{leb}
use Rattle.vr_http.specs.Inboxes.{stream, Gathers}
use Rattle.vr_http.specs.Reading.{FillsWhole, ReadsRest}
use Rattle.vr_http.specs.declared.faults.HttpFault.{HttpFault}
use Rattle.vr_http.specs.declared.faults.HttpFault.TheVariants.{BadHead, HeadTooLarge, NoLength, BodyTooLarge, Coding, Expect, CutShort, ReadFault, OutOfMemory}

pub Consumes-then : (a b c : Option (List ℕ)) (xs ys : List ℕ) → Consumes a b xs → Consumes b c ys → Consumes a c (xs ++ ys)
Consumes-then None b c xs ys first second = tt
Consumes-then (Some x) None c xs ys first second = absurd first
Consumes-then (Some x) (Some y) None xs ys first second = absurd second
Consumes-then (Some x) (Some y) (Some z) xs ys first second =
    first ∙ ap (λ (t : List ℕ). xs ++ t) second ∙ sym (append_assoc xs ys z)

Consumes-none : (known : Option (List ℕ)) → Consumes known known []
Consumes-none None = tt
Consumes-none (Some x) = refl

pub Consumes-kept : (old new : Option (List ℕ)) → Keeps old new → Consumes old new []
Consumes-kept None new kept = tt
Consumes-kept (Some x) None kept = absurd kept
Consumes-kept (Some x) (Some y) kept = sym kept

pub Gathers-refl : (held : List ℕ) (left : Option (List ℕ)) → Gathers held held left left
Gathers-refl held left = record { more = []; added = sym (append-nil held); consumed = Consumes-none left }

pub Gathers-then : (a b c : List ℕ) (l m n : Option (List ℕ)) → Gathers a b l m → Gathers b c m n → Gathers a c l n
Gathers-then a b c l m n first second = record {
  more = first.more ++ second.more;
  added =
      second.added
      ∙ ap (λ (t : List ℕ). t ++ second.more) first.added
      ∙ append_assoc a first.more second.more;
  consumed = Consumes-then l m n first.more second.more first.consumed second.consumed;
}

-- a read of no bytes adds none
pub added_none : (old new : List ℕ) (left_old left_new : Option (List ℕ)) → Gathers old new left_old left_new
    → length new ≡ length old + 0 → new ≡ old
added_none old new left_old left_new gathers size =
    let sum : length new ≡ length old + length gathers.more = ap length gathers.added ∙ length-append old gathers.more in
    let none : gathers.more ≡ [] = nil_from_length gathers.more (omega arith) in
    gathers.added ∙ ap (λ (t : List ℕ). old ++ t) none ∙ append-nil old

-- what the inbox holds and the source has left is the same stream
pub stream_kept : (old new : List ℕ) (left_old left_new : Option (List ℕ)) → Gathers old new left_old left_new
    → (bytes : List ℕ) → stream old left_old ≡ Some bytes
    → (rest : List ℕ) × (left_new ≡ Some rest) × (bytes ≡ new ++ rest)
stream_kept old new None left_new gathers bytes told = absurd (none told)
  where
    none : None ≡ Some bytes → ⊥
    none e = cc
stream_kept old new (Some left) None gathers bytes told = absurd gathers.consumed
stream_kept old new (Some left) (Some rest) gathers bytes told = (
  rest,
  refl,
  sym (same told)
      ∙ ap (λ (t : List ℕ). old ++ t) gathers.consumed
      ∙ sym (append_assoc old gathers.more rest)
      ∙ ap (λ (t : List ℕ). t ++ rest) (sym gathers.added),
)
  where
    same : Some (old ++ left) ≡ Some bytes → old ++ left ≡ bytes
    same e = cc

-- a buffer that was filled is what the bytes grew by
pub rest_by : (size : ℕ) (old new into : List ℕ) (left_old left_new : Option (List ℕ)) (result : Result (Unit {0}) HttpFault)
    → FillsWhole into left_old left_new result → new ≡ old ++ into → length new ≡ size
    → ReadsRest size old new left_old left_new result
rest_by size old new into left_old left_new (Ok done) fills added whole =
    record { more = into; added = added; whole = whole; consumed = fills }
rest_by size old new into None left_new (Err CutShort) fills added whole = tt
rest_by size old new into (Some bytes) left_new (Err CutShort) fills added whole =
    omega (arith, fills, ap length added, length-append old into)
rest_by size old new into left_old left_new (Err ReadFault) fills added whole = tt
rest_by size old new into left_old left_new (Err BadHead) fills added whole = fills
rest_by size old new into left_old left_new (Err HeadTooLarge) fills added whole = fills
rest_by size old new into left_old left_new (Err NoLength) fills added whole = fills
rest_by size old new into left_old left_new (Err BodyTooLarge) fills added whole = fills
rest_by size old new into left_old left_new (Err Coding) fills added whole = fills
rest_by size old new into left_old left_new (Err Expect) fills added whole = fills
rest_by size old new into left_old left_new (Err OutOfMemory) fills added whole = tt

-- of what is left behind and what comes more, one is nothing
one_empty : (count size held back more : ℕ) → count ≡ min held size → back ≡ held - count → min count held + more ≡ size
    → (back ≡ 0) ⊎ (more ≡ 0)
one_empty count size held back more is left whole = by_order (leb_tells held size)
  where
    by_order : ((leb held size ≡ true) × (held ≤ size)) ⊎ ((leb held size ≡ false) × (size < held)) → (back ≡ 0) ⊎ (more ≡ 0)
    by_order (inl all) = inl (let fits : held ≤ size = all.1 in omega arith)
    by_order (inr part) = inr (let fits : size < held = part.1 in omega arith)

-- a body is the front of what is held, and then more where all of that was taken
pub body_taken : (held more : List ℕ) (count size : ℕ) (left_old left_new : Option (List ℕ))
    → count ≡ min (length held) size → length (take count held ++ more) ≡ size → Consumes left_old left_new more
    → Consumes (stream held left_old) (stream (drop count held) left_new) (take count held ++ more)
body_taken held more count size None left_new is whole consumed = tt
body_taken held more count size (Some left) None is whole consumed = absurd consumed
body_taken held more count size (Some left) (Some rest) is whole consumed =
    let front = take count held in
    let back = drop count held in
    let parts : length (front ++ more) ≡ length front + length more = length-append front more in
    let front_size : length front ≡ min count (length held) = length-take count held in
    let back_size : length back ≡ length held - count = length-drop count held in
    ap (λ (t : List ℕ). held ++ t) consumed
    ∙ ap (λ (t : List ℕ). t ++ (more ++ rest)) (sym (take-append-drop count held))
    ∙ append_assoc front back (more ++ rest)
    ∙ ap (λ (t : List ℕ). front ++ t) (pass back more rest (one_empty count size (length held) (length back) (length more) is back_size (omega arith)))
    ∙ sym (append_assoc front more (back ++ rest))
  where
    pass : (a b c : List ℕ) → (length a ≡ 0) ⊎ (length b ≡ 0) → a ++ (b ++ c) ≡ b ++ (a ++ c)
    pass a b c (inl none) =
        ap (λ (t : List ℕ). t ++ (b ++ c)) (nil_from_length a none) ∙ ap (λ (t : List ℕ). b ++ (t ++ c)) (sym (nil_from_length a none))
    pass a b c (inr none) =
        ap (λ (t : List ℕ). a ++ (t ++ c)) (nil_from_length b none) ∙ ap (λ (t : List ℕ). t ++ (a ++ c)) (sym (nil_from_length b none))
