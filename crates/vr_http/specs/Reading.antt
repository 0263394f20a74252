-- What the steps of reading a request find, one after the other.
use Rattle.std.specs.Prelude.{◌≡◌, ℕ, ◌+◌, ◌<◌, ◌≤◌, ◌⊎◌, List, ◌++◌, length, drop, slice_range, IsTrue, IfSome, Option, Some, None, Result, Ok, Err}
use Rattle.std.specs.Io.KnownBytes.{Consumes, IsAtEnd}
use Rattle.httparse.specs.Grammar.{RequestHead, ReadsRequest, HasNoRequest}
use Rattle.vr_base.specs.Checks.{Told, nothing, exactly, never}
use Rattle.vr_http.specs.HeadFields.{head_by}
use Rattle.vr_http.specs.Heads.{CutHead, blank_length, first_head, inner_lines, text_length}
use Rattle.vr_http.specs.Inboxes.{AddsBytes}
use Rattle.vr_http.specs.Requests.{fields_of, is_of_bytes}
use Rattle.vr_http.specs.Searches.{EndsAt}
use Rattle.vr_http.specs.declared.faults.HttpFault.{HttpFault}
use Rattle.vr_http.specs.declared.faults.HttpFault.TheVariants.{BadHead, HeadTooLarge, CutShort, ReadFault, OutOfMemory}
use Rattle.vr_http.specs.declared.heads.Head.{Head}
use Rattle.vr_http.specs.declared.reading.Place.{Place}

-- what a fault in the reading of a head text tells
abbrev pub head_told : HttpFault → Told HttpFault
head_told ReadFault = never
head_told OutOfMemory = nothing
head_told fault = exactly fault

-- The text is a request head that gives this answer.
pub record SpellsBy (text : List ℕ) (answer : Result Head HttpFault) : Type 0 where
  pub head : RequestHead
  pub over : List ℕ
  pub reads : ReadsRequest text head over
  pub answered : head_by head.method head.target head.minor (fields_of head) ≡ answer

-- The text is no request head, or one with this fault.
abbrev pub Refuses : List ℕ → HttpFault → Type 0
Refuses text fault = (HasNoRequest text × (fault ≡ BadHead)) ⊎ SpellsBy text (Err fault)

-- The text is a request head that says this, or it is refused, or memory ran out.
abbrev pub Spells : List ℕ → Result Head HttpFault → Type 0
Spells text (Ok head) = SpellsBy text (Ok head)
Spells text (Err OutOfMemory) = Unit {0}
Spells text (Err ReadFault) = ⊥
Spells text (Err fault) = Refuses text fault

-- the most bytes of a head, with the CR and LF before it counted
abbrev pub most_head : ℕ
most_head = 16384

-- A step that reads more had room and read, or it had none.
abbrev pub ReadsMore : List ℕ → List ℕ → Option (List ℕ) → Result ℕ HttpFault → Type 0
ReadsMore old new left (Ok count) = AddsBytes old new left count × (length old < most_head)
ReadsMore old new left (Err HeadTooLarge) = (new ≡ old) × (length new ≡ most_head)
ReadsMore old new left (Err ReadFault) = Unit {0}
ReadsMore old new left (Err fault) = ⊥

-- The held bytes are all CR or LF.
abbrev pub IsBlank : List ℕ → Type 0
IsBlank held = blank_length held ≡ length held

-- So many CR and LF bytes come first in what is held, and then others.
pub record IsBlankTo (held : List ℕ) (at : ℕ) : Type 0 where
  pub inside : at < length held
  pub blank : blank_length held ≡ at

-- The source has ended, and what is held is less than a head may have.
pub record IsWhole (held : List ℕ) (left : Option (List ℕ)) : Type 0 where
  pub ended : IsAtEnd left
  pub short : length held < most_head

-- The bytes before a head text were read: so many, or all that come, or all that a head may have.
abbrev pub ReadsBlank : List ℕ → Option (List ℕ) → Result (Option ℕ) HttpFault → Type 0
ReadsBlank held left (Ok (Some at)) = IsBlankTo held at
ReadsBlank held left (Ok None) = IsBlank held × IsWhole held left
ReadsBlank held left (Err HeadTooLarge) = IsBlank held × (length held ≡ most_head)
ReadsBlank held left (Err ReadFault) = Unit {0}
ReadsBlank held left (Err fault) = ⊥

-- A head text was read from its place on: up to its end, or it doesn't end in all that comes, or in
-- all that a head may have.
abbrev pub ReadsText : ℕ → List ℕ → Option (List ℕ) → Result ℕ HttpFault → Type 0
ReadsText at held left (Ok end) = EndsAt held at end
ReadsText at held left (Err CutShort) = (text_length (drop at held) ≡ None) × IsWhole held left
ReadsText at held left (Err HeadTooLarge) =
    (text_length (drop at held) ≡ None) × (length held ≡ most_head)
ReadsText at held left (Err ReadFault) = Unit {0}
ReadsText at held left (Err fault) = ⊥

-- the head of the unread bytes at a place, with what comes after it
abbrev pub cut_at : List ℕ → Place → List ℕ → CutHead
cut_at held place bytes =
    record { text = slice_range held place.start place.end; rest = drop place.end bytes }

-- A head text has its place in what is held.
pub record IsPlaced (held : List ℕ) (place : Place) : Type 0 where
  pub ordered : place.start ≤ place.end
  pub within : place.end ≤ length held
  pub lines : inner_lines (slice_range held place.start place.end) ≤ 64

-- the fact of the place, where there is one
abbrev pub IfPlace : Result (Option Place) HttpFault → (Place → Type 0) → Type 0
IfPlace (Ok (Some place)) P = P place
IfPlace (Ok None) P = Unit {0}
IfPlace (Err fault) P = Unit {0}

-- The first head of the stream has this place, or there is none, or it is at fault.
abbrev pub FindsHead : List ℕ → List ℕ → Result (Option Place) HttpFault → Type 0
FindsHead held bytes (Ok (Some place)) =
    first_head most_head 64 bytes ≡ Ok (Some (cut_at held place bytes))
FindsHead held bytes (Ok None) = first_head most_head 64 bytes ≡ Ok None
FindsHead held bytes (Err fault) =
    IsTrue (is_of_bytes fault) → first_head most_head 64 bytes ≡ Err fault

-- The same, where the stream is told.
abbrev pub LocatesHead : Option (List ℕ) → List ℕ → Result (Option Place) HttpFault → Type 0
LocatesHead known held result = IfSome known (λ bytes. FindsHead held bytes result)

-- The whole buffer was filled from what the source had left, or that was less.
abbrev pub FillsWhole : List ℕ → Option (List ℕ) → Option (List ℕ) → Result (Unit {0}) HttpFault
    → Type 0
FillsWhole into left_old left_new (Ok done) = Consumes left_old left_new into
FillsWhole into left_old left_new (Err CutShort) =
    IfSome left_old (λ bytes. length bytes < length into)
FillsWhole into left_old left_new (Err ReadFault) = Unit {0}
FillsWhole into left_old left_new (Err fault) = ⊥

-- The bytes grew to so many from what the source had left, or that was less.
pub record GrowsTo (size : ℕ) (old new : List ℕ)
    (left_old left_new : Option (List ℕ)) : Type 0 where
  pub more : List ℕ
  pub added : new ≡ old ++ more
  pub whole : length new ≡ size
  pub consumed : Consumes left_old left_new more

abbrev pub ReadsRest : ℕ → List ℕ → List ℕ → Option (List ℕ) → Option (List ℕ)
    → Result (Unit {0}) HttpFault → Type 0
ReadsRest size old new left_old left_new (Ok done) = GrowsTo size old new left_old left_new
ReadsRest size old new left_old left_new (Err CutShort) =
    IfSome left_old (λ bytes. length old + length bytes < size)
ReadsRest size old new left_old left_new (Err ReadFault) = Unit {0}
ReadsRest size old new left_old left_new (Err OutOfMemory) = Unit {0}
ReadsRest size old new left_old left_new (Err fault) = ⊥

-- A body of so many bytes was taken from the front of the stream, or that has fewer.
abbrev pub ReadsBody : ℕ → Option (List ℕ) → Option (List ℕ) → Result (List ℕ) HttpFault → Type 0
ReadsBody size old new (Ok body) = Consumes old new body × (length body ≡ size)
ReadsBody size old new (Err CutShort) = IfSome old (λ bytes. length bytes < size)
ReadsBody size old new (Err ReadFault) = Unit {0}
ReadsBody size old new (Err OutOfMemory) = Unit {0}
ReadsBody size old new (Err fault) = ⊥
