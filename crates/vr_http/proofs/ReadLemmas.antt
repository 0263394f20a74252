-- What the steps of reading a head find together.
use Rattle.std.proofs.Common.{◌≡◌, ℕ, ◌+◌, ◌-◌, ◌<◌, ◌≤◌, List, [], ◌++◌, length, take, drop, refl, sym, ap, subst, ◌∙◌, arith, length-append}
use Rattle.std.specs.Prelude.{Option, Some, None, IfSome, Ok, Err, slice_range}
use Rattle.std.specs.Io.KnownBytes.{IsAtEnd}
use Rattle.std.proofs.lemmas.Bool.{false≢true}
use Rattle.std.proofs.lemmas.List.{take_rest}
use Rattle.std.proofs.lemmas.List.Sums.{prefix_len-le-length}
use Rattle.std.proofs.Math.Seq.{drop-append_seam}
use Rattle.vr_http.specs.Heads.{is_newline, blank_length, text_length, first_head, inner_lines}
use Rattle.vr_http.specs.Inboxes.{stream, Gathers, AddsBytes}
use Rattle.vr_http.specs.Reading.{most_head, ReadsMore, IsBlank, IsBlankTo, IsWhole, ReadsBlank, ReadsText, FindsHead}
use Rattle.vr_http.specs.Searches.{EndsAt, Passes}
use Rattle.vr_http.specs.declared.faults.HttpFault.{HttpFault}
use Rattle.vr_http.specs.declared.faults.HttpFault.TheVariants.{BadHead, HeadTooLarge, NoLength, BodyTooLarge, Coding, Expect, CutShort, ReadFault, OutOfMemory}
use Rattle.vr_http.proofs.GatherLemmas.{added_none, stream_kept}
use Rattle.vr_http.proofs.HeadLemmas.{blank_length-inside, blank_length-all, head_end-none, head_end-blank, first_head-whole, first_head-full, first_head-ended, first_head-cut, short_head-few, short_head-many}
use Rattle.vr_http.proofs.SearchLemmas.{Passes-append}

-- the CR and LF that were counted, and those after them
pub blank_step : (held seen : List ℕ) (blank n : ℕ) → blank_length held ≡ blank + blank_length (drop blank held)
    → seen ≡ held → n ≡ blank_length (take (length seen - blank) (drop blank seen)) → blank_length held ≡ blank + n
blank_step held seen blank n split same counted =
    split
    ∙ ap (λ (t : List ℕ). blank + blank_length (drop blank t)) (sym same)
    ∙ ap (λ (t : List ℕ). blank + blank_length t) (sym (take_rest seen blank))
    ∙ ap (λ (k : ℕ). blank + k) (sym counted)

pub blank_fits : (held : List ℕ) → blank_length held ≤ length held
blank_fits held = prefix_len-le-length is_newline held

pub blank_whole : (held : List ℕ) (at : ℕ) → blank_length held ≡ at → length held ≤ at → IsBlank held
blank_whole held at counted past = let fits = blank_fits held in omega arith

pub blank_failed : (old new : List ℕ) (left : Option (List ℕ)) (fault : HttpFault) → IsBlank old
    → ReadsMore old new left (Err fault) → ReadsBlank new left (Err fault)
blank_failed old new left HeadTooLarge blank more = (subst IsBlank (sym more.0) blank, more.1)
blank_failed old new left ReadFault blank more = tt
blank_failed old new left BadHead blank more = more
blank_failed old new left NoLength blank more = more
blank_failed old new left BodyTooLarge blank more = more
blank_failed old new left Coding blank more = more
blank_failed old new left Expect blank more = more
blank_failed old new left CutShort blank more = more
blank_failed old new left OutOfMemory blank more = more

-- a read of no bytes was the source's end
pub whole_at_end : (old new : List ℕ) (left_old left_new : Option (List ℕ)) (count : ℕ) → Gathers old new left_old left_new
    → AddsBytes old new left_new count → length old < most_head → count ≡ 0 → (new ≡ old) × IsWhole new left_new
whole_at_end old new left_old left_new count gathers adds short none =
    let size : length new ≡ length old + 0 = adds.size ∙ ap (λ (n : ℕ). length old + n) none in (
      added_none old new left_old left_new gathers size,
      record { ended = adds.ended none; short = omega arith },
    )

pub blank_ended : (old new : List ℕ) (left_old left_new : Option (List ℕ)) (count : ℕ) → IsBlank old
    → Gathers old new left_old left_new → AddsBytes old new left_new count → length old < most_head → count ≡ 0
    → IsBlank new × IsWhole new left_new
blank_ended old new left_old left_new count blank gathers adds short none =
    let end = whole_at_end old new left_old left_new count gathers adds short none in
    (subst IsBlank (sym end.0) blank, end.1)

pub blank_more : (old new : List ℕ) (left_old left_new : Option (List ℕ)) (at : ℕ) → IsBlank old
    → Gathers old new left_old left_new → at ≡ length old → blank_length new ≡ at + blank_length (drop at new)
blank_more old new left_old left_new at blank gathers is =
    let more = gathers.more in
    ap blank_length gathers.added
    ∙ blank_length-all old more blank
    ∙ ap (λ (t : List ℕ). length old + blank_length t) (sym (drop-append_seam old more))
    ∙ ap (λ (t : List ℕ). length old + blank_length (drop (length old) t)) (sym gathers.added)
    ∙ ap (λ (k : ℕ). k + blank_length (drop k new)) (sym is)

pub text_failed : (old new : List ℕ) (left : Option (List ℕ)) (start : ℕ) (fault : HttpFault)
    → text_length (drop start old) ≡ None → ReadsMore old new left (Err fault) → ReadsText start new left (Err fault)
text_failed old new left start HeadTooLarge none more =
    let P : List ℕ → Type 0 = λ t. text_length (drop start t) ≡ None in
    (subst P (sym more.0) none, more.1)
text_failed old new left start ReadFault none more = tt
text_failed old new left start BadHead none more = more
text_failed old new left start NoLength none more = more
text_failed old new left start BodyTooLarge none more = more
text_failed old new left start Coding none more = more
text_failed old new left start Expect none more = more
text_failed old new left start CutShort none more = absurd more
text_failed old new left start OutOfMemory none more = more

pub text_ended : (old new : List ℕ) (left_old left_new : Option (List ℕ)) (start count : ℕ)
    → text_length (drop start old) ≡ None
    → Gathers old new left_old left_new → AddsBytes old new left_new count → length old < most_head → count ≡ 0
    → (text_length (drop start new) ≡ None) × IsWhole new left_new
text_ended old new left_old left_new start count open_text gathers adds short none =
    let end = whole_at_end old new left_old left_new count gathers adds short none in
    let P : List ℕ → Type 0 = λ t. text_length (drop start t) ≡ None in
    (subst P (sym end.0) open_text, end.1)

pub passes_more : (old new : List ℕ) (left_old left_new : Option (List ℕ)) (a b : ℕ)
    → Gathers old new left_old left_new → Passes old a b → Passes new a b
passes_more old new left_old left_new a b gathers passes =
    let P : List ℕ → Type 0 = λ t. Passes t a b in
    subst P (sym gathers.added) (Passes-append old gathers.more a b passes)

-- the fact, where the value is known
pub if_some : {A : Type 0} (known : Option A) (P : A → Type 0) → ((x : A) → known ≡ Some x → P x) → IfSome known P
if_some None P shows = tt
if_some (Some x) P shows = shows x refl

-- the head of the stream is at fault before its text begins
pub head_blank_failed : (old new held : List ℕ) (left_old left_new : Option (List ℕ)) (fault : HttpFault)
    → Gathers old new left_old left_new → ReadsBlank new left_new (Err fault)
    → IfSome (stream old left_old) (λ bytes. FindsHead held bytes (Err fault))
head_blank_failed old new held left_old left_new HeadTooLarge gathers found =
    if_some (stream old left_old) _ (λ bytes told by.
    let s = stream_kept old new left_old left_new gathers bytes told in
    ap (first_head most_head 64) s.2 ∙ first_head-full most_head 64 new s.0 found.1 (head_end-blank new found.0))
head_blank_failed old new held left_old left_new ReadFault gathers found =
    if_some (stream old left_old) _ (λ bytes told by. absurd (false≢true by))
head_blank_failed old new held left_old left_new BadHead gathers found = absurd found
head_blank_failed old new held left_old left_new NoLength gathers found = absurd found
head_blank_failed old new held left_old left_new BodyTooLarge gathers found = absurd found
head_blank_failed old new held left_old left_new Coding gathers found = absurd found
head_blank_failed old new held left_old left_new Expect gathers found = absurd found
head_blank_failed old new held left_old left_new CutShort gathers found = absurd found
head_blank_failed old new held left_old left_new OutOfMemory gathers found = absurd found

-- the source's end, where it tells what it has left
nothing_left : (left : Option (List ℕ)) (rest : List ℕ) → left ≡ Some rest → IsAtEnd left → rest ≡ []
nothing_left None rest told ended = cc
nothing_left (Some bytes) rest told ended = cc

-- the stream ends between requests
pub head_ended : (old new held : List ℕ) (left_old left_new : Option (List ℕ))
    → Gathers old new left_old left_new → IsBlank new → IsWhole new left_new
    → IfSome (stream old left_old) (λ bytes. FindsHead held bytes (Ok None))
head_ended old new held left_old left_new gathers blank whole =
    if_some (stream old left_old) _ (λ bytes told.
    let s = stream_kept old new left_old left_new gathers bytes told in
    ap (first_head most_head 64) (s.2 ∙ ap (λ (t : List ℕ). new ++ t) (nothing_left left_new s.0 s.1 whole.ended))
    ∙ first_head-ended most_head 64 new whole.short blank)

-- what was read before the text is still so when more has come
pub blank_later : (old new : List ℕ) (left_old left_new : Option (List ℕ)) (start : ℕ)
    → Gathers old new left_old left_new → IsBlankTo old start → IsBlankTo new start
blank_later old new left_old left_new start gathers blank =
    let more = gathers.more in
    let inside : start < length old = blank.inside in
    let counted : blank_length old ≡ start = blank.blank in
    let size : length new ≡ length old + length more = ap length gathers.added ∙ length-append old more in
    record {
      inside = omega arith;
      blank = ap blank_length gathers.added ∙ blank_length-inside old more (omega arith) ∙ counted;
    }

-- the head of the stream is at fault after its text has begun
pub head_text_failed : (old new held : List ℕ) (left_old left_new : Option (List ℕ)) (start : ℕ) (fault : HttpFault)
    → Gathers old new left_old left_new → IsBlankTo new start → ReadsText start new left_new (Err fault)
    → IfSome (stream old left_old) (λ bytes. FindsHead held bytes (Err fault))
head_text_failed old new held left_old left_new start HeadTooLarge gathers blank found =
    if_some (stream old left_old) _ (λ bytes told by.
    let s = stream_kept old new left_old left_new gathers bytes told in
    ap (first_head most_head 64) s.2
    ∙ first_head-full most_head 64 new s.0 found.1 (head_end-none new start blank.blank found.0))
head_text_failed old new held left_old left_new start CutShort gathers blank found =
    if_some (stream old left_old) _ (λ bytes told by.
    let s = stream_kept old new left_old left_new gathers bytes told in
    ap (first_head most_head 64) (s.2 ∙ ap (λ (t : List ℕ). new ++ t) (nothing_left left_new s.0 s.1 found.1.ended))
    ∙ first_head-cut most_head 64 new start found.1.short blank.blank blank.inside found.0)
head_text_failed old new held left_old left_new start ReadFault gathers blank found =
    if_some (stream old left_old) _ (λ bytes told by. absurd (false≢true by))
head_text_failed old new held left_old left_new start BadHead gathers blank found = absurd found
head_text_failed old new held left_old left_new start NoLength gathers blank found = absurd found
head_text_failed old new held left_old left_new start BodyTooLarge gathers blank found = absurd found
head_text_failed old new held left_old left_new start Coding gathers blank found = absurd found
head_text_failed old new held left_old left_new start Expect gathers blank found = absurd found
head_text_failed old new held left_old left_new start OutOfMemory gathers blank found = absurd found

-- the text has ended, with too many lines
pub head_long : (old new held : List ℕ) (left_old left_new : Option (List ℕ)) (start end : ℕ)
    → Gathers old new left_old left_new → length new ≤ most_head → IsBlankTo new start → EndsAt new start end
    → 64 < inner_lines (slice_range new start end)
    → IfSome (stream old left_old) (λ bytes. FindsHead held bytes (Err HeadTooLarge))
head_long old new held left_old left_new start end gathers fits blank ends many =
    if_some (stream old left_old) _ (λ bytes told by.
    let s = stream_kept old new left_old left_new gathers bytes told in
    ap (first_head most_head 64) s.2
    ∙ first_head-whole most_head 64 new s.0 start end fits blank.blank blank.inside ends
    ∙ short_head-many 64 (slice_range new start end) (drop end (new ++ s.0)) many)

-- the text has ended, with few enough
pub head_found : (old new : List ℕ) (left_old left_new : Option (List ℕ)) (start end : ℕ)
    → Gathers old new left_old left_new → length new ≤ most_head → IsBlankTo new start → EndsAt new start end
    → inner_lines (slice_range new start end) ≤ 64
    → IfSome (stream old left_old) (λ bytes. FindsHead new bytes (Ok (Some (record { start = start; end = end }))))
head_found old new left_old left_new start end gathers fits blank ends few =
    if_some (stream old left_old) _ (λ bytes told.
    let s = stream_kept old new left_old left_new gathers bytes told in
    ap (first_head most_head 64) s.2
    ∙ first_head-whole most_head 64 new s.0 start end fits blank.blank blank.inside ends
    ∙ short_head-few 64 (slice_range new start end) (drop end (new ++ s.0)) few
    ∙ ap (λ (t : List ℕ). Ok (Some (record { text = slice_range new start end; rest = drop end t }))) (sym s.2))
