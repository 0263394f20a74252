-- A request from its head text and the bytes after it.
use Rattle.std.proofs.Common.{◌≡◌, ℕ, ◌+◌, ◌<◌, ◌≤◌, List, [], ◌∷◌, ◌++◌, length, take, drop, refl, sym, ap, subst, ◌∙◌, arith, append_assoc, length-append, inl, inr}
use Rattle.std.specs.Prelude.{◌⊎◌, Option, Some, Result, Ok, Err, count_by}
use Rattle.std.proofs.lemmas.Bool.{le-leb, lt-leb, cond-true, cond-false}
use Rattle.std.proofs.lemmas.List.{append-nil}
use Rattle.std.proofs.lemmas.List.Sums.{sum_by-append}
use Rattle.std.proofs.Math.Seq.{take-append_seam, drop-append_seam}
use Rattle.httparse.specs.Grammar.{LineEnd, crlf, lf, print_end, Field, print_field, print_section, RequestHead, ReadsRequest, HasNoRequest, print_blank, print_version}
use Rattle.httparse.specs.Spans.{RequestOverflows}
use Rattle.httparse.proofs.GrammarLemmas.{print_request-append}
use Rattle.vr_base.specs.Checks.{◌>>=◌, result_map, GivesBy, Tells}
use Rattle.vr_http.specs.Fields.{NamedValue, body_size}
use Rattle.vr_http.specs.HeadFields.{head_by}
use Rattle.vr_http.specs.Heads.{CutHead, first_head, is_line_feed, inner_lines}
use Rattle.vr_http.specs.Reading.{head_told, SpellsBy, Refuses, Spells}
use Rattle.vr_http.specs.Requests.{FirstAnswer, First, FirstBy, IsNoHead, IsHead, fields_of, request_of, sized_request}
use Rattle.vr_http.specs.declared.faults.HttpFault.{HttpFault}
use Rattle.vr_http.specs.declared.faults.HttpFault.TheVariants.{BadHead, HeadTooLarge, NoLength, BodyTooLarge, Coding, Expect, CutShort, ReadFault, OutOfMemory}
use Rattle.vr_http.specs.declared.heads.Head.{Head}
use Rattle.vr_http.specs.declared.requests.Request.{Request}
use Rattle.vr_http.proofs.FieldLemmas.{body_size-fault}

-- how many LF bytes there are
abbrev pub lines : List ℕ → ℕ
lines bytes = count_by is_line_feed bytes

lines-append : (a b : List ℕ) → lines (a ++ b) ≡ lines a + lines b
lines-append a b = sum_by-append _ a b

lines-end : (end : LineEnd) → lines (print_end end) ≡ 1
lines-end crlf = refl
lines-end lf = refl

lines-field : (field : Field) → 1 ≤ lines (print_field field)
lines-field field =
    let front = field.name ++ 58 ∷ field.raw in
    omega (arith, lines-append front (print_end field.end), lines-end field.end)

-- each field has a line, and so has the end
lines-section : (fields : List Field) (last : LineEnd) → length fields + 1 ≤ lines (print_section fields last)
lines-section [] last = omega (arith, lines-end last)
lines-section (field ∷ fields) last =
    let rest = print_section fields last in
    let parts : lines (print_section (field ∷ fields) last) ≡ lines (print_field field) + lines rest =
    ap lines (append_assoc (print_field field) _ (print_end last)) ∙ lines-append (print_field field) rest in
    omega (arith, lines-field field, lines-section fields last, parts)

-- a head has two lines more than fields, at least
lines-request : (text : List ℕ) (head : RequestHead) (rest : List ℕ) → ReadsRequest text head rest
    → length head.fields + 2 ≤ lines text
lines-request text head rest reads =
    let section = print_section head.fields head.last in
    let after = section ++ rest in
    let ended = print_end head.line_end ++ after in
    let version = print_version head.minor ++ ended in
    let target = head.target ++ 32 ∷ version in
    let method = head.method ++ 32 ∷ target in
    let whole : lines text ≡ lines (print_blank head.blank ++ method) = ap lines (reads.1 ∙ print_request-append head rest) in
    let in_method = lines-append head.method (32 ∷ target) in
    let in_target = lines-append head.target (32 ∷ version) in
    let in_version = lines-append (print_version head.minor) ended in
    omega (
      arith,
      whole,
      lines-append (print_blank head.blank) method,
      in_method,
      in_target,
      in_version,
      lines-append (print_end head.line_end) after,
      lines-append section rest,
      lines-end head.line_end,
      lines-section head.fields head.last,
    )

-- a head with too many fields has too many lines
pub few_lines : (text : List ℕ) → inner_lines text ≤ 64 → RequestOverflows 64 text → HasNoRequest text
few_lines text few overflows head rest reads =
    let P : List ℕ → Type 0 = λ t. ReadsRequest t head rest in
    let many : 64 < length head.fields = overflows [] head rest (subst P (sym (append-nil text)) reads) in
    absurd (omega (arith, lines-request text head rest reads))

-- a fault of the body's length is one of the head
head_by-err : (method target : List ℕ) (minor : ℕ) (fields : List NamedValue) (fault : HttpFault)
    → body_size method target fields ≡ Err fault → head_by method target minor fields ≡ Err fault
head_by-err method target minor fields fault is = ap (result_map _) is

-- what the fields tell of a head's fault
pub head_tells : (method target : List ℕ) (minor : ℕ) (fields : List NamedValue) (fault : HttpFault)
    → body_size method target fields ≡ Err fault → Tells (head_told fault) (head_by method target minor fields)
head_tells method target minor fields BadHead is = head_by-err method target minor fields _ is
head_tells method target minor fields HeadTooLarge is = head_by-err method target minor fields _ is
head_tells method target minor fields NoLength is = head_by-err method target minor fields _ is
head_tells method target minor fields BodyTooLarge is = head_by-err method target minor fields _ is
head_tells method target minor fields Coding is = head_by-err method target minor fields _ is
head_tells method target minor fields Expect is = head_by-err method target minor fields _ is
head_tells method target minor fields CutShort is = head_by-err method target minor fields _ is
head_tells method target minor fields ReadFault is = body_size-fault method target fields is
head_tells method target minor fields OutOfMemory is = tt

-- what a head text spells by the parts of its head
pub spells_by : (text : List ℕ) (head : RequestHead) (over : List ℕ) (result : Result Head HttpFault)
    → ReadsRequest text head over
    → GivesBy head_told result (head_by head.method head.target head.minor (fields_of head)) → Spells text result
spells_by text head over (Ok said) reads gives = record { head = head; over = over; reads = reads; answered = gives }
spells_by text head over (Err BadHead) reads gives = inr (record { head = head; over = over; reads = reads; answered = gives })
spells_by text head over (Err HeadTooLarge) reads gives = inr (record { head = head; over = over; reads = reads; answered = gives })
spells_by text head over (Err NoLength) reads gives = inr (record { head = head; over = over; reads = reads; answered = gives })
spells_by text head over (Err BodyTooLarge) reads gives = inr (record { head = head; over = over; reads = reads; answered = gives })
spells_by text head over (Err Coding) reads gives = inr (record { head = head; over = over; reads = reads; answered = gives })
spells_by text head over (Err Expect) reads gives = inr (record { head = head; over = over; reads = reads; answered = gives })
spells_by text head over (Err CutShort) reads gives = inr (record { head = head; over = over; reads = reads; answered = gives })
spells_by text head over (Err ReadFault) reads gives = gives
spells_by text head over (Err OutOfMemory) reads gives = tt

-- the head text of a stream decides what the stream begins with
first_by : (bytes : List ℕ) (cut : CutHead) (answer : FirstAnswer) → first_head 16384 64 bytes ≡ Ok (Some cut)
    → IsNoHead cut.text answer ⊎ IsHead cut.text cut.rest answer → First bytes answer
first_by bytes cut answer is says =
    let P : Result (Option CutHead) HttpFault → Type 0 = λ r. FirstBy r answer in
    subst P (sym is) says

abbrev HeadAnswer : Type 0
HeadAnswer = Result Head HttpFault

same_ok : (a b : Head) → (λ (h : Head). let r : HeadAnswer = Ok h in r) a ≡ (λ (h : Head). let r : HeadAnswer = Ok h in r) b → a ≡ b
same_ok a b e = cc

ok_err : (a : Head) (fault : HttpFault) → (λ (h : Head). let r : HeadAnswer = Ok h in r) a ≡ Err fault → ⊥
ok_err a fault e = cc

err_ok : (a : Head) (fault : HttpFault) → Err fault ≡ (λ (h : Head). let r : HeadAnswer = Ok h in r) a → ⊥
err_ok a fault e = cc

-- the length of the body, where a head was read
sized_ok : (r : Result ℕ HttpFault) (f : ℕ → Head) (head : Head) (g : ℕ → FirstAnswer) → ((n : ℕ) → (f n).size ≡ n)
    → result_map f r ≡ Ok head → (r >>= g ≡ g head.size) × (f head.size ≡ head)
sized_ok (Ok n) f head g keeps is =
    let same : f n ≡ head = same_ok (f n) head is in
    let size : n ≡ head.size = sym (keeps n) ∙ ap (λ (h : Head). h.size) same in
    (ap g size, ap f (sym size) ∙ same)
sized_ok (Err fault) f head g keeps is = absurd (err_ok head fault is)

sized_err : (r : Result ℕ HttpFault) (f : ℕ → Head) (fault : HttpFault) (g : ℕ → FirstAnswer) → result_map f r ≡ Err fault
    → r >>= g ≡ Err fault
sized_err (Ok n) f fault g is = absurd (ok_err (f n) fault is)
sized_err (Err other) f fault g is = cc

-- a head text that is refused
pub first_refused : (bytes : List ℕ) (cut : CutHead) (fault : HttpFault) → first_head 16384 64 bytes ≡ Ok (Some cut)
    → Refuses cut.text fault → First bytes (Err fault)
first_refused bytes cut fault is refuses = first_by bytes cut (Err fault) is (by_cause refuses)
  where
    by_cause : Refuses cut.text fault → IsNoHead cut.text (Err fault) ⊎ IsHead cut.text cut.rest (Err fault)
    by_cause (inl none) = inl (record { none = none.0; refused = ap Err none.1 })
    by_cause (inr spells) = inr (record {
      head = spells.head;
      over = spells.over;
      reads = spells.reads;
      answered = sym (sized_err (body_size spells.head.method spells.head.target (fields_of spells.head)) _ fault
          (sized_request spells.head cut.rest) spells.answered);
    })

-- a head text whose body comes whole, or is cut
first_sized : (bytes : List ℕ) (cut : CutHead) (said : Head) (answer : FirstAnswer) → first_head 16384 64 bytes ≡ Ok (Some cut)
    → (spells : SpellsBy cut.text (Ok said)) → sized_request spells.head cut.rest said.size ≡ answer → First bytes answer
first_sized bytes cut said answer is spells sized =
    let by_size = sized_ok (body_size spells.head.method spells.head.target (fields_of spells.head)) _ said
    (sized_request spells.head cut.rest) (λ n. refl) spells.answered in
    first_by bytes cut answer is (inr (record {
      head = spells.head;
      over = spells.over;
      reads = spells.reads;
      answered = sym (by_size.0 ∙ sized);
    }))

pub first_cut : (bytes : List ℕ) (cut : CutHead) (said : Head) → first_head 16384 64 bytes ≡ Ok (Some cut)
    → SpellsBy cut.text (Ok said) → length cut.rest < said.size → First bytes (Err CutShort)
first_cut bytes cut said is spells short =
    first_sized bytes cut said (Err CutShort) is spells (cond-false _ _ _ (lt-leb said.size (length cut.rest) short))

-- what the head said, and the body
abbrev pub request_with : Head → List ℕ → Request
request_with said body = record {
  method = said.method;
  target = said.target;
  key = said.key;
  close = said.close;
  body = body;
}

pub first_taken : (bytes : List ℕ) (cut : CutHead) (said : Head) (body rest : List ℕ) → first_head 16384 64 bytes ≡ Ok (Some cut)
    → SpellsBy cut.text (Ok said) → cut.rest ≡ body ++ rest → length body ≡ said.size
    → First bytes (Ok (Some (record { request = request_with said body; rest = rest })))
first_taken bytes cut said body rest is spells parts size =
    let fields = fields_of spells.head in
    let by_size = sized_ok (body_size spells.head.method spells.head.target fields) _ said
    (sized_request spells.head cut.rest) (λ n. refl) spells.answered in
    let fits : said.size ≤ length cut.rest = omega (arith, ap length parts, length-append body rest) in
    let front : take said.size cut.rest ≡ body =
    ap (take said.size) parts ∙ ap (λ (n : ℕ). take n (body ++ rest)) (sym size) ∙ take-append_seam body rest in
    let back : drop said.size cut.rest ≡ rest =
    ap (drop said.size) parts ∙ ap (λ (n : ℕ). drop n (body ++ rest)) (sym size) ∙ drop-append_seam body rest in
    first_sized bytes cut said _ is spells
    (cond-true _ _ _ (le-leb said.size (length cut.rest) fits)
    ∙ ap (λ (b : List ℕ). Ok (Some (record { request = request_of spells.head b; rest = drop said.size cut.rest }))) front
    ∙ ap (λ (b : List ℕ). Ok (Some (record { request = request_of spells.head body; rest = b }))) back
    ∙ ap (λ (h : Head). Ok (Some (record { request = request_with h body; rest = rest }))) by_size.1)
