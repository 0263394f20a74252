-- The values of the fields with a name, field by field.
use Rattle.std.proofs.Common.{◌≡◌, ℕ, ◌+◌, ◌<◌, suc, Bool, true, false, List, [], ◌∷◌, ◌++◌, length, map, drop, get_or, refl, sym, ap, ◌∙◌, arith, add-one, drop-cons}
use Rattle.std.specs.Prelude.{◌≢◌, if◌then◌else◌, codes, nat_le, Ok, Err}
use Rattle.std.specs.Str.Parse.{digits_value}
use Rattle.vr_base.specs.Checks.{◌>>◌}
use Rattle.httparse.specs.Spans.{header_bytes}
use Rattle.httparse.specs.declared.spans.HeaderSpan.{HeaderSpan}
use Rattle.vr_http.specs.Fields.{NamedValue, is_named, values_of, fault_if_named, is_number, most_body, sized, size_by, needs_length, body_size}
use Rattle.vr_http.specs.declared.faults.HttpFault.{HttpFault}
use Rattle.vr_http.specs.declared.faults.HttpFault.TheVariants.{BadHead, BodyTooLarge, Coding, Expect, ReadFault}
use Rattle.vr_http.specs.declared.fields.Named.{Named}
use Rattle.vr_http.specs.declared.fields.Named.TheVariants.{Absent, Once, Repeated}

-- the values of the fields from the place on
abbrev pub values_from : List ℕ → List ℕ → List HeaderSpan → ℕ → List (List ℕ)
values_from name text spans at = values_of name (map (header_bytes text) (drop at spans))

-- the value of one field, where it has the name
abbrev pub value_at : List ℕ → List ℕ → HeaderSpan → List (List ℕ)
value_at name text span =
    if is_named name (header_bytes text span) then (header_bytes text span).1 ∷ [] else []

-- The values are those found so far and the later ones.
abbrev pub IsPart : List (List ℕ) → List (List ℕ) → Named → Type 0
IsPart values later Absent = values ≡ later
IsPart values later (Once value) = values ≡ value.now ∷ later
IsPart values later Repeated = 1 < length values

pub values_from-step : (name text : List ℕ) (spans : List HeaderSpan) (i : ℕ) (span : HeaderSpan)
    → i < length spans → span ≡ get_or spans i span
    → values_from name text spans i ≡ value_at name text span ++ values_from name text spans (i + 1)
values_from-step name text spans i span inside is =
    ap (λ (rest : List HeaderSpan). values_of name (map (header_bytes text) rest)) (drop-cons spans i span inside)
    ∙ ap (λ (s : HeaderSpan). value_at name text s ++ values_from name text spans (suc i)) (sym is)
    ∙ ap (λ (k : ℕ). value_at name text span ++ values_from name text spans k) (sym (add-one i))

pub values_from-other : (name text : List ℕ) (spans : List HeaderSpan) (i : ℕ) (span : HeaderSpan)
    → i < length spans → span ≡ get_or spans i span → is_named name (header_bytes text span) ≡ false
    → values_from name text spans i ≡ values_from name text spans (i + 1)
values_from-other name text spans i span inside is other =
    values_from-step name text spans i span inside is
    ∙ ap (λ (b : Bool). (if b then (header_bytes text span).1 ∷ [] else []) ++ values_from name text spans (i + 1)) other

pub values_from-named : (name text : List ℕ) (spans : List HeaderSpan) (i : ℕ) (span : HeaderSpan)
    → i < length spans → span ≡ get_or spans i span → is_named name (header_bytes text span) ≡ true
    → values_from name text spans i ≡ (header_bytes text span).1 ∷ values_from name text spans (i + 1)
values_from-named name text spans i span inside is named =
    values_from-step name text spans i span inside is
    ∙ ap (λ (b : Bool). (if b then (header_bytes text span).1 ∷ [] else []) ++ values_from name text spans (i + 1)) named

-- more than one Content-Length
pub size_by-many : (needed : Bool) (values : List (List ℕ)) → 1 < length values → size_by needed values ≡ Err BadHead
size_by-many needed [] many = absurd (omega arith)
size_by-many needed (value ∷ []) many = absurd (omega arith)
size_by-many needed (first ∷ second ∷ values) many = refl

-- neither coding nor expectation
pub body_size-plain : (method target : List ℕ) (fields : List NamedValue)
    → values_of (codes "transfer-encoding") fields ≡ [] → values_of (codes "expect") fields ≡ []
    → body_size method target fields ≡ size_by (needs_length method target) (values_of (codes "content-length") fields)
body_size-plain method target fields no_coding no_expect =
    let sized = size_by (needs_length method target) (values_of (codes "content-length") fields) in
    ap (λ (v : List (List ℕ)). fault_if_named Coding v >> (fault_if_named Expect (values_of (codes "expect") fields) >> sized)) no_coding
    ∙ ap (λ (v : List (List ℕ)). fault_if_named Expect v >> sized) no_expect

-- the faults that the fields may have
sized_fault : (value : List ℕ) (fault : HttpFault) → sized value ≡ Err fault → fault ≢ ReadFault
sized_fault value fault is same = by_tests (is_number value) (nat_le (digits_value 10 value) most_body) (is ∙ ap Err same)
  where
    by_tests : (a b : Bool) → (if a then (if b then Ok (digits_value 10 value) else Err BodyTooLarge) else Err BadHead) ≡ Err ReadFault → ⊥
    by_tests true true e = cc
    by_tests true false e = cc
    by_tests false b e = cc

size_fault : (needed : Bool) (values : List (List ℕ)) → size_by needed values ≡ Err ReadFault → ⊥
size_fault true [] e = cc
size_fault false [] e = cc
size_fault needed (value ∷ []) e = sized_fault value ReadFault e refl
size_fault needed (first ∷ second ∷ values) e = cc

-- none of them is that of a source
pub body_size-fault : (method target : List ℕ) (fields : List NamedValue) → body_size method target fields ≡ Err ReadFault → ⊥
body_size-fault method target fields e =
    by_values (values_of (codes "transfer-encoding") fields) (values_of (codes "expect") fields) e
  where
    by_values : (coding expect : List (List ℕ))
        → (fault_if_named Coding coding >> (fault_if_named Expect expect
        >> size_by (needs_length method target) (values_of (codes "content-length") fields))) ≡ Err ReadFault → ⊥
    by_values [] [] e = size_fault (needs_length method target) (values_of (codes "content-length") fields) e
    by_values [] (value ∷ values) e = cc
    by_values (value ∷ values) expect e = cc
