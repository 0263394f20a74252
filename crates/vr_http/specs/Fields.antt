-- What the fields of a request head say of its body, of the connection and of who asks.
use Rattle.std.specs.Prelude.{ℕ, Bool, ◌&&◌, ◌||◌, ◌==◌, nat_eq, nat_lt, nat_le, List, [], ◌∷◌, length, map, codes, bytes_eq, flat_map, Option, Some, None, Result, Ok, Err, if◌then◌else◌}
use Rattle.std.specs.Char.{is_ascii_digit, is_ascii_hexdigit, to_ascii_lowercase}
use Rattle.std.specs.List.{list_all, list_any, starts_with}
use Rattle.std.specs.Str.{str_eq_ignore_ascii_case}
use Rattle.std.specs.Str.Parse.{digits_value}
use Rattle.httparse.specs.Ascii.{comma}
use Rattle.httparse.specs.Grammar.{trim_ows}
use Rattle.vr_base.specs.Checks.{◌>>◌}
use Rattle.vr_base.specs.Cuts.{parts_at}
use Rattle.vr_http.specs.declared.faults.HttpFault.{HttpFault}
use Rattle.vr_http.specs.declared.faults.HttpFault.TheVariants.{BadHead, NoLength, BodyTooLarge, Coding, Expect}

-- A field's name, and its value without spaces and tabs at its ends.
abbrev pub NamedValue : Type 0
NamedValue = List ℕ × List ℕ

-- the field has the name, compared without case
abbrev pub is_named : List ℕ → NamedValue → Bool
is_named name field = str_eq_ignore_ascii_case field.0 name

-- the values of the fields with the name, in order
abbrev pub values_of : List ℕ → List NamedValue → List (List ℕ)
values_of name fields = flat_map (λ field. if is_named name field then field.1 ∷ [] else []) fields

-- the fault, where a field with the name is there
abbrev pub fault_if_named : HttpFault → List (List ℕ) → Result (Unit {0}) HttpFault
fault_if_named fault [] = Ok tt
fault_if_named fault (value ∷ values) = Err fault

-- one or more decimal digits
abbrev pub is_number : List ℕ → Bool
is_number value = nat_lt 0 (length value) && list_all is_ascii_digit value

-- the most bytes that a body may have
abbrev pub most_body : ℕ
most_body = 16777216

-- the length that the value of a Content-Length field gives
abbrev pub sized : List ℕ → Result ℕ HttpFault
sized value =
    if is_number value then
    (if nat_le (digits_value 10 value) most_body then Ok (digits_value 10 value)
    else Err BodyTooLarge)
    else Err BadHead

-- the length of a body by the values of the Content-Length fields; a body without any is empty,
-- unless the request must have one
abbrev pub size_by : Bool → List (List ℕ) → Result ℕ HttpFault
size_by needed [] = if needed then Err NoLength else Ok 0
size_by needed (value ∷ []) = sized value
size_by needed (first ∷ second ∷ values) = Err BadHead

-- a request to write or append to a file says how long its body is
abbrev pub needs_length : List ℕ → List ℕ → Bool
needs_length method target =
    bytes_eq method (codes "PUT")
    || (bytes_eq method (codes "POST") && starts_with nat_eq target (codes "/files/"))

-- the length of the body, or the first of the faults that the fields have
abbrev pub body_size : List ℕ → List ℕ → List NamedValue → Result ℕ HttpFault
body_size method target fields =
    fault_if_named Coding (values_of (codes "transfer-encoding") fields)
    >> (fault_if_named Expect (values_of (codes "expect") fields)
    >> size_by (needs_length method target) (values_of (codes "content-length") fields))

-- the word `close`, without case, between blanks
abbrev pub is_close : List ℕ → Bool
is_close part = str_eq_ignore_ascii_case (trim_ows part) (codes "close")

-- the value has the word among its parts between commas
abbrev pub asks_close : List ℕ → Bool
asks_close value = list_any is_close (parts_at comma value)

-- the connection ends after this request: it is asked for, or the version is 1.0
abbrev pub closes : ℕ → List NamedValue → Bool
closes minor fields = minor == 0 || list_any asks_close (values_of (codes "connection") fields)

-- 64 hex digits
abbrev pub is_key : List ℕ → Bool
is_key value = (length value == 64) && list_all is_ascii_hexdigit value

-- the key that the values of the Party-Key fields give, in lower case: there is one field, and it is a key
abbrev pub key_by : List (List ℕ) → Option (List ℕ)
key_by [] = None
key_by (value ∷ []) = if is_key value then Some (map to_ascii_lowercase value) else None
key_by (first ∷ second ∷ values) = None

-- the key of a request
abbrev pub key_of : List NamedValue → Option (List ℕ)
key_of fields = key_by (values_of (codes "party-key") fields)
