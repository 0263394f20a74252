-- What the parts of a request head that were found in its text say.
use Rattle.std.specs.Prelude.{◌≡◌, ◌<◌, ℕ, List, [], ◌∷◌, length, map, Result}
use Rattle.httparse.specs.Spans.{header_bytes}
use Rattle.vr_base.specs.Checks.{result_map}
use Rattle.vr_http.specs.Fields.{NamedValue, body_size, closes, key_of}
use Rattle.vr_http.specs.declared.faults.HttpFault.{HttpFault}
use Rattle.vr_http.specs.declared.fields.Fields.{Fields}
use Rattle.vr_http.specs.declared.fields.Named.{Named}
use Rattle.vr_http.specs.declared.fields.Named.TheVariants.{Absent, Once, Repeated}
use Rattle.vr_http.specs.declared.heads.Head.{Head}

-- the names and values of the fields
abbrev pub named_values : Fields → List NamedValue
named_values fields = map (header_bytes fields.text.now) fields.spans.now

-- There are no values, one, or more.
abbrev pub IsNamedBy : List (List ℕ) → Named → Type 0
IsNamedBy values Absent = values ≡ []
IsNamedBy values (Once value) = values ≡ value.now ∷ []
IsNamedBy values Repeated = 1 < length values

-- what a head says by its parts, or the first of its faults
abbrev pub head_by : List ℕ → List ℕ → ℕ → List NamedValue → Result Head HttpFault
head_by method target minor fields = result_map (λ size. record {
  method = method;
  target = target;
  key = key_of fields;
  close = closes minor fields;
  size = size;
}) (body_size method target fields)
