-- The values found so far, and those of the fields that are left.
use Rattle.vr_http.proofs.FieldLemmas.{IsPart, values_from}
use Rattle.vr_http.proofs.fields.Fields.named.Given as goal

abbrev pub invariant-loop-span : goal.invariant-loop-span
invariant-loop-span l =
    IsPart (values_from l.name l.self.text.now l.self.spans.now 0)
    (values_from l.name l.self.text.now l.self.spans.now l.span-index) l.found
