-- The fields that are left ask for the same as all.
use Rattle.std.proofs.Common.{◌≡◌}
use Rattle.std.specs.Prelude.{codes}
use Rattle.std.specs.List.{list_any}
use Rattle.vr_http.specs.Fields.{asks_close}
use Rattle.vr_http.proofs.FieldLemmas.{values_from}
use Rattle.vr_http.proofs.fields.Fields.ask_close.Given as goal

abbrev pub invariant-loop-span : goal.invariant-loop-span
invariant-loop-span l =
    list_any asks_close (values_from (codes "connection") l.self.text.now l.self.spans.now l.span-index)
    ≡ list_any asks_close (values_from (codes "connection") l.self.text.now l.self.spans.now 0)
