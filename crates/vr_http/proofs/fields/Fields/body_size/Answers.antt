use Rattle.std.proofs.Common.{sym, ◌∙◌}
use Rattle.std.specs.Prelude.{codes}
use Rattle.vr_http.specs.Fields.{needs_length, values_of}
use Rattle.vr_http.specs.HeadFields.{named_values}
use Rattle.vr_http.proofs.FieldLemmas.{body_size-plain, size_by-many}
use Rattle.vr_http.proofs.fields.Fields.body_size.Goals as goal

pub returns-in-Repeated : goal.returns-in-Repeated
returns-in-Repeated c =
    let fields = named_values c.args.self.now in
    let needed = needs_length c.args.method.now c.args.target.now in
    sym (body_size-plain c.args.method.now c.args.target.now fields c.in-Absent.ensures c.in-Absent-named.ensures
    ∙ size_by-many needed (values_of (codes "content-length") fields) c.in-Repeated.ensures)
