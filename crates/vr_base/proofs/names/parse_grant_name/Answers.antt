use Rattle.std.proofs.Common.{rules, ◌≡◌, None}
use Rattle.vr_base.specs.Names.{normal_form, grant_segments, name_fault}
use Rattle.vr_base.proofs.Normal.{without_fault}
use Rattle.vr_base.proofs.names.parse_grant_name.Goals as goal

pub invariant_of-result : goal.invariant_of-result
invariant_of-result c =
    let same : c.in_ok-bytes.bytes.items ≡ normal_form c.args.name.now = search rules in
    let none : name_fault c.args.name.now (grant_segments c.in_ok-bytes.bytes.items) ≡ None = search rules in
    rw same (without_fault grant_segments c.args.name.now (rw same at none))
