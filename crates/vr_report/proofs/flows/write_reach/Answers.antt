-- The pieces, one after the other.
use Rattle.std.proofs.Common.{◌≡◌, ℕ, List, codes, IfOk, subst}
use Rattle.vr_report.specs.Flows.{identities_text, regions_text}
use Rattle.vr_report.proofs.FlowLines.{four_pieces}
use Rattle.vr_report.proofs.flows.write_reach.Goals as goal

pub returns : goal.returns
returns c =
    let reach = c.args.reach.now in
    subst (λ (text : List ℕ). IfOk c.write_regions.result (λ written. written ≡ text))
    (four_pieces c.args.text c.in_ok-bytes.field-0 c.in_ok-text.text c.in_ok-bytes-2.field-0 (codes " identities") (identities_text c.args.identities.now reach)
    (codes " regions") (regions_text c.args.regions.now.names reach) c.in_ok-bytes.ensures c.in_ok-text.ensures c.in_ok-bytes-2.ensures)
    c.write_regions.ensures
