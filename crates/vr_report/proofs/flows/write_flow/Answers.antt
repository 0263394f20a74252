-- The pieces, one after the other.
use Rattle.std.proofs.Common.{◌≡◌, ℕ, List, [], ◌∷◌, codes, IfOk, subst}
use Rattle.vr_base.specs.Signs.{line_feed}
use Rattle.vr_report.specs.Flows.{reach_text}
use Rattle.vr_text.specs.Words.{number}
use Rattle.vr_report.proofs.FlowLines.{four_pieces}
use Rattle.vr_report.proofs.flows.write_flow.Goals as goal

pub returns : goal.returns
returns c =
    subst (λ (text : List ℕ). IfOk c.bytes-2.result (λ written. written ≡ text))
    (four_pieces c.args.text c.in_ok-bytes.field-0 c.in_ok-text.text c.in_ok-write_reach.field-0 (codes "flow") (number c.args.identity.now.id)
    (reach_text c.args.identities.now c.args.regions.now.names c.args.reach.now) (line_feed ∷ []) c.in_ok-bytes.ensures c.in_ok-text.ensures c.in_ok-write_reach.ensures)
    c.bytes-2.ensures
