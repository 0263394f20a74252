use Rattle.std.proofs.Common.{sym, ap, ◌∙◌}
use Rattle.vr_files.specs.Changes.{applied}
use Rattle.vr_keeper.specs.Keepers.{rows_map, changed_rows}
use Rattle.vr_keeper.proofs.RowLemmas.{rows_map-changed}
use Rattle.vr_keeper.proofs.kept.Kept.apply.Goals as goal

pub returns-clause-ok : goal.returns-clause-ok
returns-clause-ok c =
    let opening = c.self.inside.opening in
    let shared = c.in_ok-shared.shared.items in
    rows_map-changed opening c.put_all.new.edits.changes c.as_slice-after.ensures.in_order ∙ c.put_all.ensures (rows_map opening)
    ∙ ap (λ files. applied files shared)
    (sym (rows_map-changed opening c.reserve.new.self.changes c.as_slice-before.ensures.in_order) ∙ ap (λ x. rows_map (changed_rows opening x)) c.in_ok-reserve.ensures.same ∙ ap rows_map c.self.view_is)
    ∙ ap (λ x. applied (rows_map c.args.self.now) x) (c.in_ok-shared.ensures ∙ c.as_slice.ensures.items)
