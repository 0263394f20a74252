use Rattle.std.proofs.Common.{◌++◌, ap, ◌∙◌}
use Rattle.std.specs.Prelude.{filter}
use Rattle.vr_keeper.specs.Keepers.{is_untouched, edited_rows}
use Rattle.vr_keeper.proofs.kept.Kept.list.Goals as goal

pub returns : goal.returns
returns c =
    let opening = c.self.inside.opening in
    let changes = c.self.inside.edits.changes in
    c.of.ensures ∙ c.in_ok-add_files.ensures ∙ ap (λ x. x ++ edited_rows c.as_slice-2.result.now) (c.in_ok-rows.ensures ∙ ap (λ x. filter (is_untouched changes) x) c.as_slice.ensures)
    ∙ ap (λ x. filter (is_untouched changes) opening ++ edited_rows x) c.as_slice-2.ensures.changes ∙ c.self.view_is
