use Rattle.std.proofs.Common.{ap, ◌∙◌}
use Rattle.vr_keeper.specs.Keepers.{changed_rows}
use Rattle.vr_keeper.proofs.RowLemmas.{unchanged_rows}
use Rattle.vr_keeper.proofs.kept.Kept.new.Goals as goal

pub returns : goal.returns
returns c = ap (λ changes. changed_rows c.args.rows changes) c.new.ensures ∙ unchanged_rows c.args.rows
