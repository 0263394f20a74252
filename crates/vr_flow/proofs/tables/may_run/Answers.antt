-- No program is missing exactly where each may be executed.
use Rattle.std.proofs.Common.{is_ok, ◌∙◌, ap}
use Rattle.vr_flow.proofs.PolicyLemmas.{runs}
use Rattle.vr_flow.proofs.tables.may_run.Goals as goal

pub returns : goal.returns
returns c = λ checked listed pipe h e f. c.is_ok.ensures.value ∙ ap is_ok c.may_run.ensures ∙ runs checked c.args.regions.now h c.args.identity c.args.pipeline listed pipe e f
