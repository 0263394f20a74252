use Rattle.vr_cli.proofs.SummaryLemmas.{summary_is}
use Rattle.vr_cli.proofs.summing.summarize.Goals as goal

pub returns-in-Ok : goal.returns-in-Ok
returns-in-Ok c =
    summary_is c.summary_text.result _ _ _ _ _ _ _ _ c.new-digest.ensures c.in-Ok.ensures.text c.digits.ensures c.sum_up-summary.ensures c.summary_text.ensures
