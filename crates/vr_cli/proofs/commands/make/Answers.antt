use Rattle.std.proofs.Common.{◌∙◌}
use Rattle.std.proofs.lemmas.Result.{err_from_is_err_and}
use Rattle.vr_cli.proofs.EndingLemmas.{ends_refused, made_says}
use Rattle.vr_cli.proofs.commands.make.Goals as goal

pub returns-in_err-script : goal.returns-in_err-script
returns-in_err-script g c files counts =
    let same = err_from_is_err_and c.from_residual-in_err-script.result c.from_residual-in_err-script.ensures.1 in
    let made = c.in_ok-policy_bytes.ensures in
    let refused = c.in_err-script.ensures in
    rw (same.1, same.2)
    (ends_refused c.args.count _ files counts _ _ refused.refusal
    (made_says c.args.count _ (c.in_ok-policy.policy, c.in_ok-policy.hash) _ _ _ (c.as_slice.ensures ∙ made.policy) (c.as_slice-2.ensures ∙ made.script) c.in_ok-policy.ensures.answer refused.answer))
