use Rattle.std.proofs.Common.{◌∙◌, inl, inr, refl}
use Rattle.std.proofs.lemmas.Result.{err_from_is_err_and}
use Rattle.vr_cli.specs.Outputs.{in_file, policy_from}
use Rattle.vr_policy_read.specs.Limits.{most_policy}
use Rattle.vr_words.specs.Grammar.{replay}
use Rattle.vr_words.specs.Views.{placed}
use Rattle.vr_cli.proofs.EndingLemmas.{ends_unread, later_cause, part_says, script_says}
use Rattle.vr_cli.proofs.commands.replay.Goals as goal

pub returns-in_err-policy : goal.returns-in_err-policy
returns-in_err-policy g c =
    let same = err_from_is_err_and c.from_residual.result c.from_residual.ensures.1 in
    let policy = placed c.args.policy in
    let read = c.in_err-policy.ensures in
    rw (same.1, same.2)
    (ends_unread (replay c.args.fuel policy (placed c.args.script)) _ _ _ _ _ _ _ policy read.same (part_says _ _ (in_file (policy_from most_policy) policy) _ _ read.told) read.cause (inl refl) read.word)

pub returns-in_err-script : goal.returns-in_err-script
returns-in_err-script g c =
    let same = err_from_is_err_and c.from_residual-in_err-script.result c.from_residual-in_err-script.ensures.1 in
    let script = placed c.args.script in
    let said = c.in_ok-policy.ensures in
    let read = c.in_err-script.ensures in
    let refused = rw said.same at read.told in
    rw (same.1, same.2)
    (ends_unread (replay c.args.fuel (placed c.args.policy) script) _ _ _ _ _ _ _ script (read.same ∙ said.same) (script_says _ _ _ _ _ _ _ said.told refused)
    (later_cause _ _ _ _ _ said.cause read.cause) (inr refl) read.word)
