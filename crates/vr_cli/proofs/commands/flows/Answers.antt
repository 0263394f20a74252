use Rattle.std.proofs.Common.{refl}
use Rattle.std.proofs.lemmas.Result.{err_from_is_err_and}
use Rattle.vr_cli.specs.Outputs.{checked_from, in_file}
use Rattle.vr_policy_read.specs.Limits.{most_policy}
use Rattle.vr_words.specs.Views.{placed}
use Rattle.vr_words.specs.Grammar.{flows}
use Rattle.vr_cli.proofs.EndingLemmas.{ends_starved, ends_unread, part_says}
use Rattle.vr_cli.proofs.commands.flows.Goals as goal

pub returns-in_err-checked : goal.returns-in_err-checked
returns-in_err-checked g c =
    let same = err_from_is_err_and c.from_residual.result c.from_residual.ensures.1 in
    let word = placed c.args.policy in
    let read = c.in_err-checked.ensures in
    rw (same.1, same.2)
    (ends_unread (flows word) _ _ _ _ _ _ _ word read.same (part_says _ _ (in_file (checked_from most_policy) word) _ _ read.told) read.cause refl read.word)

pub returns-in_err-text : goal.returns-in_err-text
returns-in_err-text g c =
    let same = err_from_is_err_and c.from_residual-in_err-text.result c.from_residual-in_err-text.ensures.1 in
    rw (same.1, same.2) (ends_starved (flows (placed c.args.policy)) _ _ _ _ _ _ _ c.in_ok-checked.ensures.same c.in_ok-checked.ensures.cause)
