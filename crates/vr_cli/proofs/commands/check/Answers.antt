use Rattle.std.proofs.Common.{refl}
use Rattle.std.proofs.lemmas.Result.{err_from_is_err_and}
use Rattle.vr_cli.specs.Outputs.{checked_from, in_file}
use Rattle.vr_policy_read.specs.Limits.{most_policy}
use Rattle.vr_words.specs.Views.{placed}
use Rattle.vr_words.specs.Grammar.{check}
use Rattle.vr_cli.proofs.EndingLemmas.{ends_starved, ends_unread, part_says}
use Rattle.vr_cli.proofs.commands.check.Goals as goal

pub returns-in_err-checked : goal.returns-in_err-checked
returns-in_err-checked g c =
    let same = err_from_is_err_and c.from_residual.result c.from_residual.ensures.1 in
    let word = placed c.args.policy in
    let read = c.in_err-checked.ensures in
    rw (same.1, same.2)
    (ends_unread (check word) _ _ _ _ _ _ _ word read.same (part_says _ _ (in_file (checked_from most_policy) word) _ _ read.told) read.cause refl read.word)

pub returns-in_err-line : goal.returns-in_err-line
returns-in_err-line g c =
    let same = err_from_is_err_and c.from_residual-in_err-line.result c.from_residual-in_err-line.ensures.1 in
    rw (same.1, same.2) (ends_starved (check (placed c.args.policy)) _ _ _ _ _ _ _ c.in_ok-checked.ensures.same c.in_ok-checked.ensures.cause)
