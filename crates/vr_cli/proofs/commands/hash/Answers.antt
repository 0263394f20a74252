use Rattle.std.proofs.Common.{refl}
use Rattle.std.proofs.lemmas.Result.{err_from_is_err_and}
use Rattle.vr_cli.specs.Outputs.{digits_from, in_file}
use Rattle.vr_policy_read.specs.Limits.{most_policy}
use Rattle.vr_words.specs.Views.{placed}
use Rattle.vr_words.specs.Grammar.{hash}
use Rattle.vr_cli.proofs.EndingLemmas.{ends_unread, part_says}
use Rattle.vr_cli.proofs.commands.hash.Goals as goal

pub returns-in_err-digits : goal.returns-in_err-digits
returns-in_err-digits g c =
    let same = err_from_is_err_and c.from_residual.result c.from_residual.ensures.1 in
    let word = placed c.args.policy in
    let read = c.in_err-digits.ensures in
    rw (same.1, same.2)
    (ends_unread (hash word) _ _ _ _ _ _ _ word read.same (part_says _ _ (in_file (digits_from most_policy) word) _ _ read.told) read.cause refl read.word)
