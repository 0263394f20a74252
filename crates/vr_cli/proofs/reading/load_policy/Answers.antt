use Rattle.std.proofs.lemmas.Result.{err_from_is_err_and}
use Rattle.vr_policy_read.specs.Limits.{most_policy}
use Rattle.vr_cli.specs.Outputs.{policy_from}
use Rattle.vr_cli.proofs.FileLemmas.{told_reading, told_refusal, long_policy}
use Rattle.vr_cli.proofs.ServerFileLemmas.{policy_said}
use Rattle.vr_cli.proofs.reading.load_policy.Goals as goal

pub returns-clause-told : goal.returns-clause-told
returns-clause-told g c =
    told_reading policy_from most_policy _ (long_policy most_policy) _ _ _ _ c.in_ok-bytes.ensures.told (rw c.as_slice.ensures at c.parse_policy.ensures.answer)

pub returns-in_err-bytes-clause-told : goal.returns-in_err-bytes-clause-told
returns-in_err-bytes-clause-told g c =
    let same = err_from_is_err_and c.from_residual.result c.from_residual.ensures.1 in
    rw (same.1, same.2) (told_refusal policy_from most_policy _ (long_policy most_policy) _ _ _ c.in_err-bytes.ensures.told)

pub returns-clause-said : goal.returns-clause-said
returns-clause-said g c = policy_said c.parse_policy.result c.as_slice.result.now c.parse_policy.ensures.answer
