use Rattle.std.proofs.lemmas.Result.{err_from_is_err_and}
use Rattle.vr_policy_read.specs.Limits.{most_policy}
use Rattle.vr_cli.specs.Outputs.{digits_from}
use Rattle.vr_cli.proofs.FileLemmas.{told_reading, told_refusal, long_hash}
use Rattle.vr_cli.proofs.reading.load_hash.Goals as goal

pub returns-clause-told : goal.returns-clause-told
returns-clause-told g c =
    told_reading digits_from most_policy _ (long_hash most_policy) _ _ _ _ c.in_ok-bytes.ensures.told (rw c.as_slice.ensures at c.hash_policy.ensures.answer)

pub returns-in_err-bytes-clause-told : goal.returns-in_err-bytes-clause-told
returns-in_err-bytes-clause-told g c =
    let same = err_from_is_err_and c.from_residual.result c.from_residual.ensures.1 in
    rw (same.1, same.2) (told_refusal digits_from most_policy _ (long_hash most_policy) _ _ _ c.in_err-bytes.ensures.told)
