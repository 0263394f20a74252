use Rattle.std.proofs.lemmas.Result.{err_from_is_err_and}
use Rattle.vr_report.specs.Script.{most_script}
use Rattle.vr_cli.specs.Outputs.{script_in}
use Rattle.vr_cli.proofs.FileLemmas.{told_reading, told_refusal, long_script}
use Rattle.vr_cli.proofs.reading.load_script.Goals as goal

pub returns-clause-told : goal.returns-clause-told
returns-clause-told g c =
    told_reading script_in most_script _ (long_script most_script) _ _ _ _ c.in_ok-bytes.ensures.told (rw c.as_slice.ensures at c.parse_script.ensures.answer)

pub returns-in_err-bytes-clause-told : goal.returns-in_err-bytes-clause-told
returns-in_err-bytes-clause-told g c =
    let same = err_from_is_err_and c.from_residual.result c.from_residual.ensures.1 in
    rw (same.1, same.2) (told_refusal script_in most_script _ (long_script most_script) _ _ _ c.in_err-bytes.ensures.told)
