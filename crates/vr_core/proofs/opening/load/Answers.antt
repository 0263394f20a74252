use Rattle.std.proofs.Common.{Err, Ok, ap, sym, ◌∙◌}
use Rattle.std.proofs.lemmas.Result.{err_from_is_err_and}
use Rattle.vr_core.proofs.LoadingLemmas.{opens_listed, refused_leaves, refused_opens, unloaded_leaves, unloaded_opens}
use Rattle.vr_core.proofs.OpeningLemmas.{named_rows, no_keeper}
use Rattle.vr_core.proofs.opening.load.Goals as goal

pub returns-in_err-files-clause-cause : goal.returns-in_err-files-clause-cause
returns-in_err-files-clause-cause g c =
    let same = err_from_is_err_and c.from_residual-in_err-files.result c.from_residual-in_err-files.ensures.1 in
    rw (same.1, same.2) (record {
      later = c.load.ensures.cause.later;
      failed = λ e. absurd (no_keeper c.in_err-files.field-0.0 _ c.in_err-files.ensures.files (cc (e)));
    })

pub returns-clause-loaded : goal.returns-clause-loaded
returns-clause-loaded g c = c.in_ok-rows.ensures.loaded ∙ named_rows c.in_ok-rows.rows _ c.in_ok-files.ensures.files

pub returns-in_err-rows-clause-exact : goal.returns-in_err-rows-clause-exact
returns-in_err-rows-clause-exact g c =
    let same = err_from_is_err_and c.from_residual.result c.from_residual.ensures.1 in
    rw (same.1, same.2) (unloaded_opens _ c.in_err-rows.field-0.0)

pub returns-in_err-files-clause-exact : goal.returns-in_err-files-clause-exact
returns-in_err-files-clause-exact g c =
    let same = err_from_is_err_and c.from_residual-in_err-files.result c.from_residual-in_err-files.ensures.1 in
    let fault = c.in_err-files.field-0.0 in
    rw (same.1, same.2) (opens_listed _ c.in_ok-rows.rows (Err fault) c.in_ok-rows.ensures.listed (refused_opens c.in_ok-rows.rows fault c.in_err-files.ensures.files))

pub returns-clause-exact : goal.returns-clause-exact
returns-clause-exact g c =
    opens_listed _ c.in_ok-rows.rows (Ok c.in_ok-opening.opening.map) c.in_ok-rows.ensures.listed
    (c.in_ok-files.ensures.files ∙ ap Ok (sym (c.in_ok-opening.ensures ∙ ap (λ files. files.map) c.files-2.ensures)))

pub returns-in_err-rows-clause-left : goal.returns-in_err-rows-clause-left
returns-in_err-rows-clause-left g c =
    let same = err_from_is_err_and c.from_residual.result c.from_residual.ensures.1 in
    rw (same.1, same.2) (unloaded_leaves _ c.in_err-rows.field-0.0 _ c.in_err-rows.ensures.loaded)

pub returns-in_err-files-clause-left : goal.returns-in_err-files-clause-left
returns-in_err-files-clause-left g c =
    let same = err_from_is_err_and c.from_residual-in_err-files.result c.from_residual-in_err-files.ensures.1 in
    rw (same.1, same.2) (refused_leaves _ c.in_ok-rows.rows c.in_err-files.field-0.0 _ c.in_ok-rows.ensures.listed c.in_err-files.ensures.files c.in_ok-rows.ensures.loaded)
