use Rattle.std.proofs.Common.{◌<◌, length, arith}
use Rattle.std.proofs.lemmas.Result.{err_from_is_err_and}
use Rattle.vr_exec.proofs.LoadLemmas.{bad_told, grown, kept_same}
use Rattle.vr_exec.proofs.loading.load_programs.Goals as goal
use Rattle.vr_exec.proofs.loading.load_programs.Goals.{then-is_none+in_ok-load_program+in_ok-push, else-is_none}

pub returns-in_err-load_program-clause-bad : goal.returns-in_err-load_program-clause-bad
returns-in_err-load_program-clause-bad c =
    let same = err_from_is_err_and c.from_residual.result c.from_residual.ensures.1 in
    let within : c.loop-path.path-index < length c.args.paths.now = omega arith in
    rw (same.1, same.2) (bad_told c.args.pages c.args.files.now.map c.args.paths.now c.loop-path.programs.items c.loop-path.path-index c.path-item.result c.in_err-load_program.field-0.0 within c.path-item.is
    c.loop-path.invariant c.in_err-load_program.ensures.bad)

pub loop-path-preserved : goal.loop-path-preserved
loop-path-preserved c =
    let within : c.loop-path.path-index < length c.args.paths.now = omega arith in
    elim c.if-is_none.branch [
      | then-is_none+in_ok-load_program+in_ok-push w ↦
          rw w.programs-is (grown c.args.pages c.args.files.now.map c.args.paths.now c.loop-path.path-index c.path-item.result c.loop-path.programs.items _ _ within c.path-item.is c.loop-path.invariant
          w.in_ok-load_program.ensures.loaded w.in_ok-load_program.ensures.path w.in_ok-push.ensures.items)
      | else-is_none w ↦
          rw w.programs-is (kept_same c.args.pages c.args.files.now.map c.args.paths.now c.loop-path.path-index c.path-item.result c.loop-path.programs.items c.deref.result.now c.find_program.result c.is_none.result
          within c.path-item.is c.loop-path.invariant c.deref.ensures.value c.find_program.ensures c.is_none.ensures w.if-is_none.false)
    ]
