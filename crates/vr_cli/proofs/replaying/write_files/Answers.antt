use Rattle.std.proofs.Common.{◌<◌, ◌≤◌, ℕ, length, sym, arith}
use Rattle.std.specs.FinMap.{entries, len, len-entries}
use Rattle.vr_report.specs.Texts.{file_line}
use Rattle.vr_report.proofs.FileLines.{flat_from, flat_past, has_file}
use Rattle.vr_cli.proofs.GatheringLemmas.{HandsIn-failed, Gathers-added, AppendsPrefix-added, reaches_all, reaches_on, reaches_cut, reaches_so_far}
use Rattle.vr_cli.proofs.replaying.write_files.Goals as goal
use Rattle.vr_cli.proofs.replaying.write_files.Goals.{in-Some+in_ok-add_file_line+in_ok-left, in_default}

pub loop-place-preserved : goal.loop-place-preserved
loop-place-preserved g c =
    let files = c.args.files.now.map in
    let k : ℕ = c.loop-place.place in
    let so_far = c.loop-place.invariant in
    elim c.match-entry.branch [
      | in-Some+in_ok-add_file_line+in_ok-left w ↦
          let next = flat_from file_line (entries files) k (w.in-Some.path.now, w.in-Some.body.now) (sym w.in-Some.ensures) in
          let added = rw w.in_ok-add_file_line.ensures at w.in_ok-left.ensures.text in
          let later = w.in_ok-left.ensures.cause.later in
          rw (w.left-is, w.out-is) (record {
            lines = reaches_on _ _ _ _ _ _ _ _ _ (rw next at so_far.lines) (Gathers-added _ _ _ _ _ added);
            later = omega (arith, so_far.later, later);
          })
      | in_default w ↦
          let below : k < len files = rw c.len-place-end.ensures at c.loop-place-test.true in
          absurd (has_file files k below (sym w.in_default.ensures))
    ]

pub returns-in_err-add_file_line-clause-text : goal.returns-in_err-add_file_line-clause-text
returns-in_err-add_file_line-clause-text g c =
    HandsIn-failed _ _ _ _ _ c.from_residual.ensures.0 (reaches_so_far _ _ _ _ _ _ c.loop-place.invariant.lines)

pub returns-in_err-left-clause-text : goal.returns-in_err-left-clause-text
returns-in_err-left-clause-text g c =
    let files = c.args.files.now.map in
    let k : ℕ = c.loop-place.place in
    let next = flat_from file_line (entries files) k (c.in-Some.path.now, c.in-Some.body.now) (sym c.in-Some.ensures) in
    let added = rw c.in_ok-add_file_line.ensures at c.in_err-left.ensures.text in
    let line = file_line (c.in-Some.path.now, c.in-Some.body.now) in
    HandsIn-failed _ _ _ _ _ c.from_residual-in_err-left.ensures.0
    (reaches_cut _ _ _ _ _ line _ _ (rw next at c.loop-place.invariant.lines) (AppendsPrefix-added _ _ c.loop-place.left line added))

pub returns-clause-text : goal.returns-clause-text
returns-clause-text g c =
    let files = c.args.files.now.map in
    let past : length (entries files) ≤ c.loop-place.place = omega (arith, len-entries files, c.len-place-end.ensures, c.loop-place-test.false) in
    reaches_all _ _ _ _ _ (rw (flat_past file_line (entries files) c.loop-place.place past) at c.loop-place.invariant.lines)
