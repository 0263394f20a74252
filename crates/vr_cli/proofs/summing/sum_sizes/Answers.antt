use Rattle.std.proofs.Common.{◌<◌, ◌≤◌, length, sym, ap, ◌∙◌, arith}
use Rattle.std.specs.FinMap.{entries, len, len-entries}
use Rattle.std.specs.Prelude.{sum_by}
use Rattle.std.proofs.lemmas.List.{take_all}
use Rattle.vr_report.proofs.FileLines.{has_file}
use Rattle.vr_cli.proofs.SummaryLemmas.{sum_next}
use Rattle.vr_cli.proofs.summing.sum_sizes.Goals as goal
use Rattle.vr_cli.proofs.summing.sum_sizes.Goals.{in-Some, in_default}

pub loop-place-preserved : goal.loop-place-preserved
loop-place-preserved c =
    let files = entries c.args.files.now.map in
    let so_far = c.loop-place.invariant in
    elim c.match-entry.branch [
      | in-Some w ↦
          let next = sum_next files c.loop-place.place (w.in-Some.field-0-0.now, w.in-Some.body.now) (sym w.in-Some.ensures) in
          let size = w.len.ensures.len in
          let most = w.len.ensures.most in
          let added = w.from-sum.ensures in
          record {
            summed = omega (arith, w.sum-is, so_far.summed, next, size, added);
            most = omega (arith, w.sum-is, so_far.most, size, most, added);
          }
      | in_default w ↦
          let below : c.loop-place.place < len c.args.files.now.map = rw c.len-place-end.ensures at c.loop-place-test.true in
          absurd (has_file c.args.files.now.map c.loop-place.place below (sym w.in_default.ensures))
    ]

pub returns : goal.returns
returns c =
    let files = entries c.args.files.now.map in
    let past : length files ≤ c.loop-place.place = omega (arith, len-entries c.args.files.now.map, c.len-place-end.ensures, c.loop-place-test.false) in
    c.loop-place.invariant.summed ∙ ap (sum_by (λ file. length file.1)) (take_all c.loop-place.place files past)
