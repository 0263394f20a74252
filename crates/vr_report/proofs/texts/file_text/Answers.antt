use Rattle.std.proofs.Common.{◌≤◌, ◌<◌, ◌+◌, ℕ, ◌++◌, drop, length, append_assoc, sym, ap, ◌∙◌, arith}
use Rattle.std.proofs.lemmas.List.{append-nil}
use Rattle.std.specs.List.{flat_map}
use Rattle.std.specs.FinMap.{entries, len, len-entries}
use Rattle.vr_report.specs.Texts.{file_line}
use Rattle.vr_report.proofs.FileLines.{flat_from, flat_past, has_file}
use Rattle.vr_report.proofs.texts.file_text.Goals as goal
use Rattle.vr_report.proofs.texts.file_text.Goals.{in-Some+in_ok-text, in_default}

pub loop-place-preserved : goal.loop-place-preserved
loop-place-preserved c =
    let files = c.args.files.now.map in
    let k : ℕ = c.loop-place.place in
    elim c.match-entry.branch [
      | in-Some+in_ok-text w ↦
          let next = flat_from file_line (entries files) k (w.in-Some.path.now, w.in-Some.body.now) (sym w.in-Some.ensures) in
          ap (λ text. text ++ flat_map file_line (drop (k + 1) (entries files))) (w.text-is ∙ w.in_ok-text.ensures)
          ∙ append_assoc c.loop-place.text _ _ ∙ ap (λ left. c.loop-place.text ++ left) (sym next) ∙ c.loop-place.invariant
      | in_default w ↦
          let below : k < len files = rw c.len-place-end.ensures at c.loop-place-test.true in
          absurd (has_file files k below (sym w.in_default.ensures))
    ]

pub returns : goal.returns
returns c =
    let files = c.args.files.now.map in
    let past : length (entries files) ≤ c.loop-place.place = omega (arith, len-entries files, c.len-place-end.ensures, c.loop-place-test.false) in
    c.finish.ensures ∙ sym (append-nil c.loop-place.text) ∙ ap (λ left. c.loop-place.text ++ left) (sym (flat_past file_line (entries files) c.loop-place.place past))
    ∙ c.loop-place.invariant
