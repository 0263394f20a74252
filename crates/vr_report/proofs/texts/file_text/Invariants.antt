-- The lines so far, before those of the files that are left, are those of all.
use Rattle.std.proofs.Common.{◌≡◌, ◌++◌, drop}
use Rattle.std.specs.List.{flat_map}
use Rattle.std.specs.FinMap.{entries}
use Rattle.vr_report.specs.Texts.{file_line, files_text}
use Rattle.vr_report.proofs.texts.file_text.Given as goal

abbrev pub invariant-loop-place : goal.invariant-loop-place
invariant-loop-place l = l.text ++ flat_map file_line (drop l.place (entries l.files.map)) ≡ files_text l.files.map
