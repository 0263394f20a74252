-- All lines were handed in but those of the files that are left.
use Rattle.std.proofs.Common.{◌≤◌, drop, flat_map}
use Rattle.std.specs.FinMap.{entries}
use Rattle.vr_report.specs.Texts.{file_line, files_text}
use Rattle.vr_cli.proofs.GatheringLemmas.{Reaches}
use Rattle.vr_cli.proofs.replaying.write_files.Given as goal

abbrev pub invariant-loop-place : goal.invariant-loop-place
invariant-loop-place g l = record {
  lines : Reaches (g.O.Sink.written l.fn.out) (g.O.Sink.written l.out) l.fn.text l.left
      (flat_map file_line (drop l.place (entries l.files.map))) (files_text l.files.map);
  later : g.O.Sink.faults l.fn.out ≤ g.O.Sink.faults l.out;
}
