-- The calls so far and those of what is left are those of all, and there are no more lines than bytes.
use Rattle.std.proofs.Common.{◌≡◌, ◌+◌, ◌≤◌, length}
use Rattle.std.specs.Str.Lines.{lines}
use Rattle.vr_report.specs.Script.{script_from}
use Rattle.vr_report.proofs.Calls.{after}
use Rattle.vr_report.proofs.script.read_script.Given as goal

abbrev pub invariant-loop-left : goal.invariant-loop-left
invariant-loop-left l = record {
  calls : after l.calls.items (script_from l.number (lines l.left)) ≡ script_from 1 (lines l.bytes);
  numbers : l.number + length l.left ≤ length l.bytes + 1;
}

abbrev pub decreases-loop-left : goal.decreases-loop-left
decreases-loop-left l = length l.left
