-- The totals are those of the files after the changes so far.
use Rattle.std.proofs.Common.{take}
use Rattle.vr_core.specs.Files.{KeepsTotals}
use Rattle.vr_files.specs.Changes.{applied}
use Rattle.vr_core.proofs.policy_files.change_totals.Given as goal

abbrev pub invariant-loop-path : goal.invariant-loop-path
invariant-loop-path l = KeepsTotals l.policy l.regions (applied l.files.map (take l.path-index l.changes)) l.totals
