-- The edits have the changes so far, and room for the others.
use Rattle.std.proofs.Common.{◌≡◌, ◌+◌, ◌≤◌, length, vec_len}
use Rattle.vr_files.specs.FileMaps.{FileMap}
use Rattle.vr_files.specs.Changes.{applied}
use Rattle.vr_keeper.proofs.kept.put_all.Given as goal

abbrev pub invariant-loop-path : goal.invariant-loop-path
invariant-loop-path l = record {
  put : (files : FileMap) → applied files l.edits.changes ≡ applied (applied files l.fn.edits.changes) l.yielded;
  room : vec_len l.fn.changes ≤ l.edits.spare + length l.yielded;
}
