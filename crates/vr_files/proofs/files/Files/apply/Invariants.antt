-- The files are those with the changes so far, and there is room for the others.
use Rattle.std.proofs.Common.{◌≡◌, ◌+◌, ◌≤◌, length, vec_len, vec_capacity}
use Rattle.std.specs.FinMap.{from_sorted}
use Rattle.vr_files.specs.Changes.{applied}
use Rattle.vr_files.specs.Entries.{AreSorted}
use Rattle.vr_files.specs.FileMaps.{path_cmp}
use Rattle.vr_files.proofs.files.Files.apply.Given as goal

abbrev pub invariant-loop-path : goal.invariant-loop-path
invariant-loop-path l = record {
  sorted : AreSorted l.self-inside.entries.items;
  made : from_sorted {R = path_cmp} l.self-inside.entries.items ≡ applied l.fn.self.map l.yielded;
  room : vec_len l.self-inside.entries + length l.fn.changes ≤ vec_capacity l.self-inside.entries + length l.yielded;
  rooms : length l.fn.changes ≤ vec_len l.self-inside.rooms + length l.yielded;
}
