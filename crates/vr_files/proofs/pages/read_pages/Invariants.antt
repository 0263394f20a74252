-- The bytes so far are those of the pages.
use Rattle.std.proofs.Common.{◌≡◌, ◌-◌, ◌≤◌, length, take, drop}
use Rattle.vr_files.specs.PageLists.{bytes_of}
use Rattle.vr_files.proofs.pages.read_pages.Given as goal

abbrev pub invariant-loop-done : goal.invariant-loop-done
invariant-loop-done l = record {
  within : l.done ≤ length l.into;
  read : take l.done l.into ≡ take l.done (drop l.at (bytes_of l.pages));
}

abbrev pub decreases-loop-done : goal.decreases-loop-done
decreases-loop-done l = length l.into - l.done
