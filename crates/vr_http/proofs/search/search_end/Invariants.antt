-- No empty line comes after the LFs that were passed.
use Rattle.std.proofs.Common.{length, ◌-◌}
use Rattle.vr_http.specs.Searches.{Passes}
use Rattle.vr_http.proofs.search.search_end.Given as goal

abbrev pub invariant-loop-place : goal.invariant-loop-place
invariant-loop-place l = Passes l.bytes l.from l.at

abbrev pub decreases-loop-place : goal.decreases-loop-place
decreases-loop-place l = length l.bytes - l.at
