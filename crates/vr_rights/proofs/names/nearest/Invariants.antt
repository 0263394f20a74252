-- One goes from a name to one that encloses it, which is shorter.
use Rattle.std.proofs.Common.{length}
use Rattle.vr_rights.specs.Ordered.{Reaches}
use Rattle.vr_rights.proofs.ChainLemmas.{length_at}
use Rattle.vr_rights.proofs.names.nearest.Given as goal

abbrev pub invariant-loop-at : goal.invariant-loop-at
invariant-loop-at l = Reaches l.names (length l.outer) l.name l.at

abbrev pub decreases-loop-at : goal.decreases-loop-at
decreases-loop-at l = length_at l.names l.at
