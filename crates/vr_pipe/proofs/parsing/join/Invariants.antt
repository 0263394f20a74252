-- What is left makes the whole feed.
use Rattle.std.proofs.Common.{◌≡◌, length}
use Rattle.vr_pipe.specs.Parser.{join}
use Rattle.vr_pipe.proofs.parsing.join.Given as goal

abbrev pub invariant-loop-tree : goal.invariant-loop-tree
invariant-loop-tree l = join l.tree l.frames ≡ join l.fn.last l.initial.frames

abbrev pub decreases-loop-tree : goal.decreases-loop-tree
decreases-loop-tree l = length l.frames
