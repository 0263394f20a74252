-- What is left makes the whole sequence.
use Rattle.std.proofs.Common.{◌≡◌, length}
use Rattle.vr_pipe.specs.Parser.{close}
use Rattle.vr_pipe.proofs.parsing.close.Given as goal

abbrev pub invariant-loop-frame : goal.invariant-loop-frame
invariant-loop-frame l = close l.tree l.frames ≡ close l.fn.last l.initial.frames

abbrev pub decreases-loop-frame : goal.decreases-loop-frame
decreases-loop-frame l = length l.frames
