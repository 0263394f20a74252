-- No pin so far has a fault.
use Rattle.std.proofs.Common.{◌≡◌, None, Some, slice_get, take}
use Rattle.vr_pipe.specs.declared.trees.Tree.{Tree}
use Rattle.vr_pipe.specs.Trees.{pipe_tree}
use Rattle.vr_exec.specs.Starts.{first_pin_fault}
use Rattle.vr_exec.proofs.starts.ready.Given as goal

abbrev pub invariant-loop-pin : goal.invariant-loop-pin
invariant-loop-pin l =
    (tree : Tree) → slice_get l.policy.pipes l.pipeline ≡ Some tree → first_pin_fault l.policy (pipe_tree tree) l.files.map (take l.pin-index l.policy.policy.pins) ≡ None
