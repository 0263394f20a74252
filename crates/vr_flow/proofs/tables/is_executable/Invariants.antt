-- None of the identities so far may execute the pipeline.
use Rattle.std.proofs.Common.{◌≡◌, false, take, slice_get, Some}
use Rattle.std.specs.List.{list_any}
use Rattle.vr_pipe.specs.declared.trees.Tree.{Tree}
use Rattle.vr_pipe.specs.Trees.{pipe_tree}
use Rattle.vr_rights.specs.Flows.{may_run}
use Rattle.vr_flow.proofs.tables.is_executable.Given as goal

abbrev pub invariant-loop-identity : goal.invariant-loop-identity
invariant-loop-identity l = (pipe : Tree) → slice_get l.policy.pipes l.pipeline ≡ Some pipe → list_any (λ identity. may_run identity (pipe_tree pipe)) (take l.identity l.policy.policy.identities) ≡ false
