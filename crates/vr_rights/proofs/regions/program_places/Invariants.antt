-- The places so far are those of the programs of the pipelines so far.
use Rattle.std.proofs.Common.{take}
use Rattle.std.specs.List.{AllZip}
use Rattle.vr_pipe.specs.Trees.{pipe_tree, programs_of}
use Rattle.vr_rights.specs.Kept.{ArePlaces}
use Rattle.vr_rights.proofs.regions.program_places.Given as goal

abbrev pub invariant-loop-place : goal.invariant-loop-place
invariant-loop-place l = AllZip (λ pipe places. ArePlaces l.names (programs_of (pipe_tree pipe)) places.items) (take l.place l.policy.pipes) l.all.items
