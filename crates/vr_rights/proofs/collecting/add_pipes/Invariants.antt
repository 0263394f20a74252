-- The names of the pipelines so far are added.
use Rattle.std.proofs.Common.{◌≡◌, ◌++◌, take}
use Rattle.vr_rights.specs.Tables.{names_of_pipes}
use Rattle.vr_rights.proofs.collecting.add_pipes.Given as goal

abbrev pub invariant-loop-place : goal.invariant-loop-place
invariant-loop-place l = l.names.items ≡ l.initial.names.items ++ names_of_pipes (take l.place l.policy.pipes)
