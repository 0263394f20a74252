-- The grants so far were copied.
use Rattle.std.proofs.Common.{◌≡◌, take}
use Rattle.vr_base.proofs.grants.Grants.copy.Given as goal

abbrev pub invariant-loop-name : goal.invariant-loop-name
invariant-loop-name l = l.items.items ≡ take l.name-index l.self
