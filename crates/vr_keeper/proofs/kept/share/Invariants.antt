-- The changes so far are shared.
use Rattle.std.proofs.Common.{◌≡◌, take}
use Rattle.vr_keeper.proofs.kept.share.Given as goal

abbrev pub invariant-loop-path : goal.invariant-loop-path
invariant-loop-path l = l.shared.items ≡ take l.path-index l.changes
