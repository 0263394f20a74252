-- The hasher has the pages so far.
use Rattle.std.proofs.Common.{◌*◌, take}
use Rattle.sha2.specs.Hashers.{Holds256}
use Rattle.vr_digests.proofs.digests.digest_of.Given as goal

abbrev pub invariant-loop-place : goal.invariant-loop-place
invariant-loop-place l = Holds256 l.hasher (take (4096 * l.place) l.body)
