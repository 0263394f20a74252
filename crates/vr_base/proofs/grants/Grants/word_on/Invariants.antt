-- The best of the grants passed so far.
use Rattle.std.proofs.Common.{option_map, take}
use Rattle.vr_base.specs.Rights.{covering_grants}
use Rattle.vr_base.proofs.Longest.{IsBest}
use Rattle.vr_base.proofs.grants.Grants.word_on.Given as goal

abbrev pub invariant-loop-grant : goal.invariant-loop-grant
invariant-loop-grant l = IsBest (covering_grants l.path (take l.grant-index l.self)) (option_map (λ grant. grant.now) l.best)
