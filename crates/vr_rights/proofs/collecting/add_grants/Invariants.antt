-- The names of the grants of the holders so far are added.
use Rattle.std.proofs.Common.{◌≡◌, ◌++◌, take}
use Rattle.std.specs.List.{flat_map}
use Rattle.vr_policy_check.specs.Rules.{grant_names}
use Rattle.vr_rights.proofs.collecting.add_grants.Given as goal

abbrev pub invariant-loop-holder : goal.invariant-loop-holder
invariant-loop-holder g l = l.names.items ≡ l.initial.names.items ++ flat_map (λ holder. grant_names (g.H.Granted.grants holder)) (take l.holder-index l.holders)
