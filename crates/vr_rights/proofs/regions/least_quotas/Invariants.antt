-- The least so far is that of the quotas so far.
use Rattle.std.proofs.Common.{◌≡◌, map, take}
use Rattle.vr_rights.specs.Quotas.{quota_of}
use Rattle.vr_rights.proofs.regions.least_quotas.Given as goal

abbrev pub invariant-loop-quota : goal.invariant-loop-quota
invariant-loop-quota l = l.least.items ≡ map (λ name. quota_of name (take l.quota-index l.quotas)) l.names
