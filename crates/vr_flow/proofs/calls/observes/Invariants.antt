-- None of the programs so far observes the region.
use Rattle.std.proofs.Common.{◌≡◌, false, take}
use Rattle.std.specs.List.{list_any}
use Rattle.vr_rights.specs.Flows.{program_observes}
use Rattle.vr_flow.proofs.PolicyLemmas.{run_does}
use Rattle.vr_flow.proofs.calls.observes.Given as goal

abbrev pub invariant-loop-place : goal.invariant-loop-place
invariant-loop-place l = list_any (λ program. run_does l.policy l.regions.names program_observes l.pipe program l.region) (take l.place l.policy.policy.programs) ≡ false
