-- What the pipeline names, and what its programs so far observe and modify.
use Rattle.std.proofs.Common.{◌||◌, length, take}
use Rattle.std.specs.List.{list_any}
use Rattle.vr_rights.specs.Flows.{program_observes, program_modifies}
use Rattle.vr_flow.specs.Flows.{IsFlow}
use Rattle.vr_flow.specs.Places.{nowhere}
use Rattle.vr_flow.proofs.PolicyLemmas.{names_it, run_does}
use Rattle.vr_flow.proofs.tables.pipeline_flow.Given as goal

abbrev pub invariant-loop-place : goal.invariant-loop-place
invariant-loop-place l = IsFlow (length l.regions.names)
    (λ region. names_it l.policy l.regions.names l.pipe region || list_any (λ program. run_does l.policy l.regions.names program_observes l.pipe program region) (take l.place l.policy.policy.programs))
    (λ region. nowhere region || list_any (λ program. run_does l.policy l.regions.names program_modifies l.pipe program region) (take l.place l.policy.policy.programs))
    l.flow
