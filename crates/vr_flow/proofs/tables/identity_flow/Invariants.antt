-- What the identity observes and modifies by its words, and by the pipelines so far.
use Rattle.std.proofs.Common.{◌||◌, length, take}
use Rattle.std.specs.List.{list_any}
use Rattle.vr_rights.specs.declared.regions.Holder.TheVariants.{Identity}
use Rattle.vr_flow.specs.Flows.{IsFlow}
use Rattle.vr_flow.specs.Holders.{observed_by_words, modified_by_words}
use Rattle.vr_flow.proofs.PolicyLemmas.{piped, pipe_observes, pipe_modifies, identity_at}
use Rattle.vr_flow.proofs.tables.identity_flow.Given as goal

abbrev pub invariant-loop-place : goal.invariant-loop-place
invariant-loop-place l = IsFlow (length l.regions.names)
    (λ region. observed_by_words l.regions (Identity l.identity) region || list_any (λ pipe. piped l.policy l.regions.names (pipe_observes l.policy l.regions.names) (identity_at l.policy l.identity) pipe region) (take l.place l.policy.pipes))
    (λ region. modified_by_words l.regions (Identity l.identity) region || list_any (λ pipe. piped l.policy l.regions.names (pipe_modifies l.policy l.regions.names) (identity_at l.policy l.identity) pipe region) (take l.place l.policy.pipes))
    l.flow
