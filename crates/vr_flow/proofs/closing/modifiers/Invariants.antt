-- The caller and the identities so far that modify.
use Rattle.vr_flow.proofs.LoopLemmas.{AreModifiersSoFar}
use Rattle.vr_flow.proofs.closing.modifiers.Given as goal

abbrev pub invariant-loop-place : goal.invariant-loop-place
invariant-loop-place l = AreModifiersSoFar l.place l.flows l.caller l.regions l.found
