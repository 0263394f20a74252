-- A bit of two words is a place of both sets.
use Rattle.std.proofs.Common.{arith, rules}
use Rattle.std.proofs.Math.Facts.{Fits-lt-pow}
use Rattle.vr_flow.proofs.PlaceLemmas.{meet_here, meet_nowhere}
use Rattle.vr_flow.proofs.places.words_meet.Goals as goal

pub returns : goal.returns
returns c = ((λ h. search rules), (λ meet. absurd (meet_nowhere c.args.words.now c.args.others.now (λ i l. c.loop-index.invariant i (omega (arith, c.loop-index-test.false))) meet)))

pub returns-then-word-others-ne0 : goal.returns-then-word-others-ne0
returns-then-word-others-ne0 c =
    ((λ h. meet_here c.args.words.now c.args.others.now c.loop-index.index c.if-word-others-ne0.true (Fits-lt-pow (c.type_inv.words c.loop-index.index))), (λ meet. search rules))
