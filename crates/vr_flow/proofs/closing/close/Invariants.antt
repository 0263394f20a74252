-- What is done has led on; each round does one place more.
use Rattle.vr_flow.proofs.LoopLemmas.{IsClosing, undone}
use Rattle.vr_flow.proofs.closing.close.Given as goal

abbrev pub invariant-loop-place : goal.invariant-loop-place
invariant-loop-place l = IsClosing l.leads l.initial.led l.led l.done.items

abbrev pub decreases-loop-place : goal.decreases-loop-place
decreases-loop-place l = undone l.done.items
