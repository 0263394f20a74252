use Rattle.std.proofs.Common.{ap, arith}
use Rattle.vr_wasm_steps.specs.Terms.{frames, slots, labels}
use Rattle.vr_wasm_stacks.specs.Positions.{term_of}
use Rattle.vr_wasm_run.proofs.OutsideLemmas.{outside_frames, outside_slots, outside_labels}
use Rattle.vr_wasm_run.proofs.calls.enter_outside.Goals as goal

pub call-requires-clause-frames : goal.call-requires-clause-frames
call-requires-clause-frames c = omega (arith, ap (λ z. frames (term_of z)) c.clear.ensures, outside_frames)

pub call-requires-clause-slots : goal.call-requires-clause-slots
call-requires-clause-slots c = omega (arith, ap (λ z. slots (term_of z)) c.clear.ensures, outside_slots, c.requires.locals)

pub call-requires-clause-labels : goal.call-requires-clause-labels
call-requires-clause-labels c = omega (arith, ap (λ z. labels (term_of z)) c.clear.ensures, outside_labels)
