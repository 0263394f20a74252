use Rattle.std.proofs.Common.{[]}
use Rattle.vr_wasm_valid.specs.Shape.{Moves}
use Rattle.vr_wasm_valid.specs.Steps.{Takes}
use Rattle.vr_wasm_valid.proofs.stack.Stack.take_each.Given as goal

abbrev pub invariant-loop-kind : goal.invariant-loop-kind
invariant-loop-kind l =
    (goal.iterator-loop-kind).can_next l.kind-iterator ×
    (goal.iterator-loop-kind).is_finite l.kind-iterator ×
    Moves l.fine l.initial.self l.self (Takes l.yielded [])
