use Rattle.std.proofs.Common.{IsTrue}
use Rattle.vr_wasm_steps.specs.Store.{are_of}
use Rattle.vr_wasi_cases.proofs.arguments.arguments.Given as goal

abbrev pub invariant-loop-word : goal.invariant-loop-word
invariant-loop-word l = IsTrue (are_of l.types.items l.values.items)
