use Rattle.vr_wasm_decode.proofs.LocalLoop.{SoFar}
use Rattle.vr_wasm_decode.proofs.parts.groups.Given as goal

abbrev pub invariant-loop : goal.invariant-loop
invariant-loop l = SoFar l.count l.initial.cursor l.locals.items l.counter l.cursor
