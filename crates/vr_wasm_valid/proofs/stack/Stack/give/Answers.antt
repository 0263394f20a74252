use Rattle.std.proofs.lemmas.Result.{on_ok_weaker}
use Rattle.vr_wasm_valid.proofs.ShapeLemmas.{gives}
use Rattle.vr_wasm_valid.proofs.stack.Stack.give.Goals as goal

pub returns-in-Some : goal.returns-in-Some
returns-in-Some c = on_ok_weaker c.push.result (gives c.in-Some.is) c.push.ensures
