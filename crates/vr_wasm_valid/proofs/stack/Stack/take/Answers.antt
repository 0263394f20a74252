use Rattle.vr_wasm_valid.proofs.ShapeLemmas.{take_moves}
use Rattle.vr_wasm_valid.proofs.stack.Stack.take.Goals as goal

pub returns-in-Some : goal.returns-in-Some
returns-in-Some c = take_moves c.in-Some.ensures c.fits.ensures
