use Rattle.std.proofs.Common.{sym}
use Rattle.vr_wasm_valid.proofs.ShapeLemmas.{free_view}
use Rattle.vr_wasm_valid.proofs.stack.Stack.is_free.Goals as goal

pub returns-then-self : goal.returns-then-self
returns-then-self c = free_view (sym c.self.view_is) c.if-self.true c.is_empty.ensures
