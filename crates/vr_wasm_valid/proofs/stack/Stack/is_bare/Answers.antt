use Rattle.std.proofs.Common.{sym}
use Rattle.vr_wasm_valid.proofs.ShapeLemmas.{bare_view}
use Rattle.vr_wasm_valid.proofs.stack.Stack.is_bare.Goals as goal

pub returns : goal.returns
returns c = bare_view (sym c.self.view_is) c.is_empty.ensures
