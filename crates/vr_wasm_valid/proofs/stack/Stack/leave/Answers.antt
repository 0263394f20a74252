use Rattle.vr_wasm_valid.proofs.ShapeLemmas.{leaves_moves, slice_of_result}
use Rattle.vr_wasm_valid.proofs.stack.Stack.leave.Goals as goal

pub returns : goal.returns
returns c =
    let whole = slice_of_result c.args.wanted c.as_slice.result.now c.as_slice.ensures in
    leaves_moves c.open.ensures whole c.take_all-fine.ensures
