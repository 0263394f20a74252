use Rattle.std.proofs.Common.{sym, refl}
use Rattle.vr_wasm_valid.proofs.StepLemmas.{moves_found, moves_met}
use Rattle.vr_wasm_valid.proofs.instructions.check_br_table.Goals as goal

pub returns-then-all_want : goal.returns-then-all_want
returns-then-all_want c =
    moves_found (sym c.in-Some.ensures) (moves_met (c.if-all_want.ensures.0 refl) c.leave_under_i32.ensures)
