use Rattle.std.proofs.Common.{reverse, sym, ap}
use Rattle.vr_wasm_valid.specs.Context.{result_list}
use Rattle.vr_wasm_valid.proofs.StepLemmas.{checks_found, takes_as}
use Rattle.vr_wasm_valid.proofs.instructions.check_call.Goals as goal

pub returns-in-Some : goal.returns-in-Some
returns-in-Some c =
    checks_found (sym c.in-Some.ensures)
    (takes_as (ap reverse c.as_slice.ensures) (ap result_list c.result_type.ensures) c.apply.ensures)
