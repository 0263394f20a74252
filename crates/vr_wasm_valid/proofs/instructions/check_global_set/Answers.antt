use Rattle.std.proofs.Common.{sym, ◌∙◌}
use Rattle.vr_wasm_valid.proofs.StepLemmas.{checks_found, checks_met}
use Rattle.vr_wasm_valid.proofs.instructions.check_global_set.Goals as goal

pub returns-in-Some : goal.returns-in-Some
returns-in-Some c =
    checks_found (sym c.global_type.ensures ∙ c.in-Some.is) (checks_met c.if-sort.true c.apply.ensures)
