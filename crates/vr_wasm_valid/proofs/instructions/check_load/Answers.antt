use Rattle.std.proofs.Common.{◌≤◌, sym, ◌∙◌, arith}
use Rattle.vr_wasm_valid.proofs.StepLemmas.{checks_found, checks_met}
use Rattle.vr_wasm_valid.proofs.instructions.check_load.Goals as goal

pub returns-in-Some : goal.returns-in-Some
returns-in-Some c =
    let within : c.args.exponent ≤ c.in-Some.loaded.exponent = omega arith in
    checks_found (sym c.load_access.ensures ∙ c.in-Some.is)
    (checks_met within c.check_memory.ensures)
