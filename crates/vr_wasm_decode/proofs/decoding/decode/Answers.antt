use Rattle.std.proofs.Common.{◌∙◌, sym}
use Rattle.vr_wasm_decode.proofs.LimitLemmas.{meets_limits, has_codes}
use Rattle.vr_wasm_decode.proofs.ModuleLemmas.{module_found, module_again, one_module}
use Rattle.vr_wasm_decode.proofs.decoding.decode.Goals as goal

pub returns-in-Ok-clause-found : goal.returns-in-Ok-clause-found
returns-in-Ok-clause-found c = module_found c.args.bytes.now c.in-Ok.decoded c.in-Ok.ensures

pub returns-in-Ok-clause-only : goal.returns-in-Ok-clause-only
returns-in-Ok-clause-only c m spelled = sym (module_again c.args.bytes.now m spelled) ∙ c.in-Ok.ensures

pub returns-in-Ok-clause-limits : goal.returns-in-Ok-clause-limits
returns-in-Ok-clause-limits c = meets_limits c.args.bytes.now c.in-Ok.decoded (module_found c.args.bytes.now c.in-Ok.decoded c.in-Ok.ensures)

pub returns-in-Ok-clause-codes : goal.returns-in-Ok-clause-codes
returns-in-Ok-clause-codes c = has_codes c.args.bytes.now c.in-Ok.decoded (module_found c.args.bytes.now c.in-Ok.decoded c.in-Ok.ensures)

pub returns-in-Err-Fault-clause-only : goal.returns-in-Err-Fault-clause-only
returns-in-Err-Fault-clause-only c m spelled = absurd (let none = sym (module_again c.args.bytes.now m spelled) ∙ (rw c.in-Err-Fault.field-0-is at c.in-Err-Fault.ensures) in cc)

pub returns-in-Ok-clause-unique : goal.returns-in-Ok-clause-unique
returns-in-Ok-clause-unique c = one_module c.args.bytes.now

pub returns-in-Err-Fault-clause-unique : goal.returns-in-Err-Fault-clause-unique
returns-in-Err-Fault-clause-unique c = one_module c.args.bytes.now

pub returns-in-Err-OutOfMemory-clause-unique : goal.returns-in-Err-OutOfMemory-clause-unique
returns-in-Err-OutOfMemory-clause-unique c = one_module c.args.bytes.now
