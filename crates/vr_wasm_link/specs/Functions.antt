-- The functions of a linked program.
use Rattle.vr_wasm_ast.specs.Instructions.{instructions_of}
use Rattle.vr_wasm_link.specs.declared.functions.Callee.{Callee}
use Rattle.vr_wasm_link.specs.declared.functions.Callee.TheVariants.{Own, Outside}
use Rattle.vr_wasm_steps.specs.Rows.{Callee as Function, own, outside}

-- the function of the step table
abbrev pub function_of : Callee → Function
function_of (Own sort locals body) = own sort.now locals (instructions_of body.now)
function_of (Outside sort which) = outside sort.now which
