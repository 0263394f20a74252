-- What a machine takes, as the step table has it.
use Rattle.std.specs.Prelude.{ℕ, List, IfSome, Option, map}
use Rattle.vr_wasm_ast.specs.declared.tree.Module.{Module}
use Rattle.vr_wasm_link.specs.declared.opened.Opened.{Opened}
use Rattle.vr_wasm_link.specs.Functions.{function_of}
use Rattle.vr_wasm_link.specs.Opening.{Opening}
use Rattle.vr_wasm_num.specs.Memory.{Contents}
use Rattle.vr_wasm_steps.specs.Hosts.{Reply}
use Rattle.vr_wasm_steps.specs.Rows.{Program}
use Rattle.vr_wasm_steps.specs.Store.{Store}
use Rattle.vr_wasm_valid.specs.Context.{spaces_of}
use Rattle.vr_wasm_valid.specs.Parts.{StartFits}

-- the store before the first step
abbrev pub store_in : Opened → Store
store_in o = record { memory = o.memory; table = o.table.items; globals = o.globals.items }

-- the parts as what a module opens with
abbrev pub opening_parts : Opened → Opening
opening_parts o = record {
  functions = map function_of o.functions.items;
  store = store_in o;
  start = o.start;
  main = o.main;
}

-- the program, where these are the host's replies
abbrev pub program_in : {W : Type 0} → Opened → (W → ℕ → List ℕ → Contents → Reply W) → Program W
program_in o reply = record {
  types = o.types.now;
  functions = map function_of o.functions.items;
  reply = reply;
}

-- the two functions with which it begins are there, and take and give nothing
pub record Begins (m : Module) (first : Option ℕ) (next : ℕ) : Type 0 where
  pub start : IfSome first (StartFits (spaces_of m))
  pub main : StartFits (spaces_of m) next
