-- A linked module before its first step.
use Rattle.vr_wasm_link.specs.Opening.{Finds}
use Rattle.vr_wasm_link.specs.Plans.{Plan, opening_in}
use Rattle.vr_wasm_steps.specs.Rows.{Config, Program}
use Rattle.vr_wasm_steps.specs.Runs.{start}
use Rattle.vr_wasm_run.specs.Calls.{Replies}

-- its types and functions, with what a host replies
abbrev pub linked_program : {W : Type 0} → Replies W → Finds → Plan → Program W
linked_program reply finds plan = record {
  types = plan.tree.types;
  functions = (opening_in finds plan).functions;
  reply = reply;
}

-- its store, in a world, and the calls of its start function, where it has one, and of the other
abbrev pub linked_start : {W : Type 0} → Finds → Plan → W → Config W
linked_start finds plan w =
    let o = opening_in finds plan in start o.store w o.start o.main
