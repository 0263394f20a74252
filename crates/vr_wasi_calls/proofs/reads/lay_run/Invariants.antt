use Rattle.std.proofs.Common.{◌≡◌, ◌≤◌, ◌-◌, drop, take}
use Rattle.vr_wasm_num.specs.Memory.{with_piece}
use Rattle.vr_wasi_calls.proofs.reads.lay_run.Given as goal

abbrev pub invariant-loop-done : goal.invariant-loop-done
invariant-loop-done l = record {
  laid : l.memory ≡ with_piece l.fn.memory l.at (take l.done (drop l.from l.body));
  few : l.done ≤ l.count;
}

abbrev pub decreases-loop-done : goal.decreases-loop-done
decreases-loop-done l = l.count - l.done
