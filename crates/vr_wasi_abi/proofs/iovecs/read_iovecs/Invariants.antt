use Rattle.std.proofs.Common.{◌≡◌, true}
use Rattle.vr_wasi_abi.specs.Iovecs.{vectors, are_there}
use Rattle.vr_wasi_abi.proofs.iovecs.read_iovecs.Given as goal

abbrev pub invariant-loop-i : goal.invariant-loop-i
invariant-loop-i l = record {
  items : l.items.items ≡ vectors l.memory.bytes l.at l.i;
  there : are_there l.memory.bytes l.at l.i ≡ true;
}
