use Rattle.std.proofs.Common.{◌≡◌}
use Rattle.vr_wasi_calls.proofs.WorldLemmas.{begun}
use Rattle.vr_wasi_calls.proofs.state.first_descriptors.Given as goal

abbrev pub invariant-loop-number : goal.invariant-loop-number
invariant-loop-number l = l.descriptors.items ≡ begun l.number
