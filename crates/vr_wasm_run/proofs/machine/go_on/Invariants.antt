use Rattle.std.proofs.Common.{◌+◌, ◌*◌, length}
use Rattle.vr_wasm_run.specs.Machines.{pending}
use Rattle.vr_wasm_run.proofs.ReachLemmas.{Reached}
use Rattle.vr_wasm_run.proofs.machine.go_on.Given as goal

abbrev pub invariant-going : goal.invariant-going
invariant-going g l = Reached g.H.Host.world g.H.Host.stops g.H.Host.reply l.fn.running l.running l.fn.fuel l.left

abbrev pub decreases-going : goal.decreases-going
decreases-going g l = 3 * l.left + length (pending l.running)
