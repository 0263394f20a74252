use Rattle.std.proofs.Common.{arith}
use Rattle.vr_wasm_stacks.proofs.CountLemmas.{slots_at}
use Rattle.vr_wasm_stacks.proofs.FlatLemmas.{rooted_at}
use Rattle.vr_wasm_stacks.proofs.stacks.Stacks.code.Goals as goal

pub returns-clause-rooted : goal.returns-clause-rooted
returns-clause-rooted c = rooted_at c.args.self.now _ _ _ c.self.view_is

pub returns-clause-slots : goal.returns-clause-slots
returns-clause-slots c = omega (arith, slots_at c.args.self.now _ _ _ c.self.view_is c.self.invariant.rises, c.self.invariant.few_slots)
