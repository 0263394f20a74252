use Rattle.std.proofs.Common.{ap, ◌∙◌, ◌≡◌, ◌-◌, length, take, reverse, arith}
use Rattle.vr_wasm_stacks.specs.Flat.{position}
use Rattle.vr_wasm_stacks.proofs.CountLemmas.{slots_dropped}
use Rattle.vr_wasm_stacks.proofs.FlatLemmas.{dropped}
use Rattle.vr_wasm_stacks.proofs.stacks.Stacks.drop_last.Goals as goal

pub returns-clause-values : goal.returns-clause-values
returns-clause-values c =
    let count : c.len.result ≡ length c.self.inside.values.items = omega arith in
    ap (λ z. position (reverse c.self.inside.controls.items) z c.self.inside.code.now) (c.truncate.ensures.items ∙ ap (λ n. take (n - c.args.count) c.self.inside.values.items) count)
    ∙ dropped c.args.self.now _ _ _ c.args.count c.self.view_is c.self.invariant.rises c.requires

pub returns-clause-slots : goal.returns-clause-slots
returns-clause-slots c = slots_dropped c.args.self.now _ c.args.count (returns-clause-values c) c.requires
